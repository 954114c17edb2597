-- 19 by pairs: the lines of a record are those from its first on.
--   once_is_apart   = 19 of line k, over those lines
--   apart_fine, apart_broken = what 19 says, by whether they are apart
use Prim.Native.Nat.{ℕ, ◌+◌, ◌<◌}
use mathlib.Core.Path.{◌≡◌, sym, ap, ◌∙◌}
use mathlib.Core.Bool.{Bool, true, false, not, ◌||◌}
use lib.Dec.{leb}
use Rattle.rules.specs.Plan.{fine, refused, №, run}
use Rattle.rules.specs.Sheet.{Sheet}
use Rattle.rules.specs.Relations.{reach_at}
use Rattle.rules.specs.Cover.{meet}
use Rattle.rules.specs.Reaches.{reaches_of, mates, once}
use Rattle.rules.specs.Order.{rule19}
use Rattle.rules.proofs.Steps.{need_met, need_broken}
use Rattle.lines.proofs.Tests.{every_same}
use Rattle.once.specs.Covered.{apart}

module _ (x : Sheet) (a k : ℕ) where
  pub once_is_apart : ((j : ℕ) → j < k → mates (reaches_of x) k j ≡ leb a j) → once (reaches_of x) k ≡ apart x a k
  unfolding once reaches_of apart
  once_is_apart own = every_same k _ _ (λ j h. ap (λ (t : Bool). not t || not (meet (reach_at x k) (reach_at x j))) (own j h))

  -- by what the code finds
  module _ (own : (j : ℕ) → j < k → mates (reaches_of x) k j ≡ leb a j) (t : Bool) (e : t ≡ apart x a k) where
    pub apart_fine : t ≡ true → fine ≡ run (rule19 x k)
    unfolding rule19
    apart_fine y = need_met _ _ (once_is_apart own ∙ sym e ∙ y)

    pub apart_broken : (c : ℕ) → c ≡ x.layout.from_receiver.first → t ≡ false → refused (№ 19 3 (k + 1) c) ≡ run (rule19 x k)
    unfolding rule19
    apart_broken c l y = ap (λ (c : ℕ). refused (№ 19 3 (k + 1) c)) l ∙ need_broken _ _ (once_is_apart own ∙ sym e ∙ y)
