-- Killed lines of R.
--   flag_is             = 1 where a line is killed, else 0
--   none_dead           = where no line of R is killed, an accepted set has no dead traces
use Prim.Native.Nat.{ℕ, ◌*◌, ◌<◌}
use mir.Val.{bool_byte}
use native.Mathlib.Nat.{zero-mul}
use mathlib.Core.Path.{◌≡◌, refl, sym, ap, ◌∙◌}
use mathlib.Core.Bool.{Bool, true, false}
use Rattle.rules.specs.Places.{pick, some}
use Rattle.rules.specs.Sheet.{Sheet}
use Rattle.rules.specs.Lines.{is_data}
use Rattle.rules.specs.Points.{point_at, is_killed}
use Rattle.rules.specs.Relations.{reach_at}
use Rattle.rules.specs.Check.{dead_of, dead_traces}
use Rattle.rules.proofs.Tests.{clash}
use Rattle.rules.proofs.Steps.{some_stop}
use Rattle.rules.proofs.Dead.{count_none}
use Rattle.lines.proofs.Tests.{untrue}
use Rattle.dead.specs.Dead.{Accepted, dead_at}
use Rattle.dead.proofs.Counting.{sum_zero}
use Rattle.dead.proofs.Accepted.{killed_on, there, dead_by_receivers}

pub flag_is : (b : Bool) → bool_byte b ≡ pick b 1 0
unfolding pick
flag_is true = refl
flag_is false = refl

module _ (r x : Sheet) (ok : Accepted r x) (none : some r.count (λ k. is_killed (point_at r k)) ≡ false) where
  alive : (k : ℕ) → k < r.count → is_killed (point_at r k) ≡ false
  alive k h = untrue _ (λ t. clash (sym none ∙ some_stop (λ k. is_killed (point_at r k)) k r.count h t))

  none_of : (k : ℕ) → k < x.count → is_data x k ≡ true → dead_of r (reach_at x k) ≡ 0
  none_of k h d =
      dead_by_receivers r x ok k (h, d)
      ∙ ap (λ (n : ℕ). n * (reach_at x k).step) (count_none _ (killed_on r (reach_at x k)) (λ i g. alive _ (there r x ok k (h, d) i g)))
      ∙ zero-mul (reach_at x k).step

  none_at : (k : ℕ) → k < x.count → dead_at r x k ≡ 0
  unfolding pick
  none_at k h = go (is_data x k) refl
    where
      go : (t : Bool) → is_data x k ≡ t → pick t (dead_of r (reach_at x k)) 0 ≡ 0
      go true e = none_of k h e
      go false e = refl

  pub none_dead : 0 ≡ dead_traces r x
  unfolding dead_traces
  none_dead = sym (sum_zero x.count (dead_at r x) none_at)
