-- What the disc takes, in words: 3 of a line on disc.
--   takes_is     = 3 of line k says that each of its bytes is proper
use Prim.Native.Nat.{ℕ, ◌+◌, ◌-◌, ◌*◌, ◌<◌}
use native.Mathlib.Omega.{arith}
use mathlib.Core.Path.{◌≡◌, subst}
use mathlib.Core.Logic.Iff
use mathlib.Core.Logic.{◌↔◌}
use mathlib.Core.Bool.{true}
use mathlib.Core.List.{List}
use lib.ListN.{get_or}
use Rattle.rules.specs.Layout.{Layout}
use Rattle.rules.specs.Medium.{sheet}
use Rattle.rules.specs.Disc.{printable, byte_fits, disc}
use Rattle.rules.specs.MeetsForm.{Rule3}
use Rattle.rules.specs.MeetsDisc.{Proper, Clean}
use Rattle.rules.proofs.Tests.{says}
use Rattle.rules.proofs.Raw.{clean_stray}
use Rattle.rules.proofs.Medium.{clean_is}
use Rattle.rules.proofs.Media.{disc_lawful}

pub proper_is : (c b : ℕ) → (byte_fits c b ≡ true) ↔ Proper c b
unfolding byte_fits printable
proper_is c b = simp says Iff.rfl

module _ (L : Layout) (f : List ℕ) (k : ℕ) (h : k < (sheet disc L f).count) where
  pub takes_is : Rule3 (sheet disc L f) k ↔ Clean f k
  unfolding disc
  takes_is =
      let b = clean_is disc disc_lawful L f k h in
      let d = clean_stray (sheet disc L f) k in (
        λ g c o l.
            let q : c - 1 + 1 ≡ c = omega arith in
            subst (λ (m : ℕ). Proper m (get_or f (82 * k + (c - 1)) 0)) q ((proper_is _ _).0 (b.0 (d.1 g) (c - 1) (omega arith))),
        λ g.
            d.0
            (b.1
            (λ c l.
            let z : c + 1 - 1 ≡ c = omega arith in
            (proper_is _ _).1 (subst (λ (m : ℕ). Proper (c + 1) (get_or f (82 * k + m) 0)) z (g (c + 1) (omega arith) (omega arith))))),
      )
