-- 6 of a relation line, one number after the other.
use Prim.Native.Nat.{ℕ, ◌+◌, ◌/◌, ◌%◌}
use native.Mathlib.Nat.{div-add-mod}
use native.Mathlib.Omega.{arith}
use mathlib.Core.Path.{◌≡◌, refl}
use mathlib.Core.Bool.{Bool, true, false}
use lib.Dec.{leb, eqb}
use Rattle.rules.specs.Places.{pick}
use Rattle.rules.specs.Plan.{Refusal, fine, refused, №, ◌or_else◌, need, ◌before◌, run}
use Rattle.rules.specs.Layout.{sps93}
use Rattle.rules.specs.Relations.{Reach}
use Rattle.rules.specs.Cover.{traces, receivers}
use Rattle.rules.specs.Form.{rule6}

-- an increment of 0 divides no number of channels
pub by_none : (n i : ℕ) → i ≡ 0 → n % i ≡ n
by_none n i z = rw z (let e = div-add-mod n 0 in omega arith)

three : (a b c : Bool) (u v w : Refusal)
    → run (need a u before need b v before need c w) ≡ pick a (pick b (pick c fine (refused w)) (refused v)) (refused u)
unfolding run pick ◌or_else◌
three true true c u v w = refl
three true false c u v w = refl
three false b c u v w = refl

pub six : (k : ℕ) (p : Reach) → run (rule6 sps93 k p)
    ≡ pick (leb p.from p.upto)
    (pick (eqb (traces p % p.step) 0) (pick (eqb (traces p / p.step) (receivers p)) fine (refused (№ 6 3 (k + 1) 72))) (refused (№ 6 3 (k + 1) 47)))
    (refused (№ 6 3 (k + 1) 39))
unfolding rule6 sps93
six k p = three _ _ _ _ _ _

pub ruleset channels = (six, by_none)
