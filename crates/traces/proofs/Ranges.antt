-- 20, by what the code finds of a question.
use Prim.Native.Nat.{ℕ, zero, suc, ◌≤◌}
use native.Mathlib.Numerals.{add-one}
use native.Mathlib.Omega.{arith}
use mathlib.Core.Path.{◌≡◌, refl, sym, ap, ◌∙◌}
use mathlib.Core.Bool.{Bool, true, false, ◌&&◌, not, and_assoc}
use mathlib.Core.List.{List}
use lib.Dec.{leb, eqb}
use lib.ListN.{length, get_or, take}
use lib.Seq.{take-length}
use Rattle.std.specs.List.{list_all}
use Rattle.std.proofs.lemmas.List.Folds.{list_all_more}
use Rattle.rules.specs.Places.{every}
use Rattle.rules.specs.Text.{col}
use Rattle.rules.specs.Kinds.{fits}
use Rattle.rules.specs.Layout.{sps93}
use Rattle.rules.specs.Disc.{printable}
use Rattle.rules.specs.Questions.{record_asked, line_asked, component_asked}
use Rattle.rules.proofs.Tests.{says, clash}

-- a condition that is asked where the one before it is met
pub and_then : (a b v : Bool) → a ≡ true → v ≡ b → v ≡ (a && b)
and_then true b v e f = f
and_then false b v e f = clash e

pub and_else : (a b v : Bool) → a ≡ false → v ≡ a → v ≡ (a && b)
and_else true b v e f = clash (sym e)
and_else false b v e f = f

-- bytes that are printable, one by one
printed_to : (t : List ℕ) (n : ℕ) → n ≤ length t
    → list_all (λ b. leb 32 b && leb b 126) (take n t) ≡ every n (λ i. printable (get_or t i 0))
unfolding every printable
printed_to t zero h = refl
printed_to t (suc n) h =
    rw add-one at (list_all_more (λ b. leb 32 b && leb b 126) t n 0 (omega arith))
    ∙ ap (λ (b : Bool). b && printable (get_or t n 0)) (printed_to t n (omega arith))

pub printed_by_test : (t : List ℕ) → list_all (λ b. leb 32 b && leb b 126) t ≡ every (length t) (λ i. printable (get_or t i 0))
printed_by_test t = ap (list_all (λ b. leb 32 b && leb b 126)) (sym (take-length t)) ∙ printed_to t (length t) (omega arith)

-- a tape and a record
pub record_by : (t : List ℕ) (n : ℕ) (u v : Bool) → u ≡ (eqb (length t) 6 && every (length t) (λ i. printable (get_or t i 0)))
    → v ≡ (u && not (eqb (get_or t 0 0) 32)) → (v && leb n 9999) ≡ record_asked sps93 t n
unfolding record_asked sps93 fits col
record_by t n u v e f = rw (f, e, and_assoc, and_assoc)

-- an R line counts from 1
pub line_asked_lem : (j m : ℕ) (b : Bool) → b ≡ (line_asked j && component_asked m) → b ≡ true → 1 ≤ j
unfolding line_asked
line_asked_lem j m b e z = (simp says at (sym e ∙ z)).0.0
