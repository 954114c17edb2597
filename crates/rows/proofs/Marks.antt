-- Killed receivers, marked row by row.
--   MarkedTo r o t j = the rows before j are marked
--   marked_more      = one row more
--   mark_low         = a mark is 0 or 1
use Prim.Native.Nat.{ℕ, ◌+◌, ◌≤◌, ◌<◌}
use native.Mathlib.Nat.{eq-or-lt_of_le}
use native.Mathlib.Omega.{arith}
use mathlib.Core.Path.{◌≡◌, sym, ap, ◌∙◌}
use mathlib.Core.Logic.{⊎_elim}
use mathlib.Core.Bool.{Bool, true, false}
use mathlib.Core.List.{List}
use lib.ListN.{length, set}
use lib.Seq.{get_or-set_same, get_or-set_other}
use Rattle.rules.specs.Places.{pick}
use Rattle.rules.specs.Sheet.{Sheet}
use Rattle.order.specs.Sorted.{nth}
use Rattle.dead.specs.Dead.{killed_row}

abbrev pub MarkedTo : Sheet → List ℕ → List ℕ → ℕ → Type 0
MarkedTo r o t j = (i : ℕ) → i < j → nth t i ≡ pick (killed_row r o i) 1 0

pub marked_more : (r : Sheet) (o t : List ℕ) (j m : ℕ) → m ≡ pick (killed_row r o j) 1 0 → j < length t → MarkedTo r o t j
    → MarkedTo r o (set t j m) (j + 1)
marked_more r o t j m e h w i g =
    ⊎_elim
    (λ (z : i ≡ j). ap (nth (set t j m)) z ∙ get_or-set_same t j m 0 h ∙ e ∙ ap (λ (n : ℕ). pick (killed_row r o n) 1 0) (sym z))
    (λ (z : i < j). get_or-set_other t j i m 0 (λ y. omega arith) ∙ w i z)
    (eq-or-lt_of_le (let z : i ≤ j = omega arith in z))

pub mark_low : (b : Bool) → pick b 1 0 ≤ 1
unfolding pick
mark_low true = omega arith
mark_low false = omega arith
