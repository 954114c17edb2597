-- Running counts, written row by row.
--   Passed r o t j   = t holds the counts of the rows before j
--   lines_by_lem         = the rows of an order are lines, and t has a place for each where it has one for each line
--   counted_on, few_counted, row_passed = one row more
use Prim.Native.Nat.{ℕ, ◌+◌, ◌≤◌, ◌<◌}
use native.Mathlib.Nat.{eq-or-lt_of_le}
use native.Mathlib.Omega.{arith}
use mathlib.Core.Path.{◌≡◌, sym, ap, ◌∙◌}
use mathlib.Core.Logic.{⊎_elim}
use mathlib.Core.Bool.{Bool}
use mathlib.Core.List.{List}
use lib.ListN.{length, set}
use lib.Seq.{get_or-set_same, get_or-set_other}
use Rattle.rules.specs.Places.{pick, count}
use Rattle.rules.specs.Sheet.{Sheet, most_lines}
use Rattle.keys.specs.declared.Key.{Key}
use Rattle.order.specs.Sorted.{nth}
use Rattle.order.specs.Listed.{Order}
use Rattle.dead.specs.Dead.{killed_row, Lines}
use Rattle.dead.proofs.Counting.{count_one, count_most}

abbrev pub Passed : Sheet → List ℕ → List ℕ → ℕ → Type 0
Passed r o t j = (i : ℕ) → i < j → nth t i ≡ count (i + 1) (killed_row r o)

pub lines_by_lem : (T : ℕ → Bool) (K : ℕ → Key) (r : Sheet) (o t : List ℕ) → Order T K o (length o) r.count
    → r.count ≤ most_lines → r.count ≤ length t → Lines r o t
lines_by_lem T K r o t w a b = let f = w.few in record { few = omega arith; room = omega arith; own = w.own }

module _ (r : Sheet) (o t : List ℕ) where
  module _ (j n one : ℕ) (e : n ≡ count j (killed_row r o)) (f : one ≡ pick (killed_row r o j) 1 0) where
    pub counted_on : n + one ≡ count (j + 1) (killed_row r o)
    counted_on = let z = count_one (killed_row r o) j in omega arith

    pub few_counted : n + one ≤ j + 1
    few_counted = omega (arith, counted_on, count_most (killed_row r o) (j + 1))

    pub row_passed : j < length t → Passed r o t j → Passed r o (set t j (n + one)) (j + 1)
    row_passed h w i g =
        ⊎_elim
        (λ (z : i ≡ j).
        ap (nth (set t j (n + one))) z ∙ get_or-set_same t j (n + one) 0 h ∙ counted_on
        ∙ ap (λ (m : ℕ). count (m + 1) (killed_row r o)) (sym z))
        (λ (z : i < j). get_or-set_other t j i (n + one) 0 (λ y. omega arith) ∙ w i z)
        (eq-or-lt_of_le (let z : i ≤ j = omega arith in z))
