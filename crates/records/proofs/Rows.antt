-- 5 over the rows of a table: each law takes the loop's equation and what row j says.
use Prim.Native.Nat.{ℕ, ◌+◌, ◌≤◌, ◌<◌}
use native.Mathlib.Numerals.{add-one}
use mathlib.Core.Path.{◌≡◌, refl, sym, ap, ◌∙◌}
use mathlib.Core.Bool.{Bool, true, false, not, ◌&&◌, ◌||◌}
use mathlib.Core.List.{List, ◌∷◌}
use lib.ListN.{length, get_or, drop, drop_of_length-le}
use lib.Seq.{drop-cons}
use Rattle.rules.specs.Places.{pick}
use Rattle.rules.specs.Plan.{Refusal, Verdict, fine, refused, ◌or_else◌, Plan, №, need, when, ◌before◌, run}
use Rattle.rules.specs.Text.{cols, blank}
use Rattle.rules.specs.Layout.{at}
use Rattle.rules.specs.Kinds.{Kind, fits}
use Rattle.rules.specs.Rows.{Row}
use Rattle.rules.specs.Form.{fields_fit}
use Rattle.fields.specs.Paper.{kind}
use Rattle.records.specs.Coded.{row_fits, no_row, row_of, or_blank}
use Rattle.records.specs.declared.table.Row.{Row as CodeRow}

-- one row before the others
one_row : (a b : Bool) (w : Refusal) (p : Plan) → run (when (not a) (need b w) before p) ≡ pick (a || b) (run p) (refused w)
unfolding run pick ◌or_else◌
one_row true b w p = refl
one_row false true w p = refl
one_row false false w p = refl

module _ (i k : ℕ) (m : Bool) (l : List ℕ) (ws : List Row) (j : ℕ) (X : Verdict) (e : run (fields_fit i k m l (drop j ws)) ≡ X) where
  pub rows_end : length ws ≤ j → fine ≡ X
  unfolding fields_fit run
  rows_end h = (rw (drop_of_length-le ws h)) ∙ e

  module _ (h : j < length ws) (w : Row) (q : w ≡ get_or ws j no_row) (t : Bool) (y : t ≡ row_fits m l w) where
    step : pick t (run (fields_fit i k m l (drop (j + 1) ws))) (refused (№ 5 i (k + 1) w.columns.first)) ≡ X
    unfolding fields_fit row_fits
    step =
        ap (λ (t : Bool). pick t (run (fields_fit i k m l (drop (j + 1) ws))) (refused (№ 5 i (k + 1) w.columns.first))) y
        ∙ sym (one_row (w.free_in_marker && m) (fits w.kind (at l w.columns)) (№ 5 i (k + 1) w.columns.first) (fields_fit i k m l (drop (j + 1) ws)))
        ∙ ap (λ (v : List Row). run (fields_fit i k m l v)) (sym (next))
        ∙ e
      where
        next : drop j ws ≡ w ∷ drop (j + 1) ws
        next = rw (q, add-one, drop-cons ws j no_row)

    pub rows_step : t ≡ true → run (fields_fit i k m l (drop (j + 1) ws)) ≡ X
    unfolding pick
    rows_step z = (rw z at step)

    pub rows_stop : t ≡ false → refused (№ 5 i (k + 1) w.columns.first) ≡ X
    unfolding pick
    rows_stop z = (rw z at step)

-- one row, by what the code asks of it
or_blank_lem : (b : Bool) (k : Kind) (bs : List ℕ) → fits (or_blank b k) bs ≡ ((b && blank bs) || fits k bs)
unfolding fits
or_blank_lem true k bs = refl
or_blank_lem false k bs = refl

pub asks : (m : Bool) (l : List ℕ) (w : CodeRow) → row_fits m l (row_of w)
    ≡ ((w.free && m) || ((w.blank && blank (cols l w.first w.last)) || fits (kind w.kind) (cols l w.first w.last)))
unfolding row_fits at
asks m l w = ap (λ (t : Bool). (w.free && m) || t) (or_blank_lem w.blank (kind w.kind) (cols l w.first w.last))
