-- Rows that all fit: then 5 refuses nothing.
use Prim.Native.Nat.{ℕ, zero, suc, ◌+◌}
use mathlib.Core.Path.{◌≡◌, refl}
use mathlib.Core.Bool.{Bool, true, false, not, ◌&&◌, ◌||◌}
use mathlib.Core.List.{List, [], ◌∷◌}
use lib.ListN.{take, drop}
use borrow.Author.Tests.{not-true}
use Rattle.rules.specs.Places.{pick}
use Rattle.rules.specs.Plan.{Refusal, fine, ◌or_else◌, Plan, №, need, when, ◌before◌, run}
use Rattle.rules.specs.Text.{blank}
use Rattle.rules.specs.Layout.{at}
use Rattle.rules.specs.Kinds.{Kind, fits, may_be_blank}
use Rattle.rules.specs.Rows.{Row}
use Rattle.rules.specs.Form.{fields_fit}
use Rattle.rules.proofs.Tests.{and_is, clash}
use Rattle.records.specs.Fitting.{all_fit, kept, kept_rows, free_rows}

-- a field that may be blank
pub may_fit : (k : Kind) (bs : List ℕ) → fits (may_be_blank k) bs ≡ (blank bs || fits k bs)
unfolding fits
may_fit k bs = refl

-- a row that fits, or is free, before others that refuse nothing
row_met : (a b : Bool) (x : Refusal) (p : Plan) → fine ≡ run p → (not a ≡ true → b ≡ true) → fine ≡ run (when (not a) (need b x) before p)
unfolding run pick ◌or_else◌
row_met true b x p h f = h
row_met false true x p h f = h
row_met false false x p h f = clash (f refl)

module _ (l : List ℕ) where
  -- the first row, and the others, by whether a marker has it free
  apart : (m f : Bool) (w : Row) (ks fs : List Row) → all_fit l (kept (not f) w ks) ≡ true
      → (m ≡ false → all_fit l (kept f w fs) ≡ true)
      → (all_fit l ks ≡ true) × ((m ≡ false → all_fit l fs ≡ true) × (not (f && m) ≡ true → fits w.kind (at l w.columns) ≡ true))
  apart m true w ks fs p q =
      let b = and_is (fits w.kind (at l w.columns)) (all_fit l fs) in
      (p, (λ e. (b.0 (q e)).1, λ e. (b.0 (q (not-true m e))).0))
  apart m false w ks fs p q =
      let b = and_is (fits w.kind (at l w.columns)) (all_fit l ks) in
      ((b.0 p).1, (q, λ e. (b.0 p).0))

  pub rows_fine : (i k : ℕ) (m : Bool) (ws : List Row) → all_fit l (kept_rows ws) ≡ true → (m ≡ false → all_fit l (free_rows ws) ≡ true)
      → fine ≡ run (fields_fit i k m l ws)
  unfolding fields_fit run
  rows_fine i k m [] p q = refl
  rows_fine i k m (w ∷ ws) p q =
      let z = apart m w.free_in_marker w (kept_rows ws) (free_rows ws) p q in
      row_met (w.free_in_marker && m) (fits w.kind (at l w.columns)) (№ 5 i (k + 1) w.columns.first) (fields_fit i k m l ws)
      (rows_fine i k m ws z.0 z.1.0) z.1.1

  pub two_parts : (n : ℕ) (ws : List Row) → all_fit l (take n ws) ≡ true → all_fit l (drop n ws) ≡ true → all_fit l ws ≡ true
  two_parts zero ws p q = q
  two_parts (suc n) [] p q = refl
  two_parts (suc n) (w ∷ ws) p q =
      let b = (and_is (fits w.kind (at l w.columns)) (all_fit l (take n ws))).0 p in
      (and_is _ _).1 (b.0, two_parts n ws b.1 q)

pub ruleset fields = (may_fit, rows_fine, two_parts)
