-- A slice over all lines of X.
--   above_none, none_filled = before the first
--   above_more, line_more   = after one more
--   filled_size             = a slice keeps its length
--   all_filled              = after the last
use Prim.Native.Nat.{ℕ, suc, ◌+◌, ◌-◌, ◌/◌, min}
use native.Mathlib.Numerals.{add-one}
use native.Mathlib.Omega.{arith}
use mathlib.Core.Path.{◌≡◌, refl, sym, ap, ◌∙◌}
use mathlib.Core.List.{List}
use lib.ListN.{length}
use Rattle.rules.specs.Places.{sum}
use Rattle.rules.specs.Sheet.{Sheet}
use Rattle.rules.specs.TraceRows.{traces_above, rows_over}
use Rattle.rules.proofs.TraceRows.{above_is}
use Rattle.rows.specs.Filled.{filled, places_to}
use Rattle.rows.proofs.Stretches.{filled_none, filled_length}

pub above_none : (x : Sheet) → 0 ≡ traces_above x 0
unfolding traces_above sum
above_none x = refl

pub above_more : (x : Sheet) (k n : ℕ) → n ≡ traces_above x (suc k) → n ≡ traces_above x (k + 1)
above_more x k n e = rw add-one e

module _ (r x : Sheet) (f : ℕ) (d : List ℕ) where
  pub none_filled : d ≡ filled r x f (places_to x f 0 d) d
  none_filled =
      let a = above_none x in
      let z : places_to x f 0 d ≡ 0 = omega arith in
      sym (ap (λ (n : ℕ). filled r x f n d) z ∙ filled_none r x f d)

  pub line_more : (k : ℕ) (p : List ℕ) → p ≡ filled r x f (places_to x f (suc k) d) d → p ≡ filled r x f (places_to x f (k + 1) d) d
  line_more k p e = e ∙ ap (λ (n : ℕ). filled r x f (places_to x f n d) d) (sym (add-one k))

  pub filled_size : (k : ℕ) (p : List ℕ) → p ≡ filled r x f (places_to x f k d) d → length p ≡ length d
  filled_size k p e = ap length e ∙ filled_length r x f (places_to x f k d) d (omega arith)

  pub all_filled : (k : ℕ) (p : List ℕ) → k ≡ x.count → p ≡ filled r x f (places_to x f k d) d → p ≡ rows_over r x f d
  unfolding rows_over
  all_filled k p z e = e ∙ ap (λ (n : ℕ). filled r x f (min (n - f) (length d / 16)) d) (ap (traces_above x) z ∙ above_is x)
