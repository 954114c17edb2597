-- Rows of traces that follow each other, at the first places of a slice.
--   rows_length   = sixteen bytes a row
--   filled_none   = no row
--   filled_length = a slice keeps its length
--   filled_more   = rows put behind rows
use Prim.Native.Nat.{ℕ, zero, suc, ◌+◌, ◌*◌, ◌≤◌}
use native.Mathlib.Omega.{arith}
use mathlib.Core.Path.{◌≡◌, refl}
use mathlib.Core.List.{List, ◌++◌, append_assoc, append-nil}
use lib.ListN.{length, drop, length-append, length-drop}
use lib.Seq.{take_at, drop_at, drop-drop}
use Rattle.rules.specs.Sheet.{Sheet}
use Rattle.rules.specs.TraceRows.{TraceRow, row_bytes, rows_from}
use Rattle.rows.specs.Spliced.{spliced}
use Rattle.rows.specs.Filled.{filled}
use Rattle.rows.proofs.Splices.{low_length}

pub row_length : (w : TraceRow) → length (row_bytes w) ≡ 16
unfolding row_bytes
row_length w = simp (length-append, low_length)

module _ (r x : Sheet) (i : ℕ) where
  pub rows_length : (n : ℕ) → length (rows_from r x i n) ≡ 16 * n
  unfolding rows_from
  rows_length zero = refl
  rows_length (suc n) = let l = rows_length n in simp (length-append, row_length) (omega arith)

  rows_add : (a n : ℕ) → rows_from r x i (a + n) ≡ rows_from r x i a ++ rows_from r x (i + a) n
  unfolding rows_from
  rows_add a zero = let z : a + 0 ≡ a = omega arith in rw (z, append-nil)
  rows_add a (suc n) =
      let z : a + suc n ≡ suc (a + n) = omega arith in
      let y : i + (a + n) ≡ i + a + n = omega arith in
      rw (z, rows_add a n, y, append_assoc)

  pub filled_none : (d : List ℕ) → filled r x i 0 d ≡ d
  unfolding rows_from
  filled_none d = refl

  pub filled_length : (n : ℕ) (d : List ℕ) → 16 * n ≤ length d → length (filled r x i n d) ≡ length d
  filled_length n d h = let l = rows_length n in simp (length-append, length-drop) (omega arith)

module _ (r x : Sheet) (i : ℕ) where
  pub filled_more : (a n : ℕ) (d : List ℕ) → 16 * (a + n) ≤ length d
      → spliced (16 * a) (rows_from r x (i + a) n) (filled r x i a d) ≡ filled r x i (a + n) d
  unfolding spliced
  filled_more a n d h =
      let p = rows_from r x i a in
      let b = drop (16 * a) d in
      let l = rows_length r x i a in
      let m = rows_length r x (i + a) n in
      let z : 16 * a + 16 * n ≡ 16 * (a + n) = omega arith in
      rw (
        m,
        take_at p b (16 * a) l,
        ← drop-drop (16 * n) (16 * a) (p ++ b),
        drop_at p b (16 * a) l,
        drop-drop,
        z,
        rows_add r x i a n,
        append_assoc,
      )
