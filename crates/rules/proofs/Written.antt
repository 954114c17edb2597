-- A line is its letter, the fields of a table that has the columns 2 to 80, CR and LF.
--   Formed l     = 82 bytes: 80 columns that are printed, CR and LF
--   formed_takes = 3 of it on disc
--   row_printed  = what 3 leaves in the columns of a line, on any medium
--   begun b ws vs zs = the letter, the fields, and what follows them
--   line_reads, line_fits_lem = the values are read from it, and each field obeys its rule
--   line_take    = its first 80 columns are the letter and the fields
--   line_formed  = it is a line
use Prim.Native.Nat.{ℕ, ◌+◌, ◌-◌, ◌≤◌, ◌<◌}
use native.Mathlib.Omega.{arith}
use mathlib.Core.Path.{◌≡◌, refl, sym, ap, ◌∙◌}
use mathlib.Core.Bool.{Bool, true}
use mathlib.Core.List.{List, [], ◌∷◌, ◌++◌, append-nil}
use lib.Dec.{eqb, leb}
use lib.ListN.{length, get_or, take, length-append, get_or-append}
use lib.Seq.{take_at, get_or_at, get_or-append-add}
use borrow.Author.Tests.{leb-true, le-leb, eqb-true, eq-eqb}
use Rattle.rules.specs.Text.{col}
use Rattle.rules.specs.Disc.{printable, byte_fits}
use Rattle.rules.specs.Layout.{Layout}
use Rattle.rules.specs.Medium.{Medium, sheet}
use Rattle.rules.specs.Rows.{Row}
use Rattle.rules.specs.Form.{stray, fields_fit}
use Rattle.rules.specs.Values.{Value, read_rows}
use Rattle.rules.specs.Spelled.{spell}
use Rattle.rules.specs.Writer.{width_of, joined, writable, line_of}
use Rattle.rules.proofs.Tests.{says, pick_is}
use Rattle.rules.proofs.Medium.{Lawful, prints_at as columns_print}
use Rattle.rules.proofs.Breach.{Met}
use Rattle.rules.proofs.Tiles.{Tiles, Fittings, Spells, PrintedTo, goes_both, joined_long, joined_at, rows_read, rows_fit}
use Rattle.rules.proofs.Printed.{Prints, prints_at, prints_both, spelled_prints}

-- a line of 82 bytes: 80 columns that are printed, CR and LF
pub record Formed (l : List ℕ) : Type 0 where
  pub long : length l ≡ 82
  pub printed : PrintedTo 81 l
  pub return : col l 81 ≡ 13
  pub feed : col l 82 ≡ 10

-- 3 of its bytes on disc
pub formed_takes : (l : List ℕ) → Formed l → (c : ℕ) → 1 ≤ c → c ≤ 82 → byte_fits c (col l c) ≡ true
unfolding byte_fits
formed_takes l w c o h =
    (pick_is (leb c 80) _ _ true).1 (
      (λ t. w.printed c o (let z = leb-true c 80 t in omega arith)),
      λ t.
          (pick_is (eqb c 81) _ _ true).1 (
            (λ u. eq-eqb _ 13 (ap (col l) (eqb-true c 81 u) ∙ w.return)),
            λ u.
                let a : c ≤ 80 → ⊥ = λ a. t (le-leb c 80 a) in
                let b : c ≡ 81 → ⊥ = λ b. u (eq-eqb c 81 b) in
                eq-eqb _ 10 (ap (col l) (let z : c ≡ 82 = omega arith in z) ∙ w.feed),
          ),
    )

-- a line that meets 3, on any medium
pub row_printed : (M : Medium) → Lawful M → (L : Layout) (f : List ℕ) (k : ℕ) → k < (sheet M L f).count → stray (sheet M L f) k ≡ 0
    → PrintedTo 81 ((sheet M L f).row k)
unfolding printable col
row_printed M w L f k h e c o l = let p = columns_print M w L f k h e (c - 1) (omega arith) in simp says (p.0, p.1)

joined_prints : (ws : List Row) (vs : List Value) → Fittings ws → writable ws vs ≡ true → Prints (joined ws vs)
unfolding joined writable
joined_prints [] vs f g = tt
joined_prints (w ∷ ws) [] f g = tt
joined_prints (w ∷ ws) (v ∷ vs) f g =
    let b = goes_both w ws v vs g in
    prints_both (spell w.kind (width_of w.columns) v) (joined ws vs) (spelled_prints f.0 v b.0) (joined_prints ws vs f.1 b.1)

-- the line, whatever follows its fields
abbrev pub begun : ℕ → List Row → List Value → List ℕ → List ℕ
begun b ws vs zs = b ∷ (joined ws vs ++ zs)

-- any table that has the columns 2 to 80
module _ (b : ℕ) (ws : List Row) (vs : List Value) (t : Tiles 2 ws 81) (f : Fittings ws) (g : writable ws vs ≡ true) where
  line_spells : (zs : List ℕ) → Spells (begun b ws vs zs) ws vs
  line_spells zs = joined_at 2 81 ws vs (b ∷ []) zs t g refl

  pub line_reads : length vs ≡ length ws → (zs : List ℕ) → read_rows (begun b ws vs zs) ws ≡ vs
  line_reads h zs = rows_read (begun b ws vs zs) ws vs f g h (line_spells zs)

  pub line_fits_lem : (i k : ℕ) (m : Bool) (zs : List ℕ) → Met (fields_fit i k m (begun b ws vs zs) ws)
  line_fits_lem i k m zs = rows_fit (begun b ws vs zs) i k m ws vs f g (line_spells zs)

  fields_long : length (b ∷ joined ws vs) ≡ 80
  fields_long = omega (arith, joined_long 2 81 ws vs t g)

  pub line_take : take 80 (line_of b ws vs) ≡ begun b ws vs []
  unfolding line_of
  line_take = take_at (b ∷ joined ws vs) (13 ∷ 10 ∷ []) 80 fields_long ∙ sym (append-nil (b ∷ joined ws vs))

  pub line_formed : printable b ≡ true → Formed (line_of b ws vs)
  unfolding line_of col
  line_formed p =
      let l = b ∷ joined ws vs in
      let n = fields_long in
      record {
        long = length-append l (13 ∷ 10 ∷ []) ∙ ap (λ (m : ℕ). m + 2) n;
        printed =
            λ c o h.
            rw (get_or-append l (13 ∷ 10 ∷ []) 0 (c - 1) (omega arith))
            (prints_at l (p, joined_prints ws vs f g) (c - 1) (omega arith));
        return = get_or_at l 13 (10 ∷ []) 0 80 n;
        feed = ap (λ (m : ℕ). get_or (l ++ (13 ∷ 10 ∷ [])) (m + 1) 0) (sym n) ∙ get_or-append-add l (13 ∷ 10 ∷ []) 1 0;
      }
