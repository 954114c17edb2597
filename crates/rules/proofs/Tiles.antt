-- A line whose fields stand one after the other: each is where its table has it.
--   Tiles c ws e  = the first field begins in column c, each next where the one before ends, and column e follows the last
--   Fittings ws   = each field's columns suit its kind
--   Spells l ws vs = each field of the line is the spelling of its value
--   joined_long   = the fields joined have the columns c to e - 1
--   joined_at     = each field is the spelling of its value
--   rows_read     = the values are read from it
--   rows_fit      = each field obeys its rule
--   rows_go       = what is read from fields that obey their rules can be written
use Prim.Native.Nat.{ℕ, ◌+◌, ◌≤◌, ◌<◌}
use native.Mathlib.Omega.{arith}
use mathlib.Core.Path.{◌≡◌, refl, sym, subst}
use mathlib.Core.Bool.{Bool, true, not, ◌&&◌}
use mathlib.Core.List.{List, [], ◌∷◌, ◌++◌, append_assoc}
use lib.ListN.{length, length-append}
use Rattle.rules.specs.Text.{col}
use Rattle.rules.specs.Disc.{printable}
use Rattle.rules.specs.Layout.{Span, at, sps93}
use Rattle.rules.specs.Rows.{Row, point_rows, relation_rows}
use Rattle.rules.specs.Form.{fields_fit}
use Rattle.rules.specs.Places.{pick}
use Rattle.rules.specs.Figures.{figures, decimal_of}
use Rattle.rules.specs.Values.{Value, read_rows}
use Rattle.rules.specs.Spelled.{with_point, spell, goes_into}
use Rattle.rules.specs.Writer.{width_of, joined, writable}
use Rattle.rules.proofs.Tests.{clash, and_is, not_is}
use Rattle.rules.proofs.Breach.{Met}
use Rattle.rules.proofs.Columns.{cols_part, cols_length, cols_at}
use Rattle.rules.proofs.Fitting.{Fitting, names, codes, given, if_any, one_digit, six_digits, coordinates, depths, wholes, integers, decimals, either_sign}
use Rattle.rules.proofs.Fitting.{Printed}
use Rattle.rules.proofs.Spelled.{spelled_long, spelled_fits, spelled_reads}
use Rattle.rules.proofs.Goes.{read_goes}

abbrev pub Tiles : ℕ → List Row → ℕ → Type 0
Tiles c [] e = c ≡ e
Tiles c (w ∷ ws) e = (w.columns.first ≡ c) × (c ≤ w.columns.last + 1) × Tiles (w.columns.last + 1) ws e

abbrev pub Fittings : List Row → Type 0
Fittings [] = Unit {0}
Fittings (w ∷ ws) = Fitting w.kind (width_of w.columns) × Fittings ws

abbrev pub Spells : List ℕ → List Row → List Value → Type 0
Spells l [] vs = Unit {0}
Spells l (w ∷ ws) [] = ⊥
Spells l (w ∷ ws) (v ∷ vs) = (at l w.columns ≡ spell w.kind (width_of w.columns) v) × Spells l ws vs

-- the first field's test, and the others'
pub goes_both : (w : Row) (ws : List Row) (v : Value) (vs : List Value) → writable (w ∷ ws) (v ∷ vs) ≡ true
    → (goes_into w.kind (width_of w.columns) v ≡ true) × (writable ws vs ≡ true)
unfolding writable
goes_both w ws v vs e = (and_is (goes_into w.kind (width_of w.columns) v) (writable ws vs)).0 e

pub joined_long : (c e : ℕ) (ws : List Row) (vs : List Value) → Tiles c ws e → writable ws vs ≡ true → length (joined ws vs) + c ≡ e
unfolding joined writable
joined_long c e [] vs t g = omega arith
joined_long c e (w ∷ ws) [] t g = clash g
joined_long c e (w ∷ ws) (v ∷ vs) t g =
    let b = goes_both w ws v vs g in
    let s = spelled_long w.kind (width_of w.columns) v b.0 in
    let r = joined_long (w.columns.last + 1) e ws vs t.2 b.1 in
    let f = t.0 in
    let o = t.1 in
    rw length-append (omega arith)

pub joined_at : (c e : ℕ) (ws : List Row) (vs : List Value) (xs zs : List ℕ) → Tiles c ws e → writable ws vs ≡ true → length xs + 1 ≡ c
    → Spells (xs ++ (joined ws vs ++ zs)) ws vs
unfolding joined writable at
joined_at c e [] vs xs zs t g h = tt
joined_at c e (w ∷ ws) [] xs zs t g h = clash g
joined_at c e (w ∷ ws) (v ∷ vs) xs zs t g h =
    let b = goes_both w ws v vs g in
    let s = spell w.kind (width_of w.columns) v in
    let l = spelled_long w.kind (width_of w.columns) v b.0 in
    let f = t.0 in
    let o = t.1 in
    let n = length-append xs s in
    let more = joined_at (w.columns.last + 1) e ws vs (xs ++ s) zs t.2 b.1 (omega arith) in
    let whole : joined (w ∷ ws) (v ∷ vs) ++ zs ≡ s ++ (joined ws vs ++ zs) = append_assoc s (joined ws vs) zs in (
      rw whole (cols_part xs s (joined ws vs ++ zs) w.columns.first w.columns.last (omega arith) l),
      subst (λ l. Spells (xs ++ l) ws vs) (sym whole) (rw (append_assoc xs s (joined ws vs ++ zs)) at more),
    )

module _ (l : List ℕ) where
  pub rows_read : (ws : List Row) (vs : List Value) → Fittings ws → writable ws vs ≡ true → length vs ≡ length ws → Spells l ws vs → read_rows l ws ≡ vs
  unfolding read_rows writable
  rows_read [] [] f g h s = refl
  rows_read [] (v ∷ vs) f g h s = absurd (omega arith)
  rows_read (w ∷ ws) [] f g h s = clash g
  rows_read (w ∷ ws) (v ∷ vs) f g h s =
      let b = goes_both w ws v vs g in
      rw (s.0, spelled_reads f.0 v b.0, rows_read ws vs f.1 b.1 (omega arith) s.1)

  pub rows_fit : (i k : ℕ) (m : Bool) (ws : List Row) (vs : List Value) → Fittings ws → writable ws vs ≡ true → Spells l ws vs → Met (fields_fit i k m l ws)
  unfolding fields_fit writable
  rows_fit i k m [] vs f g s = tt
  rows_fit i k m (w ∷ ws) [] f g s = clash g
  rows_fit i k m (w ∷ ws) (v ∷ vs) f g s =
      let b = goes_both w ws v vs g in
      ((λ t. rw s.0 (spelled_fits f.0 v b.0)), rows_fit i k m ws vs f.1 b.1 s.1)

-- a field's bytes are printed where its line's are
abbrev pub PrintedTo : ℕ → List ℕ → Type 0
PrintedTo e l = (c : ℕ) → 1 ≤ c → c < e → printable (col l c) ≡ true

at_printed : (l : List ℕ) (e : ℕ) (s : Span) → PrintedTo e l → 1 ≤ s.first → s.last < e → Printed (at l s)
unfolding at
at_printed l e s p o h i g =
    let n = cols_length l s.first o s.last in
    rw (cols_at l s.first o s.last i (omega arith)) (p (s.first + i) (omega arith) (omega arith))

tiles_end : (c e : ℕ) (ws : List Row) → Tiles c ws e → c ≤ e
tiles_end c e [] t = omega arith
tiles_end c e (w ∷ ws) t = let r = tiles_end (w.columns.last + 1) e ws t.2 in let o = t.1 in omega arith

looked_at : (b m : Bool) → (m ≡ true → ⊥) → not (b && m) ≡ true
looked_at b m h = (not_is (b && m)).1 (λ t. h ((and_is b m).0 t).1)

pub rows_go : (l : List ℕ) (i k : ℕ) (m : Bool) → (m ≡ true → ⊥) → (c e : ℕ) (ws : List Row) → Tiles c ws e → 1 ≤ c → Fittings ws → PrintedTo e l
    → Met (fields_fit i k m l ws) → writable ws (read_rows l ws) ≡ true
unfolding fields_fit writable read_rows at
rows_go l i k m n c e [] t o f p g = refl
rows_go l i k m n c e (w ∷ ws) t o f p g =
    let a = t.0 in
    let b = t.1 in
    let s = w.columns in
    let first : 1 ≤ s.first = omega arith in
    let last : s.last < e = let z = tiles_end (s.last + 1) e ws t.2 in omega arith in
    let here = g.0 (looked_at w.free_in_marker m n) in
    (and_is _ _).1 (
      read_goes f.0 (at l s) (cols_length l s.first first s.last) (at_printed l e s p first last) here,
      rows_go l i k m n (s.last + 1) e ws t.2 (omega arith) f.1 p g.1,
    )

-- the ends of a decimal's range in its columns
depth_ends : length (with_point 999) ≤ 4
unfolding with_point decimal_of figures pick
depth_ends = omega arith

elevation_ends : (length (with_point 9999) < 6) × (length (with_point 99999) ≤ 6)
unfolding with_point decimal_of figures pick
elevation_ends = omega arith

-- the two tables
infixr 40 ◌then◌
abbrev ◌then◌ : {A B : Type 0} → A → B → A × B
a then b = (a, b)

pub point_tiles : (i : ℕ) → Tiles 2 (point_rows sps93 i) 81
unfolding point_rows sps93
point_tiles i = omega arith

pub relation_tiles : Tiles 2 (relation_rows sps93) 81
unfolding relation_rows sps93
relation_tiles = omega arith

pub point_fittings : (i : ℕ) → Fittings (point_rows sps93 i)
unfolding point_rows sps93
point_fittings i =
    names then given wholes then given one_digit then codes then if_any integers then given (decimals depth_ends) then given integers then
    if_any wholes then if_any (depths {w = 4} (omega arith)) then given coordinates then given coordinates then
    given (either_sign elevation_ends.0 elevation_ends.1) then given wholes then given six_digits then tt

pub relation_fittings : Fittings (relation_rows sps93)
unfolding relation_rows sps93
relation_fittings =
    names then given wholes then given one_digit then given one_digit then names then given wholes then given one_digit then given wholes then
    given wholes then given one_digit then names then given wholes then given wholes then given one_digit then tt
