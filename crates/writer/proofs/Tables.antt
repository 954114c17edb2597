-- The fields of a table, one after the other.
use Prim.Native.Nat.{ℕ, zero, suc, ◌+◌, ◌-◌, ◌≤◌, ◌<◌}
use native.Mathlib.Numerals.{add-one}
use native.Mathlib.Omega.{arith}
use mathlib.Core.Path.{◌≡◌, refl, sym, ap, ap₂, ◌∙◌}
use mathlib.Core.Bool.{Bool, true, false, ◌&&◌}
use mathlib.Core.List.{List, [], ◌∷◌, ◌++◌, append-nil, append_assoc}
use lib.Dec.{eqb}
use lib.ListN.{length, take, drop, get_or, drop_of_length-le}
use lib.Seq.{drop-cons, take-length}
use borrow.Author.Tests.{eqb-true}
use Rattle.rules.specs.Places.{every}
use Rattle.rules.specs.Layout.{sps93}
use Rattle.rules.specs.Rows.{Row, header_rows, point_rows, relation_rows}
use Rattle.rules.specs.Spelled.{spell, goes_into}
use Rattle.rules.specs.Values.{Value as PaperValue, nothing}
use Rattle.rules.specs.Writer.{width_of, joined, writable, line_of}
use Rattle.rules.proofs.Tests.{every_is}
use Rattle.records.specs.Coded.{no_row, rows_of}
use Rattle.records.specs.declared.table.Table.{Table}
use Rattle.records.specs.declared.table.Table.TheVariants.{Header, Point, Relation}
use Rattle.texts.specs.Buffer.{Adds}
use Rattle.texts.proofs.Adding.{then, starts}
use Rattle.writer.specs.Coded.{value_of, values_of}
use Rattle.writer.specs.Columns.{columns_to}
use Rattle.std.specs.Prelude.{Option}
use Rattle.writer.specs.declared.values.Value.{Value}

abbrev follows : List Row → ℕ → Bool
follows ws j = eqb (columns_to (take j ws) + 1) (get_or ws j no_row).columns.first

all_follow : (t : Table) → every (length (rows_of t)) (follows (rows_of t)) ≡ true
unfolding rows_of header_rows point_rows relation_rows sps93 columns_to every
all_follow Header = refl
all_follow (Point i) = refl
all_follow Relation = refl

pub follow_on : (t : Table) (j : ℕ) → j < length (rows_of t) → columns_to (take j (rows_of t)) + 1 ≡ (get_or (rows_of t) j no_row).columns.first
follow_on t j h = eqb-true (columns_to (take j (rows_of t)) + 1) (get_or (rows_of t) j no_row).columns.first
    ((every_is (length (rows_of t)) (follows (rows_of t))).0 (all_follow t) j h)

pub few_rows : (t : Table) → length (rows_of t) ≤ 14
unfolding rows_of header_rows point_rows relation_rows
few_rows Header = omega arith
few_rows (Point i) = omega arith
few_rows Relation = omega arith

columns_more : (ws : List Row) (j : ℕ) → j < length ws → columns_to (take (suc j) ws) ≡ columns_to (take j ws) + width_of (get_or ws j no_row).columns
unfolding columns_to
columns_more [] j h = absurd (omega arith)
columns_more (w ∷ ws) zero h = refl
columns_more (w ∷ ws) (suc j) h = rw (columns_more ws j (omega arith)) (omega arith)

-- the values of the rows
values_length : (ws : List Row) (vs : List (Option Value)) → length ws ≤ length vs → length (values_of ws vs) ≡ length ws
unfolding values_of
values_length [] vs h = refl
values_length (w ∷ ws) [] h = absurd (omega arith)
values_length (w ∷ ws) (v ∷ vs) h = ap suc (values_length ws vs (omega arith))

value_at_lem : (d : Option Value) (ws : List Row) (vs : List (Option Value)) (j : ℕ) → j < length ws → length ws ≤ length vs
    → get_or (values_of ws vs) j nothing ≡ value_of (width_of (get_or ws j no_row).columns) (get_or vs j d)
unfolding values_of
value_at_lem d [] vs j h g = absurd (omega arith)
value_at_lem d (w ∷ ws) [] j h g = absurd (omega arith)
value_at_lem d (w ∷ ws) (v ∷ vs) zero h g = refl
value_at_lem d (w ∷ ws) (v ∷ vs) (suc j) h g = value_at_lem d ws vs j (omega arith) (omega arith)

-- one row more
joined_more : (ws : List Row) (xs : List PaperValue) (j : ℕ) → j < length ws → j < length xs
    → joined (take (suc j) ws) (take (suc j) xs)
    ≡ joined (take j ws) (take j xs) ++ spell (get_or ws j no_row).kind (width_of (get_or ws j no_row).columns) (get_or xs j nothing)
unfolding joined
joined_more [] xs j h g = absurd (omega arith)
joined_more (w ∷ ws) [] j h g = absurd (omega arith)
joined_more (w ∷ ws) (x ∷ xs) zero h g = append-nil (spell w.kind (width_of w.columns) x)
joined_more (w ∷ ws) (x ∷ xs) (suc j) h g =
    ap (λ (l : List ℕ). spell w.kind (width_of w.columns) x ++ l) (joined_more ws xs j (omega arith) (omega arith))
    ∙ sym (append_assoc (spell w.kind (width_of w.columns) x) (joined (take j ws) (take j xs))
    (spell (get_or ws j no_row).kind (width_of (get_or ws j no_row).columns) (get_or xs j nothing)))

writable_more : (ws : List Row) (xs : List PaperValue) (j : ℕ) → j < length ws → j < length xs
    → writable (drop j ws) (drop j xs)
    ≡ (goes_into (get_or ws j no_row).kind (width_of (get_or ws j no_row).columns) (get_or xs j nothing) && writable (drop (j + 1) ws) (drop (j + 1) xs))
unfolding writable
writable_more ws xs j h g = rw (add-one j, drop-cons ws j no_row h, drop-cons xs j nothing g)

-- the loop over a table
module _ (t : Table) (vs : List (Option Value)) (n : length vs ≡ 14) (d : Option Value) where
  abbrev ws : List Row
  ws = rows_of t

  abbrev xs : List PaperValue
  xs = values_of ws vs

  enough : length ws ≤ length vs
  enough = let h = few_rows t in omega arith

  module _ (j : ℕ) (X : Bool) (e : writable (drop j ws) (drop j xs) ≡ X) where
    pub fields_end : length ws ≤ j → true ≡ X
    unfolding writable
    fields_end h = (rw (drop_of_length-le ws h)) ∙ e

    module _ (h : j < length ws) (w : Row) (q : w ≡ get_or ws j no_row) where
      abbrev v : PaperValue
      v = value_of (width_of w.columns) (get_or vs j d)

      value_is : get_or xs j nothing ≡ v
      value_is = value_at_lem d ws vs j h enough ∙ ap (λ (r : Row). value_of (width_of r.columns) (get_or vs j d)) (sym q)

      within : j < length xs
      within = let l = values_length ws vs enough in omega arith

      step : (goes_into w.kind (width_of w.columns) v && writable (drop (j + 1) ws) (drop (j + 1) xs)) ≡ X
      step =
          ap₂ (λ (r : Row) (y : PaperValue). goes_into r.kind (width_of r.columns) y && writable (drop (j + 1) ws) (drop (j + 1) xs)) q (sym value_is)
          ∙ sym (writable_more ws xs j h within) ∙ e

      module _ (b : Bool) (g : b ≡ goes_into w.kind (width_of w.columns) v) where
        pub fields_stop : b ≡ false → false ≡ X
        fields_stop z = rw (← g, z) at step

        pub fields_step : b ≡ true → writable (drop (j + 1) ws) (drop (j + 1) xs) ≡ X
        fields_step z = rw (← g, z) at step

      pub fields_place : w.columns.first - 1 ≡ columns_to (take j ws)
      fields_place = let f = follow_on t j h ∙ ap (λ (r : Row). r.columns.first) (sym q) in omega arith

      pub fields_more : w.columns.first ≤ w.columns.last → {l l' l'' : List ℕ} → Adds l 1 (joined (take j ws) (take j xs)) l' (columns_to (take j ws))
          → Adds l' (w.columns.first - 1) (spell w.kind (width_of w.columns) v) l'' w.columns.last
          → Adds l 1 (joined (take (j + 1) ws) (take (j + 1) xs)) l'' (columns_to (take (j + 1) ws))
      fields_more o a f = rw (text, ← place) (then a (rw fields_place at f))
        where
          text : joined (take (j + 1) ws) (take (j + 1) xs) ≡ joined (take j ws) (take j xs) ++ spell w.kind (width_of w.columns) v
          text =
              ap (λ (i : ℕ). joined (take i ws) (take i xs)) (add-one j) ∙ joined_more ws xs j h within
              ∙ ap₂ (λ (r : Row) (y : PaperValue). joined (take j ws) (take j xs) ++ spell r.kind (width_of r.columns) y) (sym q) value_is

          place : w.columns.last ≡ columns_to (take (j + 1) ws)
          place =
              let k = ap (λ (i : ℕ). columns_to (take i ws)) (add-one j) ∙ columns_more ws j h
              ∙ ap (λ (r : Row). columns_to (take j ws) + width_of r.columns) (sym q) in
              let p = fields_place in
              let f = follow_on t j h ∙ ap (λ (r : Row). r.columns.first) (sym q) in
              omega arith

  pub fields_all : (j : ℕ) → j ≡ length ws → {l l' : List ℕ} → Adds l 1 (joined (take j ws) (take j xs)) l' (columns_to (take j ws))
      → Adds l 1 (joined ws xs) l' (columns_to ws)
  fields_all j e a =
      let p : take j ws ≡ ws = ap (λ (i : ℕ). take i ws) e ∙ take-length ws in
      let q : take j xs ≡ xs = ap (λ (i : ℕ). take i xs) (e ∙ sym (values_length ws vs enough)) ∙ take-length xs in
      rw (p, q) at a

-- the letter, the fields and the end of the line
pub line_is : (b : ℕ) (ws : List Row) (xs : List PaperValue) → columns_to ws ≡ 80 → {l l₁ l₂ l₃ : List ℕ} {i m : ℕ} → Adds l 0 (b ∷ []) l₁ i
    → Adds l₁ 1 (joined ws xs) l₂ (columns_to ws) → Adds l₂ 80 (13 ∷ 10 ∷ []) l₃ m → length l₃ ≡ 82 → l₃ ≡ line_of b ws xs
unfolding line_of
line_is b ws xs e {l} {l₁} {l₂} {l₃} {i} {m} p q r n =
    let o : i ≡ 1 = omega (arith, p.ends) in
    let w = starts (then (rw o at p) (then (rw e at q) r)) in
    let k : m ≡ length l₃ = omega (arith, r.ends) in
    sym (ap (λ (j : ℕ). take j l₃) k ∙ take-length l₃) ∙ w.0

-- the fields of a line end in column 80
pub point_end : (i : ℕ) → columns_to (point_rows sps93 i) ≡ 80
unfolding point_rows sps93 columns_to
point_end i = refl

pub relation_end : columns_to (relation_rows sps93) ≡ 80
unfolding relation_rows sps93 columns_to
relation_end = refl

pub ruleset ends = (point_end, relation_end)
