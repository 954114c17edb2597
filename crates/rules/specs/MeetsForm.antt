-- Refusals 1 to 6 and 29 in words, of one file: what each rule says, and what it is to break it. File i, line k of it.
--   Header l             = H in column 1
--   Marker L l           = PM in the code's columns
--   Data f k, Point f k  = line k is no header line; and no marker: a receiver or a shot
--   Relates i f k        = line k of file i is a relation line
--   Taken f k c          = the medium takes the byte in column c of line k
--   FieldsRead M l ws    = each field of the table obeys its rule, but those that a marker has free, where M says that l is one
--   Checked M w          = the field is asked of the line: it is not one that a marker has free
--   FirstOf M l ws c     = the first field from the left that breaks its rule, and it begins in column c
--   Counted q            = 6 of one relation line, and Miscounted L q c that it is broken, in column c
--   FirstEnd f e, NoEnd f = line e is the first that ends the file; none does
--   Rule1 .. Rule6, Rule29 = the rules of those numbers
--   Breach1 .. Breach6   = the contrary of each; of 3, 5 and 6 in that column, and of 29 in that line
--   Formed i f           = a field for each of the rules
use Rattle.std.specs.Prelude.{ℕ, ◌+◌, ◌/◌, ◌%◌, ◌≤◌, ◌<◌, ◌≡◌, ◌⊎◌, true, List, [], ◌∷◌, ◌++◌, length}
use Prim.Native.Char.{code as ascii}
use Rattle.rules.specs.Plan.{file_x}
use Rattle.rules.specs.Text.{col, bytes}
use Rattle.rules.specs.Layout.{Layout, letter_column, at}
use Rattle.rules.specs.Sheet.{Sheet, most_lines, all_lines}
use Rattle.rules.specs.Lines.{letter}
use Rattle.rules.specs.Relations.{Reach, reach_at}
use Rattle.rules.specs.Cover.{traces, receivers}
use Rattle.rules.specs.Rows.{Row, header_rows, point_rows, relation_rows}
use Rattle.rules.specs.MeetsFields.{Reads}

abbrev pub Header : List ℕ → Type 0
Header l = col l letter_column ≡ ascii "H"

abbrev pub Marker : Layout → List ℕ → Type 0
Marker L l = at l L.code ≡ bytes "PM"

abbrev pub Data : Sheet → ℕ → Type 0
Data f k = Header (f.row k) → ⊥

abbrev pub Point : Sheet → ℕ → Type 0
Point f k = Data f k × (Marker f.layout (f.row k) → ⊥)

abbrev pub Relates : ℕ → Sheet → ℕ → Type 0
Relates i f k = Data f k × (i ≡ file_x)

-- 1: "file length is no multiple of 82", or of another medium's line
abbrev pub Rule1 : Sheet → Type 0
Rule1 f = f.left ≡ 0

abbrev pub Breach1 : Sheet → Type 0
Breach1 f = f.left ≡ 0 → ⊥

-- 2: "more than 9,999 lines"
abbrev pub Rule2 : Sheet → Type 0
Rule2 f = all_lines f ≤ most_lines

abbrev pub Breach2 : Sheet → Type 0
Breach2 f = most_lines < all_lines f

-- 29: "no record is EOF: at the line after the last record; records follow the first EOF: at the line after that EOF"
abbrev pub FirstEnd : Sheet → ℕ → Type 0
FirstEnd f e = (e < all_lines f) × (f.ends e ≡ true) × ((j : ℕ) → j < e → f.ends j ≡ true → ⊥)

abbrev pub NoEnd : Sheet → Type 0
NoEnd f = (j : ℕ) → j < all_lines f → f.ends j ≡ true → ⊥

abbrev pub Rule29 : Sheet → Type 0
Rule29 f = ((e : ℕ) × FirstEnd f e × (e + f.closing ≡ all_lines f)) ⊎ (NoEnd f × (f.closing ≡ 0))

abbrev pub Breach29 : Sheet → ℕ → Type 0
Breach29 f l =
    ((e : ℕ) × FirstEnd f e × (e + f.closing ≡ all_lines f → ⊥) × (e + 2 ≡ l))
    ⊎ (NoEnd f × (f.closing ≡ 0 → ⊥) × (all_lines f + 1 ≡ l))

-- 3: "a byte outside its range, or no CR or LF at 81, 82"; the lowest such column
abbrev pub Taken : Sheet → ℕ → ℕ → Type 0
Taken f k c = f.takes c (col (f.raw k) c) ≡ true

abbrev pub Rule3 : Sheet → ℕ → Type 0
Rule3 f k = (c : ℕ) → 1 ≤ c → c ≤ length (f.raw k) → Taken f k c

abbrev pub Breach3 : Sheet → ℕ → ℕ → Type 0
Breach3 f k c =
    (1 ≤ c) × (c ≤ length (f.raw k)) × (Taken f k c → ⊥) × ((d : ℕ) → 1 ≤ d → d < c → Taken f k d)

-- 4: "column 1 not H or the file's letter, or H after data"
abbrev pub Rule4 : ℕ → Sheet → ℕ → Type 0
Rule4 i f k =
    (Header (f.row k) → (j : ℕ) → j < k → Header (f.row j)) × (Data f k → col (f.row k) letter_column ≡ letter i)

abbrev pub Breach4 : ℕ → Sheet → ℕ → Type 0
Breach4 i f k =
    (Header (f.row k) × ((j : ℕ) × (j < k) × Data f j)) ⊎ (Data f k × (col (f.row k) letter_column ≡ letter i → ⊥))

-- 5: "a field breaks its rule", by field from the left
abbrev pub Checked : Type 0 → Row → Type 0
Checked M w = (w.free_in_marker ≡ true) × M → ⊥

abbrev pub FieldsRead : Type 0 → List ℕ → List Row → Type 0
FieldsRead M l [] = Unit {0}
FieldsRead M l (w ∷ ws) = (Checked M w → Reads w.kind (at l w.columns)) × FieldsRead M l ws

abbrev pub FirstOf : Type 0 → List ℕ → List Row → ℕ → Type 0
FirstOf M l ws c =
    (left : List Row) × (w : Row) × (right : List Row) × (ws ≡ left ++ (w ∷ right)) × FieldsRead M l left
    × Checked M w × (Reads w.kind (at l w.columns) → ⊥) × (w.columns.first ≡ c)

abbrev pub Rule5 : ℕ → Layout → List ℕ → Type 0
Rule5 i L l =
    (Header l → FieldsRead ⊥ l (header_rows L))
    × (((Header l → ⊥) × (i ≡ file_x → ⊥) → FieldsRead (Marker L l) l (point_rows L i))
    × ((Header l → ⊥) × (i ≡ file_x) → FieldsRead ⊥ l (relation_rows L)))

abbrev pub Breach5 : ℕ → Layout → List ℕ → ℕ → Type 0
Breach5 i L l c =
    (Header l × FirstOf ⊥ l (header_rows L) c)
    ⊎ ((((Header l → ⊥) × (i ≡ file_x → ⊥)) × FirstOf (Marker L l) l (point_rows L i) c)
    ⊎ (((Header l → ⊥) × (i ≡ file_x)) × FirstOf ⊥ l (relation_rows L) c))

-- 6: "F > T (39); T-F+1 no multiple of I (47); (T-F+1)/I differs from .. receivers (72)", "the absolute difference plus 1"
abbrev pub Counted : Reach → Type 0
Counted q =
    (q.from ≤ q.upto) × ((traces q % q.step ≡ 0) × (traces q / q.step ≡ receivers q))

abbrev pub Rule6 : ℕ → Sheet → ℕ → Type 0
Rule6 i f k = Relates i f k → Counted (reach_at f k)

abbrev pub Miscounted : Layout → Reach → ℕ → Type 0
Miscounted L q c =
    ((q.upto < q.from) × (L.from.first ≡ c))
    ⊎ ((q.from ≤ q.upto)
    × (((traces q % q.step ≡ 0 → ⊥) × (L.step.first ≡ c))
    ⊎ ((traces q % q.step ≡ 0) × ((traces q / q.step ≡ receivers q → ⊥) × (L.to_receiver.first ≡ c)))))

abbrev pub Breach6 : ℕ → Sheet → ℕ → ℕ → Type 0
Breach6 i f k c = Relates i f k × Miscounted f.layout (reach_at f k) c

pub record Formed (i : ℕ) (f : Sheet) : Type 0 where
  pub rule1 : Rule1 f
  pub rule2 : Rule2 f
  pub rule29 : Rule29 f
  pub rule3 : (k : ℕ) → k < f.count → Rule3 f k
  pub rule4 : (k : ℕ) → k < f.count → Rule4 i f k
  pub rule5 : (k : ℕ) → k < f.count → Rule5 i f.layout (f.row k)
  pub rule6 : (k : ℕ) → k < f.count → Rule6 i f k
