-- "A writer for the three files. Given the field values of a point or relation, write its 82 bytes at the start of a lent slice; later bytes stay."
--   width_of s          = how many columns a span has
--   joined ws vs       = the columns of a table's fields, one after the other
--   writable ws vs     = each value goes into its field
--   line_of b ws vs     = the 82 bytes of a line: its letter, the fields, CR and LF
--   point_goes, relation_goes = 22 of values in the order of the table
--   point_writes b p    = 22: a letter R or S, no marker, a state that agrees with the code, and values that their fields take
--   relation_writes v   = 22: values that their fields take, and 6
--   writes ok n        = 22, then 23 of a slice of n bytes
--   into v l o         = o with l in its first places, unless v refuses
use Rattle.std.specs.Prelude.{ℕ, ◌+◌, ◌-◌, Bool, true, false, ◌&&◌, List, [], ◌∷◌, ◌++◌, leb, length, drop}
use Rattle.rules.specs.Plan.{Plan, №, Verdict, fine, refused, file_r, file_s, file_x, need, ◌before◌, run}
use Rattle.rules.specs.Layout.{Span, sps93}
use Rattle.rules.specs.Lines.{letter, kind_of}
use Rattle.rules.specs.Points.{State, live, killed, marker, state_of, Point}
use Rattle.rules.specs.Relations.{Reach, Relation}
use Rattle.rules.specs.Rows.{Row, point_rows, relation_rows}
use Rattle.rules.specs.Form.{rule6}
use Rattle.rules.specs.Values.{Value, point_values, relation_values}
use Rattle.rules.specs.Spelled.{spell, goes_into}

abbrev pub width_of : Span → ℕ
width_of s = s.last + 1 - s.first

unfoldable pub joined : List Row → List Value → List ℕ
joined [] vs = []
joined (w ∷ ws) [] = []
joined (w ∷ ws) (v ∷ vs) = spell w.kind (width_of w.columns) v ++ joined ws vs

unfoldable pub writable : List Row → List Value → Bool
writable [] vs = true
writable (w ∷ ws) [] = false
writable (w ∷ ws) (v ∷ vs) = goes_into w.kind (width_of w.columns) v && writable ws vs

unfoldable pub line_of : ℕ → List Row → List Value → List ℕ
line_of b ws vs = b ∷ (joined ws vs ++ (13 ∷ 10 ∷ []))

abbrev pub point_line : ℕ → Point → List ℕ
point_line i p = line_of (letter i) (point_rows sps93 i) (point_values p)

abbrev pub relation_line : Relation → List ℕ
relation_line v = line_of (letter file_x) (relation_rows sps93) (relation_values v)

abbrev pub same_state : State → State → Bool
same_state live live = true
same_state killed killed = true
same_state live killed = false
same_state killed live = false
same_state marker s = false
same_state live marker = false
same_state killed marker = false

-- values in the order of the table, with the code and the state of the point
abbrev pub point_goes : ℕ → List ℕ → State → List Value → Bool
point_goes b c s vs =
    let i = kind_of b in
    (leb file_r i && leb i file_s) && (same_state (state_of c) s && writable (point_rows sps93 i) vs)

unfoldable pub point_writes : ℕ → Point → Bool
point_writes b p = point_goes b p.code p.state (point_values p)

-- 6 of values that are not read from a line
unfoldable pub counted : Reach → Bool
counted q = let v = run (rule6 sps93 0 q) in is_fine v
  where
    is_fine : Verdict → Bool
    is_fine fine = true
    is_fine (refused w) = false

abbrev pub relation_goes : List Value → Reach → Bool
relation_goes vs q = writable (relation_rows sps93) vs && counted q

unfoldable pub relation_writes : Relation → Bool
relation_writes v = relation_goes (relation_values v) v.reach

unfoldable pub writes : Bool → ℕ → Plan
writes ok n = need ok (№ 22 0 0 0) before need (leb 82 n) (№ 23 0 0 0)

unfoldable pub into : Verdict → List ℕ → List ℕ → List ℕ
into fine l o = l ++ drop (length l) o
into (refused w) l o = o
