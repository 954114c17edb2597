-- The form of a file: refusals 1 to 6. File i, line k of it, the line's columns l.
--   stray_from t c bs = the first column, from c on, whose byte t does not take; 0 where there is none
--   stray f k        = that of line k, in the medium's own bytes
--   ending f         = the first line that says that the set's lines have ended; the number of lines where none does
--   rule1 .. rule6, rule29 = the refusals of those numbers
--   fields_fit        = 5 over the rows of a table, from the left
--   line_fits i f k   = 3 (whole line), 4, 5, 6 of line k
--   form i f         = 1, 2, 29, then line by line
use Rattle.std.specs.Prelude.{ℕ, suc, ◌+◌, ◌/◌, ◌%◌, min, Bool, false, not, ◌&&◌, List, [], ◌∷◌, eqb, leb}
use Rattle.rules.specs.Places.{every, least, pick}
use Rattle.rules.specs.Plan.{Plan, №, file_x, pass, need, ◌before◌, up_to, when}
use Rattle.rules.specs.Text.{col}
use Rattle.rules.specs.Kinds.{fits}
use Rattle.rules.specs.Layout.{Layout, letter_column, at}
use Rattle.rules.specs.Sheet.{Sheet, most_lines, all_lines}
use Rattle.rules.specs.Lines.{letter, is_header, is_marker}
use Rattle.rules.specs.Relations.{Reach, reach}
use Rattle.rules.specs.Cover.{traces, receivers}
use Rattle.rules.specs.Rows.{Row, header_rows, point_rows, relation_rows}

-- 1: file length is no multiple of a line's
unfoldable pub rule1 : ℕ → Sheet → Plan
rule1 i f = need (eqb f.left 0) (№ 1 i (min (all_lines f + 1) (most_lines + 1)) 0)

-- 2: too many lines
unfoldable pub rule2 : ℕ → Sheet → Plan
rule2 i f = need (leb (all_lines f) most_lines) (№ 2 i (most_lines + 1) 0)

-- 29: the line that ends the file is missing, or others follow it
unfoldable pub ending : Sheet → ℕ
ending f = least (all_lines f) f.ends

unfoldable pub rule29 : ℕ → Sheet → Plan
rule29 i f = need (eqb (ending f + f.closing) (all_lines f)) (№ 29 i (min (ending f + 2) (all_lines f + 1)) 0)

-- 3: a byte outside its range
unfoldable pub stray_from : (ℕ → ℕ → Bool) → ℕ → List ℕ → ℕ
stray_from takes c [] = 0
stray_from takes c (b ∷ bs) = let more = stray_from takes (suc c) bs in pick (takes c b) more c

unfoldable pub stray : Sheet → ℕ → ℕ
stray f k = stray_from f.takes 1 (f.raw k)

unfoldable pub rule3 : ℕ → Sheet → ℕ → Plan
rule3 i f k = let c = stray f k in need (eqb c 0) (№ 3 i (k + 1) c)

-- 4: column 1 not H or the file's letter, or H after data
unfoldable pub rule4 : ℕ → Sheet → ℕ → Plan
rule4 i f k =
    let l = f.row k in
    need (pick (is_header l) (every k (λ j. is_header (f.row j))) (eqb (col l letter_column) (letter i)))
    (№ 4 i (k + 1) letter_column)

-- 5: a field breaks its rule
unfoldable pub fields_fit : ℕ → ℕ → Bool → List ℕ → List Row → Plan
fields_fit i k marker l [] = pass
fields_fit i k marker l (w ∷ ws) =
    when (not (w.free_in_marker && marker)) (need (fits w.kind (at l w.columns)) (№ 5 i (k + 1) w.columns.first))
    before fields_fit i k marker l ws

unfoldable pub rule5 : ℕ → Layout → ℕ → List ℕ → Plan
rule5 i L k l =
    when (is_header l) (fields_fit i k false l (header_rows L))
    before when (not (is_header l) && not (eqb i file_x)) (fields_fit i k (is_marker L l) l (point_rows L i))
    before when (not (is_header l) && eqb i file_x) (fields_fit i k false l (relation_rows L))

-- 6: the numbers of channels and receivers
unfoldable pub rule6 : Layout → ℕ → Reach → Plan
rule6 L k q =
    need (leb q.from q.upto) (№ 6 file_x (k + 1) L.from.first)
    before need (eqb (traces q % q.step) 0) (№ 6 file_x (k + 1) L.step.first)
    before need (eqb (traces q / q.step) (receivers q)) (№ 6 file_x (k + 1) L.to_receiver.first)

unfoldable pub line_fits : ℕ → Sheet → ℕ → Plan
line_fits i f k =
    let L = f.layout in
    let l = f.row k in
    rule3 i f k before rule4 i f k before rule5 i L k l
    before when (not (is_header l) && eqb i file_x) (rule6 L k (reach L l))

unfoldable pub form : ℕ → Sheet → Plan
form i f = rule1 i f before rule2 i f before rule29 i f before up_to f.count (line_fits i f)
