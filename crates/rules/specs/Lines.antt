-- What a line is: a header line, a marker, a receiver or a shot, a relation line.
--   letter i      = the letter of file i
--   kind_of b      = the file of a letter, R 1, S 2 or X 3; 0 of any other byte
--   is_header l    = H in column 1
--   is_marker L l  = a PM line, "a marker and no point"
--   is_data f k    = line k of a sheet is no header line
--   is_point f k   = nor a marker: a receiver or a shot
--   heads f       = how many header lines stand first
use Rattle.std.specs.Prelude.{ℕ, Bool, not, ◌&&◌, List, eqb}
use Prim.Native.Char.{code as ascii}
use Rattle.rules.specs.Places.{pick, least}
use Rattle.rules.specs.Plan.{file_r, file_s, file_x}
use Rattle.rules.specs.Text.{col, same, bytes}
use Rattle.rules.specs.Layout.{Layout, letter_column, at}
use Rattle.rules.specs.Sheet.{Sheet}

unfoldable pub letter : ℕ → ℕ
letter i = pick (eqb i file_r) (ascii "R") (pick (eqb i file_s) (ascii "S") (ascii "X"))

unfoldable pub kind_of : ℕ → ℕ
kind_of b = pick (eqb b (ascii "R")) file_r (pick (eqb b (ascii "S")) file_s (pick (eqb b (ascii "X")) file_x 0))

unfoldable pub is_header : List ℕ → Bool
is_header l = eqb (col l letter_column) (ascii "H")

unfoldable pub is_marker : Layout → List ℕ → Bool
is_marker L l = same (at l L.code) (bytes "PM")

unfoldable pub is_data : Sheet → ℕ → Bool
is_data f k = not (is_header (f.row k))

unfoldable pub is_point : Sheet → ℕ → Bool
is_point f k = is_data f k && not (is_marker f.layout (f.row k))

unfoldable pub heads : Sheet → ℕ
heads f = least f.count (is_data f)
