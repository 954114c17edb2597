-- "Showing a line takes the R and the S file, a letter and a line number", "without checking the set".
--   shown f n             = the 80 columns of line n of a disc file; nothing for line 0 or a line beyond its whole lines
--   start f n             = where they begin in it; 0 for nothing
--   of_s letter            = the part is one of the S file
--   show r s letter n     = the columns that are shown, of the file of that letter; nothing for another letter
--   start_in r s letter n  = where they begin, in the S file for S, else in the R file
use Rattle.std.specs.Prelude.{ℕ, ◌-◌, ◌*◌, ◌/◌, Bool, ◌&&◌, List, [], eqb, leb, length, take, drop}
use Prim.Native.Char.{code as ascii}
use Rattle.rules.specs.Places.{pick}

unfoldable pub is_line : List ℕ → ℕ → Bool
is_line f n = leb 1 n && leb n (length f / 82)

unfoldable pub start : List ℕ → ℕ → ℕ
start f n = pick (is_line f n) (82 * (n - 1)) 0

unfoldable pub shown : List ℕ → ℕ → List ℕ
shown f n = pick (is_line f n) (take 80 (drop (start f n) f)) []

unfoldable pub of_s : ℕ → Bool
of_s letter = eqb letter (ascii "S")

unfoldable pub show : List ℕ → List ℕ → ℕ → ℕ → List ℕ
show r s letter n = pick (of_s letter) (shown s n) (pick (eqb letter (ascii "R")) (shown r n) [])

unfoldable pub start_in : List ℕ → List ℕ → ℕ → ℕ → ℕ
start_in r s letter n = pick (of_s letter) (start s n) (pick (eqb letter (ascii "R")) (start r n) 0)
