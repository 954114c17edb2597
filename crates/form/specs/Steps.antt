-- The steps of the form of a file.
--   headers_to f k       = the lines before line k are all header lines
--   letter_fits i k h l  = 4 of a line, where h says so of the lines before it
--   numbers_of L i k l   = 6 of a line, where it is a relation line
--   fields_of L i k l    = 5, then 6
use Rattle.std.specs.Prelude.{ℕ, ◌+◌, Bool, not, ◌&&◌, List, eqb}
use Rattle.rules.specs.Places.{every, pick}
use Rattle.rules.specs.Plan.{Plan, №, need, when, ◌before◌}
use Rattle.rules.specs.Text.{col}
use Rattle.rules.specs.Layout.{Layout, letter_column}
use Rattle.rules.specs.Sheet.{Sheet}
use Rattle.rules.specs.Lines.{letter, is_header}
use Rattle.rules.specs.Relations.{reach}
use Rattle.rules.specs.Form.{rule5, rule6}

unfoldable pub headers_to : Sheet → ℕ → Bool
headers_to f k = every k (λ j. is_header (f.row j))

unfoldable pub letter_fits : ℕ → ℕ → Bool → List ℕ → Plan
letter_fits i k h l = need (pick (is_header l) h (eqb (col l letter_column) (letter i))) (№ 4 i (k + 1) letter_column)

unfoldable pub numbers_of : Layout → ℕ → ℕ → List ℕ → Plan
numbers_of L i k l = when (not (is_header l) && eqb i 3) (rule6 L k (reach L l))

unfoldable pub fields_of : Layout → ℕ → ℕ → List ℕ → Plan
fields_of L i k l = rule5 i L k l before numbers_of L i k l
