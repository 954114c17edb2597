-- One line that is read, in words: which can be asked for, and in which order it is refused.
--   DataLine f l           = line l of the file, from 1, is there and is no header line
--   PointLetter b          = the letter of R, or of S
--   read_point_order b f l   = "20 for a medium, a letter or a line that is not there; 3 to 6 of that line with its place"
--   read_relation_order f l  = the same of a line of X
use Rattle.std.specs.Prelude.{ℕ, ◌-◌, ◌≤◌, ◌≡◌, ◌⊎◌}
use Prim.Native.Char.{code as ascii}
use Rattle.rules.specs.Plan.{file_x}
use Rattle.rules.specs.Sheet.{Sheet, most_lines}
use Rattle.rules.specs.Lines.{kind_of}
use Rattle.rules.specs.MeetsForm.{Data}
use Rattle.rules.specs.Refuses.{Order, line_order}
use Rattle.rules.specs.MeetsQuestions.{asking}

abbrev pub DataLine : Sheet → ℕ → Type 0
DataLine f l = ((1 ≤ l) × (l ≤ most_lines)) × ((l ≤ f.count) × Data f (l - 1))

abbrev pub PointLetter : ℕ → Type 0
PointLetter b = (b ≡ ascii "R") ⊎ (b ≡ ascii "S")

abbrev pub read_order : Type 0 → ℕ → Sheet → ℕ → Order
read_order A i f l = asking A (A → ⊥) (line_order i f (l - 1))

abbrev pub read_point_order : ℕ → Sheet → ℕ → Order
read_point_order b f l = read_order (PointLetter b × DataLine f l) (kind_of b) f l

abbrev pub read_relation_order : Sheet → ℕ → Order
read_relation_order f l = read_order (DataLine f l) file_x f l
