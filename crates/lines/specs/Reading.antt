-- How the files of a set are read: the sheet of a file, by its medium.
--   on_disc         = the disc form
--   medium_of how   = the medium of the rules
--   chosen_by c     = what the code has chosen, as the rules have it
--   sheet_of how f  = the bytes of a file as a sheet, by the text of 1993
--   columns_at f a  = the 80 bytes from a on
--   IsPage cs      = these 256 bytes are the code page of the tape
--   Printed b      = what a byte of columns 1 to 80 may be
use Rattle.std.specs.Prelude.{◌≡◌, ℕ, ◌<◌, ◌≤◌, List, take, drop, slice_index, Option, Some, None}
use Rattle.rules.specs.Sheet.{Sheet}
use Rattle.rules.specs.Layout.{sps93}
use Rattle.rules.specs.Medium.{Medium as PaperMedium, sheet}
use Rattle.rules.specs.Disc.{disc}
use Rattle.rules.specs.Tape.{page, char_in, tape}
use Rattle.rules.specs.Calls.{Choice as PaperChoice, on, none}
use Rattle.lines.specs.declared.Medium.{Medium}
use Rattle.lines.specs.declared.Medium.TheVariants.{Disc, Tape}
use Rattle.lines.specs.declared.Reading.{Reading}

abbrev pub on_disc : Reading
on_disc = record { medium = Disc }

abbrev pub medium_on : Medium → PaperMedium
medium_on Disc = disc
medium_on Tape = tape

abbrev pub medium_of : Reading → PaperMedium
medium_of how = medium_on how.medium

abbrev pub chosen_by : Option Reading → PaperChoice
chosen_by (Some how) = on (medium_of how)
chosen_by None = none

unfoldable pub sheet_of : Reading → List ℕ → Sheet
sheet_of how f = sheet (medium_of how) sps93 f

abbrev pub columns_at : List ℕ → ℕ → List ℕ
columns_at f a = take 80 (drop a f)

abbrev pub IsPage : List ℕ → Type 0
IsPage cs = (b : ℕ) → b < 256 → slice_index cs b ≡ char_in page b

abbrev pub Printed : ℕ → Type 0
Printed b = (32 ≤ b) × (b ≤ 126)
