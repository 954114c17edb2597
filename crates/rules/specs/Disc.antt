-- The disc form: "A line is 80 columns, then CR (13) and LF (10): 82 bytes."
--   printable b     = the bytes of columns 1 to 80
--   byte_fits c b    = what a byte in column c of the 82 may be
--   disc            = the medium
--   file f          = a file on disc, by the text of 1993
use Rattle.std.specs.Prelude.{ℕ, Bool, false, ◌&&◌, List, eqb, leb}
use Rattle.rules.specs.Places.{pick}
use Rattle.rules.specs.Layout.{sps93}
use Rattle.rules.specs.Sheet.{Sheet}
use Rattle.rules.specs.Medium.{Medium, sheet}

unfoldable pub printable : ℕ → Bool
printable b = leb 32 b && leb b 126

unfoldable pub byte_fits : ℕ → ℕ → Bool
byte_fits c b = pick (leb c 80) (printable b) (pick (eqb c 81) (eqb b 13) (eqb b 10))

unfoldable pub disc : Medium
disc =
    record {
      stride = 82;
      closing = 0;
      takes = byte_fits;
      char_of = λ b. b;
      byte_of = λ b. b;
      ends = λ l. false;
    }

abbrev pub file : List ℕ → Sheet
file = sheet disc sps93
