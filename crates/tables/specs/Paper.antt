-- The code's answer as the paper's, and what the call answers of files that are read in one way.
--   Answer                         = the line of R that names the code, or none, or a refusal; paper a = the answer of the paper
--   line_at l                      = line l as the code has it: 0 is none
--   table_line_on how r s x b c      = the answer to the question
use Rattle.std.specs.Prelude.{ℕ, zero, suc, List, Option, Some, None, Result, Ok, Err}
use Rattle.rules.specs.Check.{Answer as PaperAnswer, refusal, header_line}
use Rattle.rules.specs.Tables.{table_line}
use Rattle.lines.specs.Paper.{told}
use Rattle.lines.specs.Reading.{sheet_of}
use Rattle.lines.specs.declared.Reading.{Reading}
use Rattle.lines.specs.declared.Refusal.{Refusal}
use Rattle.codes.specs.Named.{line_or}

abbrev pub Answer : Type 0
Answer = Result (Option ℕ) Refusal

abbrev pub paper : Answer → PaperAnswer
paper (Ok o) = header_line (line_or o)
paper (Err e) = refusal (told e)

abbrev pub line_at : ℕ → Option ℕ
line_at zero = None
line_at (suc l) = Some (suc l)

abbrev pub table_line_on : Reading → List ℕ → List ℕ → List ℕ → ℕ → List ℕ → PaperAnswer
table_line_on how r s x b c = table_line (sheet_of how r) (sheet_of how s) (sheet_of how x) b c
