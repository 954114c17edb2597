-- The code's verdict on one file as the paper's answer, "accepted without counts".
--   answered v      = the answer of the paper
--   form_on how b f  = the answer to the form check of a file that is read in one way
use Rattle.std.specs.Prelude.{ℕ, List, Ok, Err}
use Rattle.rules.specs.Check.{Answer, refusal, formed}
use Rattle.rules.specs.OneFile.{file_form}
use Rattle.lines.specs.Reading.{sheet_of}
use Rattle.lines.specs.declared.Reading.{Reading}
use Rattle.lines.specs.Paper.{Verdict, told}

abbrev pub answered : Verdict → Answer
answered (Ok _) = formed
answered (Err e) = refusal (told e)

abbrev pub form_on : Reading → ℕ → List ℕ → Answer
form_on how b f = file_form b (sheet_of how f)
