-- "Check one file in the morning": "the form of a single file of a stated kind (1 to 6; accepted without counts)".
--   kind_asked b   = the kind is the letter R, S or X
--   one_file b f   = "20 for a kind that is not R, S or X, before the rest", then the form of the file of that kind
--   file_form b f  = the answer to the form check
use Rattle.std.specs.Prelude.{ℕ, Bool, ltb}
use Rattle.rules.specs.Plan.{Plan, ◌before◌, run}
use Rattle.rules.specs.Sheet.{Sheet}
use Rattle.rules.specs.Lines.{kind_of}
use Rattle.rules.specs.Form.{form}
use Rattle.rules.specs.Check.{Answer, formed, answer}
use Rattle.rules.specs.Questions.{rule20}

unfoldable pub kind_asked : ℕ → Bool
kind_asked b = ltb 0 (kind_of b)

unfoldable pub one_file : ℕ → Sheet → Plan
one_file b f = rule20 (kind_asked b) before form (kind_of b) f

unfoldable pub file_form : ℕ → Sheet → Answer
file_form b f = answer (run (one_file b f)) formed
