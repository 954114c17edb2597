-- A set by the number that a caller has for its medium: 1 the disc form, 2 the tape form. Any other number is 20, before all else.
--   Choice          = a medium, or none
--   choice n        = what a number chooses
--   chosen d a      = what a call answers: 20 where no medium is chosen, else what it answers of the chosen one
--   Chosen d P Q    = P of the chosen medium, Q where none is chosen
--   form_in          = the form check of one file
--   cross_in, lookup_in, way_back_in, table_line_in = the cross-check, the lookup, the way back and the line that names a code, of three files
--   rows_in          = what a slice holds after the rows of all traces are asked for; without a medium it stays
use Rattle.std.specs.Prelude.{ℕ, List, eqb}
use Rattle.rules.specs.Places.{pick}
use Rattle.rules.specs.Plan.{№}
use Rattle.rules.specs.Layout.{sps93}
use Rattle.rules.specs.Medium.{Medium, sheet}
use Rattle.rules.specs.Disc.{disc}
use Rattle.rules.specs.Tape.{tape}
use Rattle.rules.specs.Check.{Answer, refusal, cross}
use Rattle.rules.specs.OneFile.{file_form}
use Rattle.rules.specs.Lookup.{lookup, way_back}
use Rattle.rules.specs.Tables.{table_line}
use Rattle.rules.specs.TraceRows.{traces_in}

pub data Choice : Type 0 where
  on : Medium → Choice
  none : Choice

unfoldable pub choice : ℕ → Choice
choice n = pick (eqb n 1) (on disc) (pick (eqb n 2) (on tape) none)

abbrev pub chosen : Choice → (Medium → Answer) → Answer
chosen (on M) a = a M
chosen none a = refusal (№ 20 0 0 0)

abbrev pub Chosen : Choice → (Medium → Type 0) → Type 0 → Type 0
Chosen (on M) P Q = P M
Chosen none P Q = Q

abbrev pub form_in : Choice → ℕ → List ℕ → Answer
form_in d b f = chosen d (λ M. file_form b (sheet M sps93 f))

abbrev pub cross_in : Choice → List ℕ → List ℕ → List ℕ → Answer
cross_in d r s x = chosen d (λ M. cross (sheet M sps93 r) (sheet M sps93 s) (sheet M sps93 x))

abbrev pub lookup_in : Choice → List ℕ → List ℕ → List ℕ → List ℕ → ℕ → ℕ → Answer
lookup_in d r s x t n c = chosen d (λ M. lookup (sheet M sps93 r) (sheet M sps93 s) (sheet M sps93 x) t n c)

abbrev pub way_back_in : Choice → List ℕ → List ℕ → List ℕ → List ℕ → ℕ → ℕ → ℕ → Answer
way_back_in d r s x t n j m = chosen d (λ M. way_back (sheet M sps93 r) (sheet M sps93 s) (sheet M sps93 x) t n j m)

abbrev pub table_line_in : Choice → List ℕ → List ℕ → List ℕ → ℕ → List ℕ → Answer
table_line_in d r s x b c = chosen d (λ M. table_line (sheet M sps93 r) (sheet M sps93 s) (sheet M sps93 x) b c)

abbrev pub rows_in : Choice → List ℕ → List ℕ → List ℕ → ℕ → List ℕ → List ℕ
rows_in (on M) r s x i o = traces_in (sheet M sps93 r) (sheet M sps93 s) (sheet M sps93 x) i o
rows_in none r s x i o = o
