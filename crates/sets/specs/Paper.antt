-- The code's answer as the paper's: its number and values for each case; and the parts of the order that the code looks at one by one.
--   Answer             = the counts, or a refusal; paper a = the answer of the paper
--   cross_on how r s x  = the answer to the cross-check of three files that are read in one way
--   forms_of r s x      = the form of R, then S, then X
--   points_of r s       = 10 over R, then 11 and 12 over S
--   across r s x       = those, then 13 to 19 line by line over X, last 15
--   counts r s x       = the answer that accepts, with the counts of the set
--   answered_across     = that answer, after the rules across the files
--   KnownSet r s x     = the three files are well formed
--   Headed r s x       = and their headers and code tables are met; Met r s x = and so are all rules
--   Ordered r s x      = the files are well formed, and 10, 11 and 12 are met
--   Arrays o p         = both arrays have a place for each line
use Rattle.std.specs.Prelude.{ℕ, ◌≤◌, List, length, ◌≡◌, Result, Ok, Err}
use Rattle.rules.specs.Plan.{Plan, fine, file_r, file_s, file_x, ◌before◌, up_to, run}
use Rattle.rules.specs.Sheet.{Sheet, most_lines}
use Rattle.rules.specs.Form.{form}
use Rattle.rules.specs.Codes.{codes_fit}
use Rattle.rules.specs.Order.{rule10}
use Rattle.rules.specs.Check.{Answer as PaperAnswer, accepted, refusal, points, relations, all_traces, dead_traces, verdict, answer, cross}
use Rattle.lines.specs.Reading.{sheet_of}
use Rattle.lines.specs.declared.Reading.{Reading}
use Rattle.lines.specs.declared.Refusal.{Refusal}
use Rattle.lines.specs.Paper.{told}
use Rattle.form.specs.Known.{Known}
use Rattle.headers.specs.Steps.{headers_fit}
use Rattle.keys.specs.Held.{shot_fits, KnownReceivers, KnownShots}
use Rattle.shots.specs.Places.{all_named}
use Rattle.relations.specs.Walk.{all_relate}
use Rattle.sets.specs.declared.Counts.{Counts}

abbrev pub Answer : Type 0
Answer = Result Counts Refusal

abbrev pub paper : Answer → PaperAnswer
paper (Ok c) = accepted c.receivers c.shots c.relations c.traces c.dead_traces
paper (Err e) = refusal (told e)

abbrev pub cross_on : Reading → List ℕ → List ℕ → List ℕ → PaperAnswer
cross_on how r s x = cross (sheet_of how r) (sheet_of how s) (sheet_of how x)

abbrev pub forms_of : Sheet → Sheet → Sheet → Plan
forms_of r s x = form file_r r before form file_s s before form file_x x

abbrev pub points_of : Sheet → Sheet → Plan
points_of r s = up_to r.count (rule10 r) before up_to s.count (shot_fits s)

unfoldable pub across : Sheet → Sheet → Sheet → Plan
across r s x = up_to r.count (rule10 r) before up_to s.count (shot_fits s) before all_relate r s x before all_named s x

unfoldable pub counts : Sheet → Sheet → Sheet → PaperAnswer
counts r s x = accepted (points r) (points s) (relations x) (all_traces x) (dead_traces r x)

abbrev pub answered_across : Sheet → Sheet → Sheet → PaperAnswer
answered_across r s x = answer (run (across r s x)) (counts r s x)

pub record KnownSet (r s x : Sheet) : Type 0 where
  pub receivers : Known 1 r
  pub shots : Known 2 s
  pub relations : Known 3 x

-- the form, the headers and the code tables are met
pub record Headed (r s x : Sheet) : Type 0 where
  pub known : KnownSet r s x
  pub forms : fine ≡ run (forms_of r s x)
  pub heads : fine ≡ run (headers_fit r s x)
  pub codes : fine ≡ run (codes_fit r s x)
  pub alike : r.rank ≡ x.rank

-- and so is all
pub record Met (r s x : Sheet) : Type 0 where
  pub known : KnownSet r s x
  pub fine : verdict r s x ≡ fine
  pub alike : r.rank ≡ x.rank

pub record Ordered (r s x : Sheet) : Type 0 where
  pub receivers : KnownReceivers r
  pub shots : KnownShots s
  pub relations : Known 3 x

abbrev pub Arrays : List ℕ → List ℕ → Type 0
Arrays o p = (most_lines ≤ length o) × (most_lines ≤ length p)
