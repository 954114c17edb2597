-- Killed receivers along the order of name, index and number, and the dead traces of relation lines.
--   killed_row r o j   = the receiver in row j is killed
--   Lines r o t       = the rows of o are lines of R, and t has a place for each
--   Counted r o t     = t holds at each row how many are killed up to it and with it
--   Tally r o t       = both
--   Accepted r x      = R and X stand in an accepted set, with some S, in one medium
--   Summed r o x t    = so they are, o has the receivers in order, and t is counted
--   dead_at r x k      = the dead traces of line k, where it is a relation line
use Rattle.std.specs.Prelude.{ℕ, ◌+◌, ◌≤◌, ◌<◌, ◌≡◌, Bool, List, length}
use Rattle.rules.specs.Places.{pick, count}
use Rattle.rules.specs.Sheet.{Sheet, most_lines}
use Rattle.rules.specs.Lines.{is_data}
use Rattle.rules.specs.Points.{point_at, is_killed}
use Rattle.rules.specs.Relations.{reach_at}
use Rattle.rules.specs.Check.{dead_of}
use Rattle.rules.specs.Meets.{Meets}
use Rattle.form.specs.Known.{Known}
use Rattle.keys.specs.Held.{KnownReceivers}
use Rattle.order.specs.Sorted.{nth}
use Rattle.receivers.specs.Rows.{Rows}

abbrev pub killed_row : Sheet → List ℕ → ℕ → Bool
killed_row r o j = is_killed (point_at r (nth o j))

pub record Lines (r : Sheet) (o t : List ℕ) : Type 0 where
  pub few : length o ≤ most_lines
  pub room : length o ≤ length t
  pub own : (j : ℕ) → j < length o → nth o j < r.count

abbrev pub Counted : Sheet → List ℕ → List ℕ → Type 0
Counted r o t = (j : ℕ) → j < length o → nth t j ≡ count (j + 1) (killed_row r o)

pub record Tally (r : Sheet) (o t : List ℕ) : Type 0 where
  pub lines : Lines r o t
  pub counted : Counted r o t

pub record Accepted (r x : Sheet) : Type 0 where
  pub shots : Sheet
  pub met : Meets r shots x
  pub receivers : KnownReceivers r
  pub relations : Known 3 x
  pub alike : r.rank ≡ x.rank

pub record Summed (r : Sheet) (o : List ℕ) (x : Sheet) (t : List ℕ) : Type 0 where
  pub set : Accepted r x
  pub rows : Rows r o
  pub tally : Tally r o t

abbrev pub dead_at : Sheet → Sheet → ℕ → ℕ
dead_at r x k = pick (is_data x k) (dead_of r (reach_at x k)) 0
