-- The rows of all traces in words, of an accepted set.
--   InRow r x t n c i   = row i is that of channel c of that tape and record
--   RowTold r s x i     = row i is what the lookup answers for its line's tape and record and its channel, and the way back answers the channel
--   RowsTold r s x      = each row is so, and each covered channel of each record stands in exactly one row
use Rattle.std.specs.Prelude.{ℕ, ◌+◌, ◌-◌, ◌≤◌, ◌<◌, ◌≡◌, List}
use Rattle.rules.specs.Sheet.{Sheet}
use Rattle.rules.specs.Relations.{reach_at}
use Rattle.rules.specs.Check.{trace, channel, all_traces}
use Rattle.rules.specs.Lookup.{lookup, way_back}
use Rattle.rules.specs.TraceRows.{trace_row}
use Rattle.rules.specs.MeetsForm.{Data}
use Rattle.rules.specs.MeetsCover.{Carries}
use Rattle.rules.specs.MeetsQuestions.{Of}

abbrev pub InRow : Sheet → Sheet → List ℕ → ℕ → ℕ → ℕ → Type 0
InRow r x t n c i = (i < all_traces x) × (Of x t n ((trace_row r x i).x_line - 1) × ((trace_row r x i).channel ≡ c))

pub record RowTold (r s x : Sheet) (i : ℕ) : Type 0 where
  -- the line is a relation line of X, which carries the channel
  pub line : ℕ
  pub counted : line + 1 ≡ (trace_row r x i).x_line
  pub there : line < x.count
  pub relates : Data x line
  pub carried : Carries (reach_at x line) (trace_row r x i).channel
  -- "each row is what the lookup answers for the tape and record of its X line and its channel"
  pub looked_up : lookup r s x (reach_at x line).tape (reach_at x line).number (trace_row r x i).channel
      ≡ trace (trace_row r x i).r_line (trace_row r x i).component (trace_row r x i).killed
  -- "the way back of a row's R line and component is its channel"
  pub back : way_back r s x (reach_at x line).tape (reach_at x line).number (trace_row r x i).r_line (trace_row r x i).component
      ≡ channel (trace_row r x i).channel

pub record RowsTold (r s x : Sheet) : Type 0 where
  pub told : (i : ℕ) → i < all_traces x → RowTold r s x i
  -- "every covered channel of every record stands in exactly one row"
  pub once : (t : List ℕ) (n c k : ℕ) → k < x.count → Of x t n k → Carries (reach_at x k) c
      → (i : ℕ) × InRow r x t n c i × ((j : ℕ) → InRow r x t n c j → j ≡ i)
  -- "in the order of X, line by line and channel by channel"
  pub rising : (i j : ℕ) → i < j → j < all_traces x
      → ((trace_row r x i).x_line ≤ (trace_row r x j).x_line)
      × ((trace_row r x i).x_line ≡ (trace_row r x j).x_line → (trace_row r x i).channel < (trace_row r x j).channel)
