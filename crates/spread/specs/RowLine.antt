-- The R line that a channel of a relation line leads to, by the row of its lowest receiver.
--   row_to e p c       = the row of the receiver of channel c, where the lowest receiver of p stands in row e
--   row_line o e p c   = the R line of channel c
--   Led q o e c       = q codes a reach that carries channel c, and its receiver stands in one of the rows
use Rattle.std.specs.Prelude.{ℕ, ◌+◌, ◌-◌, ◌≤◌, ◌<◌, ◌≡◌, List, length}
use Rattle.rules.specs.Sheet.{most_lines}
use Rattle.rules.specs.Relations.{Reach}
use Rattle.rules.specs.Cover.{lowest, leads}
use Rattle.records.specs.Coded.{coded_reach}
use Rattle.records.specs.declared.relation.Reach.{Reach as ReachValues}
use Rattle.order.specs.Sorted.{nth}

abbrev pub row_to : ℕ → Reach → ℕ → ℕ
row_to e p c = e + (leads p c - lowest p)

abbrev pub row_line : List ℕ → ℕ → Reach → ℕ → ℕ
row_line o e p c = nth o (row_to e p c) + 1

pub record Led (q : ReachValues) (o : List ℕ) (e c : ℕ) : Type 0 where
  pub reach : Reach
  pub coded : q ≡ coded_reach reach
  pub begun : q.from ≤ c
  pub small : c < 4294967296
  pub one : 1 ≤ q.step
  pub above : lowest reach ≤ leads reach c
  pub inside : row_to e reach c < length o
  pub few : nth o (row_to e reach c) < most_lines
