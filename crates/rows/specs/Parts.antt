-- The rows of one relation line, from what the code has of it.
--   row_by l o t e v c       = the row of channel c of line l, where the lowest receiver of v stands in row e of o, and t marks the killed rows
--   part_rows l o t e v c n  = the rows of n channels from channel c on
--   Fitting q o t e p m     = those of part p lead to rows, and have places in a slice of m bytes
use Rattle.std.specs.Prelude.{ℕ, zero, suc, ◌+◌, ◌*◌, ◌-◌, ◌≤◌, ◌<◌, List, [], ◌++◌, length}
use Rattle.rules.specs.Relations.{Reach}
use Rattle.rules.specs.Cover.{component}
use Rattle.rules.specs.Hosts.{low_bytes}
use Rattle.records.specs.declared.relation.Reach.{Reach as ReachValues}
use Rattle.order.specs.Sorted.{nth}
use Rattle.spread.specs.RowLine.{row_to, row_line, Led}
use Rattle.rows.specs.declared.part.Part.{Part}

abbrev pub row_by : ℕ → List ℕ → List ℕ → ℕ → Reach → ℕ → List ℕ
row_by l o t e v c = low_bytes 4 l ++ (low_bytes 4 c ++ (low_bytes 4 (row_line o e v c) ++ low_bytes 4 (component v c + 256 * nth t (row_to e v c))))

unfoldable pub part_rows : ℕ → List ℕ → List ℕ → ℕ → Reach → ℕ → ℕ → List ℕ
part_rows l o t e v c zero = []
part_rows l o t e v c (suc n) = part_rows l o t e v c n ++ row_by l o t e v (c + n)

pub record Fitting (q : ReachValues) (o t : List ℕ) (e : ℕ) (p : Part) (m : ℕ) : Type 0 where
  pub some : p.place ≤ p.end
  pub room : 16 * p.end ≤ m
  pub few : q.step ≤ 9
  pub marks : length o ≤ length t
  pub mark : (j : ℕ) → j < length o → nth t j ≤ 1
  pub led : (c : ℕ) → p.channel ≤ c → c < p.channel + (p.end - p.place) → Led q o e c
