-- A slice whose first places hold rows, while lines of X are gone through.
--   Marked r o t        = t holds 1 at the rows of o whose receivers are killed, and 0 at the others
--   Ready r o t x       = R and X stand in an accepted set, o has its receivers in order, and t marks them
--   filled r x i n d    = d with the rows of n traces from trace i on in its first places
--   places_to x i k d    = of the places of d, those whose traces stand in the lines above line k
use Rattle.std.specs.Prelude.{ℕ, ◌-◌, ◌*◌, ◌/◌, ◌≤◌, ◌<◌, min, ◌≡◌, List, ◌++◌, length, drop}
use Rattle.rules.specs.Places.{pick}
use Rattle.rules.specs.Sheet.{Sheet}
use Rattle.rules.specs.TraceRows.{traces_above, rows_from}
use Rattle.order.specs.Sorted.{nth}
use Rattle.dead.specs.Dead.{killed_row}
use Rattle.receivers.specs.Rows.{Rows}
use Rattle.spread.specs.Asked.{Accepted}

abbrev pub Marked : Sheet → List ℕ → List ℕ → Type 0
Marked r o t = (j : ℕ) → j < length o → nth t j ≡ pick (killed_row r o j) 1 0

pub record Ready (r : Sheet) (o t : List ℕ) (x : Sheet) : Type 0 where
  pub set : Accepted r x
  pub rows : Rows r o
  pub room : length o ≤ length t
  pub marked : Marked r o t

abbrev pub filled : Sheet → Sheet → ℕ → ℕ → List ℕ → List ℕ
filled r x i n d = rows_from r x i n ++ drop (16 * n) d

abbrev pub places_to : Sheet → ℕ → ℕ → List ℕ → ℕ
places_to x i k d = min (traces_above x k - i) (length d / 16)
