-- The rows of a table, all at once.
--   all_fit l ws    = each field of the rows obeys its rule in line l
--   kept t w ws     = the row w before the rows ws, where t is true
--   kept_rows ws    = the rows that are asked of a marker too
--   free_rows ws    = the rows that a marker has free
use Rattle.std.specs.Prelude.{ℕ, Bool, true, false, not, ◌&&◌, List, [], ◌∷◌}
use Rattle.rules.specs.Layout.{at}
use Rattle.rules.specs.Kinds.{fits}
use Rattle.rules.specs.Rows.{Row}

abbrev pub all_fit : List ℕ → List Row → Bool
all_fit l [] = true
all_fit l (w ∷ ws) = fits w.kind (at l w.columns) && all_fit l ws

abbrev pub kept : Bool → Row → List Row → List Row
kept true w ws = w ∷ ws
kept false w ws = ws

abbrev pub kept_rows : List Row → List Row
kept_rows [] = []
kept_rows (w ∷ ws) = kept (not w.free_in_marker) w (kept_rows ws)

abbrev pub free_rows : List Row → List Row
free_rows [] = []
free_rows (w ∷ ws) = kept w.free_in_marker w (free_rows ws)
