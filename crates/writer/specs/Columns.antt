-- Where the columns of a table end.
--   columns_to ws = how many columns a line has with the letter and the fields of ws
use Rattle.std.specs.Prelude.{ℕ, ◌+◌, List, [], ◌∷◌}
use Rattle.rules.specs.Rows.{Row}
use Rattle.rules.specs.Writer.{width_of}

unfoldable pub columns_to : List Row → ℕ
columns_to [] = 1
columns_to (w ∷ ws) = columns_to ws + width_of w.columns
