-- A line that is made, or none.
--   made ok l = l where the values go into their fields, which ok says
use Rattle.std.specs.Prelude.{ℕ, Bool, true, false, List, Option, Some, None}

abbrev pub made : Bool → List ℕ → Option (List ℕ)
made true l = Some l
made false l = None
