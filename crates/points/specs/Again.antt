-- The first shot that repeats an earlier one, as 12 meets it.
--   IsAgain s k again = `again` is that line, or the number of lines; line k is no further
use Rattle.std.specs.Prelude.{ℕ, ◌≤◌, ◌≡◌}
use Rattle.rules.specs.Places.{least}
use Rattle.rules.specs.Sheet.{Sheet}
use Rattle.keys.specs.declared.By.TheVariants.{Points}
use Rattle.order.specs.Repeat.{repeats}

abbrev pub IsAgain : Sheet → ℕ → ℕ → Type 0
IsAgain s k again = (again ≡ least s.count (repeats Points s)) × (k ≤ again)
