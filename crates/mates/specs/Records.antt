-- Lines of one tape and record.
--   goes_on x k        = the line just before line k is of its record
--   start_of x k       = the first of the lines of its record that stand together up to line k
--   IsApart x k apart = `apart` is the first line of a record that has stood before, or the number of lines; line k is no further
--   Standing x k apart on = such an `apart`, and `on` says whether line k's record goes on
--   same_set v w       = one record increment and instrument
use Rattle.std.specs.Prelude.{ℕ, zero, suc, ◌≤◌, ◌≡◌, Bool, ◌&&◌, eqb}
use Rattle.rules.specs.Places.{pick, least, is_before}
use Rattle.rules.specs.Sheet.{Sheet}
use Rattle.rules.specs.Relations.{Relation}
use Rattle.rules.specs.Reaches.{reaches_of, mates}
use Rattle.keys.specs.declared.By.TheVariants.{Records}
use Rattle.order.specs.Repeat.{repeats}

unfoldable pub goes_on : Sheet → ℕ → Bool
goes_on x k = is_before (mates (reaches_of x) k) k

unfoldable pub start_of : Sheet → ℕ → ℕ
start_of x zero = zero
start_of x (suc k) = pick (goes_on x (suc k)) (start_of x k) (suc k)

abbrev pub IsApart : Sheet → ℕ → ℕ → Type 0
IsApart x k apart = (apart ≡ least x.count (repeats Records x)) × (k ≤ apart)

pub record Standing (x : Sheet) (k apart : ℕ) (on : Bool) : Type 0 where
  pub known : IsApart x k apart
  pub goes : on ≡ goes_on x k

unfoldable pub same_set : Relation → Relation → Bool
same_set v w = eqb v.increment w.increment && eqb v.instrument w.instrument
