-- What stands last before a line.
--   last_of here value k   = the value of the last place before k that is here, if there is one
--   last_point f k         = the last point line before line k, if there is one
--   time_of f k           = day and time of line k as one number
--   stamp f k             = that of a shot; none of any other line
--   last_stamp f k         = that of the last shot before line k, if there is one
--   Stamps f k last t     = `last` and t are the stamps of the last shot before line k, and its own
use Rattle.std.specs.Prelude.{ℕ, zero, suc, ◌+◌, ◌*◌, ◌≡◌, Bool, Option, Some, None}
use Rattle.rules.specs.Places.{pick}
use Rattle.rules.specs.Sheet.{Sheet}
use Rattle.rules.specs.Lines.{is_point}
use Rattle.rules.specs.Points.{point_at}

unfoldable pub last_of : (ℕ → Bool) → (ℕ → ℕ) → ℕ → Option ℕ
last_of here value zero = None
last_of here value (suc k) = pick (here k) (Some (value k)) (last_of here value k)

unfoldable pub last_point : Sheet → ℕ → Option ℕ
last_point f k = last_of (is_point f) (λ j. j) k

abbrev pub time_of : Sheet → ℕ → ℕ
time_of f k = let p = point_at f k in 1000000 * p.day + p.time

unfoldable pub stamp : Sheet → ℕ → Option ℕ
stamp f k = pick (is_point f k) (Some (time_of f k)) None

unfoldable pub last_stamp : Sheet → ℕ → Option ℕ
last_stamp f k = last_of (is_point f) (time_of f) k

pub record Stamps (f : Sheet) (k : ℕ) (last t : Option ℕ) : Type 0 where
  pub before : last ≡ last_stamp f k
  pub own : t ≡ stamp f k
