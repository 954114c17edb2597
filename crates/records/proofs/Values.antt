-- Values as the code holds them: a signed number that comes back from its bits, and a field that may be blank.
use mathlib.Core.Path.{◌≡◌, refl}
use mathlib.Core.Bool.{Bool, true, false}
use lib.IntN.{ℤ}
use Rattle.rules.specs.Places.{pick}
use Rattle.rules.specs.Points.{absent, held}
use Rattle.records.specs.Coded.{held_of, held_paper}

pub held_is : (t : Bool) (v : ℤ) → held_of t v ≡ held_paper (pick t absent (held v))
unfolding pick
held_is true v = refl
held_is false v = refl
