-- Keys compared number by number.
--   same_key a b      = the same three numbers
--   less_or a b tie   = a is below b by the first number that differs; where none does, what `tie` says
use Rattle.std.specs.Prelude.{Bool, ◌&&◌, ◌||◌, eqb, ltb}
use Rattle.keys.specs.declared.Key.{Key}

unfoldable pub same_key : Key → Key → Bool
same_key a b = eqb a.first b.first && (eqb a.second b.second && eqb a.third b.third)

unfoldable pub less_or : Key → Key → Bool → Bool
less_or a b tie =
    ltb a.first b.first
    || (eqb a.first b.first
    && (ltb a.second b.second
    || (eqb a.second b.second && (ltb a.third b.third || (eqb a.third b.third && tie)))))
