-- Where a number begins in its field, and how a decimal ends.
--   ink_from c bs   = the first column, from c on, that is not blank
--   point_digit l b = a point in column b - 1 and a digit in column b
--   tenths_of l b v = the number v before that point, and that digit, in tenths
use Rattle.std.specs.Prelude.{ℕ, suc, ◌-◌, Bool, ◌&&◌, List, [], ◌∷◌, eqb, get_or, Option, None, Some}
use Rattle.rules.specs.Places.{pick}
use Rattle.rules.specs.Numbers.{digit, Number, malformed, then}

unfoldable pub ink_from : ℕ → List ℕ → Option ℕ
ink_from c [] = None
ink_from c (b ∷ bs) = let more = ink_from (suc c) bs in pick (eqb b 32) more (Some c)

unfoldable pub point_digit : List ℕ → ℕ → Bool
point_digit l b = eqb (get_or l (b - 2) 0) 46 && digit (get_or l (b - 1) 0)

unfoldable pub tenths_of : List ℕ → ℕ → Number → Number
tenths_of l b v = pick (point_digit l b) (then v (get_or l (b - 1) 0 - 48)) malformed
