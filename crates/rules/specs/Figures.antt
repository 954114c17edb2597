-- A number as decimal digits.
--   figure d       = the byte of a digit
--   figures k n    = the digits of n, the last k + 1 of them at most
--   decimal_of n    = all of its digits, with no zero before them; 0 is one digit
use Rattle.std.specs.Prelude.{ℕ, zero, suc, ◌+◌, ◌/◌, ◌%◌, List, [], ◌∷◌, ◌++◌, ltb}
use Prim.Native.Char.{code as ascii}
use Rattle.rules.specs.Places.{pick}

abbrev pub figure : ℕ → ℕ
figure d = ascii "0" + d

unfoldable pub figures : ℕ → ℕ → List ℕ
figures zero n = figure (n % 10) ∷ []
figures (suc k) n =
    let more = figures k (n / 10) ++ (figure (n % 10) ∷ []) in
    pick (ltb n 10) (figure n ∷ []) more

unfoldable pub decimal_of : ℕ → List ℕ
decimal_of n = figures n n
