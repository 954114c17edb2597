-- "A whole number is right justified": numbers as they stand in the columns of a field.
--   digit b                   = the byte of a digit
--   malformed, plus n, minus n = what a field holds, the sign apart
--   digits bs                 = digits to the last column, at least one
--   whole bs                  = blanks, then digits to the last column
--   signed bs                 = the same, with an optional minus before the digits
--   pointed bs                = a point stands in the last column but one
--   decimal read bs           = a number by `read`, a point and one digit, in tenths
--   tenths read bs            = such a decimal where it is pointed, else a number by `read`, which counts tenths
--   size v, value v           = the number without and with its sign; -0 is 0
use Rattle.std.specs.Prelude.{ℕ, ◌+◌, ◌-◌, ◌*◌, Bool, ◌&&◌, List, [], ◌∷◌, eqb, leb, ℤ, pos, neg_ℤ, length, get_or, take}
use Prim.Native.Char.{code}
use Rattle.rules.specs.Places.{pick}

unfoldable pub digit : ℕ → Bool
digit b = leb (code "0") b && leb b (code "9")

pub data Number : Type 0 where
  malformed : Number
  plus : ℕ → Number
  minus : ℕ → Number

-- the digits that follow those which make a
unfoldable pub digits_after : ℕ → List ℕ → Number
digits_after a [] = plus a
digits_after a (b ∷ bs) = let more = digits_after (10 * a + (b - 48)) bs in pick (digit b) more malformed

unfoldable pub digits : List ℕ → Number
digits [] = malformed
digits (b ∷ bs) = digits_after 0 (b ∷ bs)

-- blanks, then what `read` takes to the last column
unfoldable pub justified : (List ℕ → Number) → List ℕ → Number
justified read [] = malformed
justified read (b ∷ bs) = let more = justified read bs in let here = read (b ∷ bs) in pick (eqb b 32) more here

unfoldable pub whole : List ℕ → Number
whole bs = justified digits bs

unfoldable pub negative : Number → Number
negative malformed = malformed
negative (plus n) = minus n
negative (minus n) = malformed

-- digits, or a minus and digits
unfoldable pub minus_or : List ℕ → Number
minus_or [] = malformed
minus_or (b ∷ bs) =
    let less = negative (digits bs) in
    let here = digits (b ∷ bs) in
    pick (eqb b (code "-")) less here

unfoldable pub signed : List ℕ → Number
signed bs = justified minus_or bs

-- a number and one more digit
unfoldable pub then : Number → ℕ → Number
then malformed d = malformed
then (plus n) d = plus (10 * n + d)
then (minus n) d = minus (10 * n + d)

unfoldable pub pointed : List ℕ → Bool
pointed bs = let w = length bs in leb 2 w && eqb (get_or bs (w - 2) 0) (code ".")

unfoldable pub decimal : (List ℕ → Number) → List ℕ → Number
decimal read bs =
    let w = length bs in
    let d = get_or bs (w - 1) 0 in
    let n = then (read (take (w - 2) bs)) (d - 48) in
    pick (pointed bs && digit d) n malformed

unfoldable pub tenths : (List ℕ → Number) → List ℕ → Number
tenths read bs =
    let d = decimal read bs in
    let n = read bs in
    pick (pointed bs) d n

unfoldable pub size : Number → ℕ
size malformed = 0
size (plus n) = n
size (minus n) = n

unfoldable pub value : Number → ℤ
value malformed = pos 0
value (plus n) = pos n
value (minus n) = neg_ℤ (pos n)
