-- The rules of fields, as the paper's tables give them beside the columns. Each is asked of a field's bytes, whatever its columns.
--   starts_non_blank     = its first column is not blank: a line name, a tape
--   digits_only         = digits alone
--   whole_number m n    = a whole number, m to n
--   signed_number m n   = a whole number, -m to n
--   decimal_number n    = a decimal, 0 to n tenths
--   signed_decimal m n  = a decimal, -m to n tenths
--   coordinate         = a decimal with no range but its columns
--   index              = 1-9, or blank, which is 1
--   code i             = a point code of file i
--   water_depth         = a decimal with its point, 0 to 99.9, or whole metres, 0 to 999
--   time               = six digits, 000000 to 235959, minutes and seconds below 60
--   may_be_blank k       = the rule k, or blanks alone
--   fits k bs          = the bytes obey the rule k
use Rattle.std.specs.Prelude.{ℕ, ◌-◌, Bool, true, false, not, ◌&&◌, ◌||◌, List, [], ◌∷◌, eqb, leb, take, drop}
use Prim.Native.Char.{code as ascii}
use Rattle.rules.specs.Places.{pick}
use Rattle.rules.specs.Plan.{file_r}
use Rattle.rules.specs.Text.{col, same, blank, bytes, one_of}
use Rattle.rules.specs.Numbers.{digit, Number, malformed, plus, minus, digits, whole, signed, decimal, tenths, then}

pub data Kind : Type 0 where
  starts_non_blank : Kind
  digits_only : Kind
  coordinate : Kind
  index : Kind
  water_depth : Kind
  time : Kind
  whole_number : ℕ → ℕ → Kind
  signed_number : ℕ → ℕ → Kind
  signed_decimal : ℕ → ℕ → Kind
  decimal_number : ℕ → Kind
  code : ℕ → Kind
  may_be_blank : Kind → Kind

-- well formed; m to n; -m to n
unfoldable pub formed : Number → Bool
formed malformed = false
formed (plus k) = true
formed (minus k) = true

unfoldable pub between : ℕ → ℕ → Number → Bool
between m n malformed = false
between m n (plus k) = leb m k && leb k n
between m n (minus k) = false

unfoldable pub within : ℕ → ℕ → Number → Bool
within m n malformed = false
within m n (plus k) = leb k n
within m n (minus k) = leb k m

unfoldable pub all_digits : List ℕ → Bool
all_digits [] = true
all_digits (b ∷ bs) = digit b && all_digits bs

-- a digit 1-9; the value of an index
unfoldable pub digit1 : ℕ → Bool
digit1 b = leb (ascii "1") b && leb b (ascii "9")

unfoldable pub index_of : ℕ → ℕ
index_of b = pick (eqb b 32) 1 (b - 48)

-- the letters of a file's code families, and a code of one of them; PM and KL stand in both files
unfoldable pub family : ℕ → ℕ → Bool
family i b = pick (eqb i file_r) (one_of "GHR" b) (one_of "VEAWS" b)

abbrev pub of_family : ℕ → List ℕ → Bool
of_family i bs = family i (col bs 1) && digit1 (col bs 2)

unfoldable pub is_code : ℕ → List ℕ → Bool
is_code i bs = same bs (bytes "PM") || (same bs (bytes "KL") || of_family i bs)

-- water depth in tenths
unfoldable pub water : List ℕ → Number
water bs =
    let t = decimal whole bs in
    let m = whole bs in
    pick (between 0 999 t) t (pick (between 0 999 m) (then m 0) malformed)

unfoldable pub is_time : List ℕ → Bool
is_time bs =
    between 0 23 (digits (take 2 bs)) && (between 0 59 (digits (take 2 (drop 2 bs))) && between 0 59 (digits (drop 4 bs)))

unfoldable pub fits : Kind → List ℕ → Bool
fits starts_non_blank bs = not (eqb (col bs 1) 32)
fits digits_only bs = all_digits bs
fits coordinate bs = formed (tenths signed bs)
fits index bs = eqb (col bs 1) 32 || digit1 (col bs 1)
fits water_depth bs = formed (water bs)
fits time bs = is_time bs
fits (whole_number m n) bs = between m n (whole bs)
fits (signed_number m n) bs = within m n (signed bs)
fits (signed_decimal m n) bs = within m n (tenths signed bs)
fits (decimal_number n) bs = between 0 n (tenths whole bs)
fits (code i) bs = is_code i bs
fits (may_be_blank k) bs = let rest = fits k bs in blank bs || rest
