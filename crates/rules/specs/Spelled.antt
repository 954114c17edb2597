-- "Absent values are blank, indices and increments of 1 are written, only the time has leading zeros, and decimals carry a point unless an easting or
-- northing is too wide with it. Water depth above 99.9 goes as whole metres." How a value stands in the columns of a field.
--   padded b w bs     = bs right justified in w columns, with the byte b before it
--   with_point n       = n tenths with a point
--   by_sign f n        = f of its size, with a minus before it where it is negative
--   spelled_as k w n   = the figures of a number of kind k that goes into w columns
--   spelled k w v     = the text of a value, without the blanks before it
--   spell k w v       = the w columns of the field
--   allows k v        = the field's rule allows the value
--   columns_hold k w v = its columns hold it
--   goes_into k w v    = both
use Rattle.std.specs.Prelude.{ℕ, suc, ◌-◌, ◌/◌, ◌%◌, Bool, true, false, not, ◌&&◌, ◌||◌, List, [], ◌∷◌, ◌++◌, eqb, leb, ℤ, pos, negsuc, length, replicate}
use Rattle.std.specs.Prelude.{get_or}
use Prim.Native.Char.{code as ascii}
use Rattle.rules.specs.Places.{pick, every}
use Rattle.rules.specs.Text.{col}
use Rattle.rules.specs.Kinds.{Kind, starts_non_blank, digits_only, whole_number, signed_number, decimal_number, signed_decimal, coordinate}
use Rattle.rules.specs.Kinds.{index, code, water_depth, time, may_be_blank, is_code}
use Rattle.rules.specs.Disc.{printable}
use Rattle.rules.specs.Figures.{figure, decimal_of}
use Rattle.rules.specs.Values.{Value, text, number, nothing}

unfoldable pub padded : ℕ → ℕ → List ℕ → List ℕ
padded b w bs = replicate (w - length bs) b ++ bs

unfoldable pub with_point : ℕ → List ℕ
with_point n = decimal_of (n / 10) ++ (ascii "." ∷ figure (n % 10) ∷ [])

unfoldable pub by_sign : (ℕ → List ℕ) → ℤ → List ℕ
by_sign f (pos n) = f n
by_sign f (negsuc n) = ascii "-" ∷ f (suc n)

-- metres of a depth in tenths, where it is above 99.9
unfoldable pub water_figures : ℕ → List ℕ
water_figures n = pick (leb n 999) (with_point n) (decimal_of (n / 10))

unfoldable pub spelled_as : Kind → ℕ → ℤ → List ℕ
spelled_as (decimal_number m) w n = by_sign with_point n
spelled_as (signed_decimal m k) w n = by_sign with_point n
spelled_as coordinate w n = let p = by_sign with_point n in let d = by_sign decimal_of n in pick (leb (length p) w) p d
spelled_as water_depth w n = by_sign water_figures n
spelled_as time w n = padded (ascii "0") w (by_sign decimal_of n)
spelled_as (may_be_blank k) w n = spelled_as k w n
spelled_as starts_non_blank w n = by_sign decimal_of n
spelled_as digits_only w n = by_sign decimal_of n
spelled_as index w n = by_sign decimal_of n
spelled_as (whole_number m k) w n = by_sign decimal_of n
spelled_as (signed_number m k) w n = by_sign decimal_of n
spelled_as (code i) w n = by_sign decimal_of n

unfoldable pub spelled : Kind → ℕ → Value → List ℕ
spelled k w (text bs) = bs
spelled k w (number n) = spelled_as k w n
spelled k w nothing = []

unfoldable pub spell : Kind → ℕ → Value → List ℕ
spell k w v = padded 32 w (spelled k w v)

-- the rule of a number's field: from 0 up, and -m to n
unfoldable pub up_from : ℕ → ℕ → ℤ → Bool
up_from m n (pos k) = leb m k && leb k n
up_from m n (negsuc k) = false

unfoldable pub from_to : ℕ → ℕ → ℤ → Bool
from_to m n (pos k) = leb k n
from_to m n (negsuc k) = leb (suc k) m

unfoldable pub is_clock : ℕ → Bool
is_clock n = leb (n / 10000) 23 && (leb (n / 100 % 100) 59 && leb (n % 100) 59)

unfoldable pub is_depth : ℕ → Bool
is_depth n = leb n 999 || (leb n 9990 && eqb (n % 10) 0)

unfoldable pub of_natural : (ℕ → Bool) → ℤ → Bool
of_natural p (pos n) = p n
of_natural p (negsuc n) = false

unfoldable pub allows_number : Kind → ℤ → Bool
allows_number index n = up_from 1 9 n
allows_number (whole_number m k) n = up_from m k n
allows_number (signed_number m k) n = from_to m k n
allows_number (decimal_number k) n = up_from 0 k n
allows_number (signed_decimal m k) n = from_to m k n
allows_number coordinate n = true
allows_number water_depth n = of_natural is_depth n
allows_number time n = of_natural is_clock n
allows_number (may_be_blank k) n = allows_number k n
allows_number starts_non_blank n = false
allows_number digits_only n = false
allows_number (code i) n = false

unfoldable pub allows_text : Kind → List ℕ → Bool
allows_text starts_non_blank bs = every (length bs) (λ i. printable (get_or bs i 0)) && not (eqb (col bs 1) 32)
allows_text (code i) bs = is_code i bs
allows_text digits_only bs = false
allows_text index bs = false
allows_text (whole_number m k) bs = false
allows_text (signed_number m k) bs = false
allows_text (decimal_number k) bs = false
allows_text (signed_decimal m k) bs = false
allows_text coordinate bs = false
allows_text water_depth bs = false
allows_text time bs = false
allows_text (may_be_blank k) bs = false

unfoldable pub allows_nothing : Kind → Bool
allows_nothing (may_be_blank k) = true
allows_nothing starts_non_blank = false
allows_nothing digits_only = false
allows_nothing index = false
allows_nothing (whole_number m k) = false
allows_nothing (signed_number m k) = false
allows_nothing (decimal_number k) = false
allows_nothing (signed_decimal m k) = false
allows_nothing coordinate = false
allows_nothing water_depth = false
allows_nothing time = false
allows_nothing (code i) = false

unfoldable pub allows : Kind → Value → Bool
allows k (text bs) = allows_text k bs
allows k (number n) = allows_number k n
allows k nothing = allows_nothing k

unfoldable pub columns_hold : Kind → ℕ → Value → Bool
columns_hold k w (text bs) = eqb (length bs) w
columns_hold k w (number n) = leb (length (spelled_as k w n)) w
columns_hold k w nothing = true

unfoldable pub goes_into : Kind → ℕ → Value → Bool
goes_into k w v = allows k v && columns_hold k w v
