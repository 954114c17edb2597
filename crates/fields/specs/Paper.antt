-- The code's numbers and kinds as the paper's.
--   number n      = what a field holds
--   kind k        = the rule of a field
--   sized k a b   = columns a to b stand in a line, and are so many as the rule k is asked of; Sized says it
use Rattle.std.specs.Prelude.{ℕ, ◌+◌, ◌≤◌, ◌<◌, ◌≡◌, Bool, true, ◌&&◌, eqb, leb, ltb, Option, None, Some}
use Rattle.rules.specs.Numbers.{Number as PaperNumber, malformed, plus, minus}
use Rattle.rules.specs.Kinds.{Kind as PaperKind, starts_non_blank, digits_only, coordinate, index, water_depth, time}
use Rattle.rules.specs.Kinds.{whole_number, signed_number, signed_decimal, decimal_number, code}
use Rattle.fields.specs.declared.Number.{Number}
use Rattle.fields.specs.declared.Number.TheVariants.{Plus, Minus}
use Rattle.fields.specs.declared.Kind.{Kind}
use Rattle.fields.specs.declared.Kind.TheVariants.{StartsNonBlank, DigitsOnly, Coordinate, Index, WaterDepth, Time}
use Rattle.fields.specs.declared.Kind.TheVariants.{WholeNumber, SignedNumber, SignedDecimal, DecimalNumber, Code}

abbrev pub number : Option Number → PaperNumber
number None = malformed
number (Some (Plus n)) = plus n
number (Some (Minus n)) = minus n

abbrev pub kind : Kind → PaperKind
kind StartsNonBlank = starts_non_blank
kind DigitsOnly = digits_only
kind Coordinate = coordinate
kind Index = index
kind WaterDepth = water_depth
kind Time = time
kind (WholeNumber m n) = whole_number m n
kind (SignedNumber m n) = signed_number m n
kind (SignedDecimal m n) = signed_decimal m n
kind (DecimalNumber n) = decimal_number n
kind (Code i) = code i

-- the columns of a rule, where it has a number of its own
abbrev pub wide : Kind → ℕ → ℕ → Bool
wide StartsNonBlank a b = true
wide DigitsOnly a b = true
wide Coordinate a b = true
wide Index a b = true
wide WaterDepth a b = true
wide Time a b = eqb b (a + 5)
wide (WholeNumber m n) a b = true
wide (SignedNumber m n) a b = true
wide (SignedDecimal m n) a b = true
wide (DecimalNumber n) a b = true
wide (Code i) a b = eqb b (a + 1)

-- a field that stands in a line: columns 1 to 80, at most 16 of them, and as many as its rule asks
unfoldable pub sized : Kind → ℕ → ℕ → Bool
sized k a b = leb 1 a && (leb a b && (leb b 80 && (ltb b (a + 16) && wide k a b)))

abbrev pub Sized : Kind → ℕ → ℕ → Type 0
Sized k a b = (1 ≤ a) × ((a ≤ b) × ((b ≤ 80) × ((b < a + 16) × (wide k a b ≡ true))))
