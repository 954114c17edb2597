-- "Lines and columns" in words: which bytes obey the rule of a field. Stated of a field's bytes, so of every width and column.
--   Digits bs                  = digits alone
--   value_after a bs            = the value of those digits, after digits that make a
--   Figures bs n               = at least one digit, to the last column, of value n
--   Justified P bs             = blanks, then columns of which P holds
--   Whole bs n                 = blanks, then digits of value n
--   Minus bs n                 = blanks, a minus, then digits of value n
--   Tenths P bs n              = columns of which P holds, a point and one digit: n tenths
--   Spelled P bs n             = n tenths in either spelling: columns of which P holds, which count tenths, or with a point and one digit
--   Decimal, MinusDecimal bs n = n tenths, without and with a minus
--   InRange, SignedRange       = a number from a to b, and one from -a to b
--   Blank bs                   = all columns are blank
--   Index b v                  = the index in byte b has the value v
--   Code i bs                  = a point code of file i
--   Reads k bs                 = the bytes obey the rule k
use Rattle.std.specs.Prelude.{ℕ, ◌+◌, ◌-◌, ◌*◌, ◌≤◌, ◌≡◌, ◌⊎◌, List, [], ◌∷◌, ◌++◌, length, take, drop, replicate}
use Prim.Native.String.{String, [] as empty, ◌∷◌ as ◌∷ₛ◌}
use Prim.Native.Char.{code as ascii}
use Rattle.rules.specs.Plan.{file_r}
use Rattle.rules.specs.Text.{col, bytes}
use Rattle.rules.specs.Kinds.{Kind, starts_non_blank, digits_only, coordinate, index, water_depth, time, whole_number}
use Rattle.rules.specs.Kinds.{signed_number, signed_decimal, decimal_number, code, may_be_blank}

abbrev pub Digit : ℕ → Type 0
Digit b = (48 ≤ b) × (b ≤ 57)

abbrev pub Digits : List ℕ → Type 0
Digits [] = Unit {0}
Digits (b ∷ bs) = Digit b × Digits bs

abbrev pub value_after : ℕ → List ℕ → ℕ
value_after a [] = a
value_after a (b ∷ bs) = value_after (10 * a + (b - 48)) bs

abbrev pub Figures : List ℕ → ℕ → Type 0
Figures bs n = (bs ≡ [] → ⊥) × Digits bs × (value_after 0 bs ≡ n)

-- "A whole number is right justified: blanks, an optional minus where the range allows a negative, then digits to the last column."
abbrev pub Justified : (List ℕ → Type 0) → List ℕ → Type 0
Justified P bs = (j : ℕ) × (ds : List ℕ) × (bs ≡ replicate j 32 ++ ds) × P ds

abbrev pub Whole : List ℕ → ℕ → Type 0
Whole bs n = Justified (λ ds. Figures ds n) bs

abbrev pub Minus : List ℕ → ℕ → Type 0
Minus bs n = Justified (λ ds. (es : List ℕ) × (ds ≡ 45 ∷ es) × Figures es n) bs

-- "A decimal is the same with a point and exactly one digit after it, and at least one before it"
abbrev pub Tenths : (List ℕ → ℕ → Type 0) → List ℕ → ℕ → Type 0
Tenths P bs n =
    (ws : List ℕ) × (d m : ℕ) × (bs ≡ ws ++ (46 ∷ d ∷ [])) × P ws m × Digit d × (10 * m + (d - 48) ≡ n)

-- "digits with no point count tenths. Accept both spellings"
abbrev pub Spelled : (List ℕ → ℕ → Type 0) → List ℕ → ℕ → Type 0
Spelled P bs n = P bs n ⊎ Tenths P bs n

abbrev pub Decimal : List ℕ → ℕ → Type 0
Decimal = Spelled Whole

abbrev pub MinusDecimal : List ℕ → ℕ → Type 0
MinusDecimal = Spelled Minus

abbrev pub InRange : (List ℕ → ℕ → Type 0) → ℕ → ℕ → List ℕ → Type 0
InRange P a b bs = (n : ℕ) × P bs n × (a ≤ n) × (n ≤ b)

abbrev pub SignedRange : (List ℕ → ℕ → Type 0) → (List ℕ → ℕ → Type 0) → ℕ → ℕ → List ℕ → Type 0
SignedRange P M a b bs = ((n : ℕ) × P bs n × (n ≤ b)) ⊎ ((n : ℕ) × M bs n × (n ≤ a))

abbrev pub Blank : List ℕ → Type 0
Blank bs = bs ≡ replicate (length bs) 32

abbrev pub Index : ℕ → ℕ → Type 0
Index b v = ((b ≡ 32) × (v ≡ 1)) ⊎ ((49 ≤ b) × (b ≤ 57) × (v ≡ b - 48))

abbrev pub OneOf : String → ℕ → Type 0
OneOf empty b = ⊥
OneOf (◌∷ₛ◌ c s) b = (b ≡ ascii c) ⊎ OneOf s b

-- "in R, G H R with a digit 1-9; in S, V E A W S with 1-9; in both, PM and KL"
abbrev pub Family : ℕ → ℕ → Type 0
Family i b = (i ≡ file_r → OneOf "GHR" b) × ((i ≡ file_r → ⊥) → OneOf "VEAWS" b)

abbrev pub Code : ℕ → List ℕ → Type 0
Code i bs =
    (bs ≡ bytes "PM") ⊎ ((bs ≡ bytes "KL") ⊎ (Family i (col bs 1) × ((49 ≤ col bs 2) × (col bs 2 ≤ 57))))

-- "0 to 99.9, or whole metres 0 to 999"
abbrev pub WaterDepth : List ℕ → Type 0
WaterDepth bs = InRange (Tenths Whole) 0 999 bs ⊎ InRange Whole 0 999 bs

-- "six digits, 000000 to 235959, minutes and seconds below 60"
abbrev pub Time : List ℕ → Type 0
Time bs =
    InRange Figures 0 23 (take 2 bs) × (InRange Figures 0 59 (take 2 (drop 2 bs)) × InRange Figures 0 59 (drop 4 bs))

abbrev pub Reads : Kind → List ℕ → Type 0
Reads starts_non_blank bs = col bs 1 ≡ 32 → ⊥
Reads digits_only bs = Digits bs
Reads coordinate bs = (n : ℕ) × (Decimal bs n ⊎ MinusDecimal bs n)
Reads index bs = (v : ℕ) × Index (col bs 1) v
Reads water_depth bs = WaterDepth bs
Reads time bs = Time bs
Reads (whole_number a b) bs = InRange Whole a b bs
Reads (signed_number a b) bs = SignedRange Whole Minus a b bs
Reads (signed_decimal a b) bs = SignedRange Decimal MinusDecimal a b bs
Reads (decimal_number b) bs = InRange Decimal 0 b bs
Reads (code i) bs = Code i bs
Reads (may_be_blank k) bs = Blank bs ⊎ Reads k bs
