-- Figures that stand right justified in their columns: how many columns, what reads them, and that they are not blank.
--   padded_long, padded_full       = as many columns as are asked for; nothing before what fills them
--   as_number z                     = a signed number as a field holds it
--   whole_back .. bare_back        = what is written is read, with and without a point
--   every_spelling                 = what holds of figures, a point, a minus and zeros holds of every number that is written
--   inked                          = no number is blanks alone
use Prim.Native.Nat.{ℕ, suc, ◌+◌, ◌-◌, ◌/◌, ◌%◌, ◌≤◌}
use native.Mathlib.Omega.{arith}
use mathlib.Core.Path.{◌≡◌, refl, sym}
use mathlib.Core.Logic.{inl, inr}
use mathlib.Core.Bool.{Bool, true, false}
use mathlib.Core.List.{List, [], ◌∷◌, ◌++◌, append_assoc}
use lib.Dec.{eqb}
use lib.IntN.{ℤ, pos, negsuc}
use lib.ListN.{length, replicate, length-append, length-replicate}
use borrow.Author.Tests.{eqb-true}
use Rattle.rules.specs.Places.{pick}
use Rattle.rules.specs.Text.{blank}
use Rattle.rules.specs.Numbers.{Number, plus, minus, whole, signed, tenths, value}
use Rattle.rules.specs.Kinds.{Kind, starts_non_blank, digits_only, coordinate, index, water_depth, time, whole_number, signed_number}
use Rattle.rules.specs.Kinds.{signed_decimal, decimal_number, code, may_be_blank}
use Rattle.rules.specs.MeetsFields.{Figures, Whole, Minus, Tenths}
use Rattle.rules.specs.Figures.{figure, decimal_of}
use Rattle.rules.specs.Spelled.{padded, with_point, by_sign, water_figures, spelled_as}
use Rattle.rules.proofs.Tests.{clash, and_is}
use Rattle.rules.proofs.Numbers.{whole_is, signed_plus, signed_minus}
use Rattle.rules.proofs.Spellings.{decimal_whole, decimal_plus, decimal_minus}
use Rattle.rules.proofs.Figures.{decimal_figures}

pub padded_long : (b w : ℕ) (bs : List ℕ) → length bs ≤ w → length (padded b w bs) ≡ w
unfolding padded
padded_long b w bs h = simp (length-append, length-replicate) (omega arith)

pub padded_least : (b w : ℕ) (bs : List ℕ) → w ≤ length (padded b w bs)
unfolding padded
padded_least b w bs = simp (length-append, length-replicate) (omega arith)

pub padded_full : (b w : ℕ) (bs : List ℕ) → length bs ≡ w → padded b w bs ≡ bs
unfolding padded
padded_full b w bs h = let z : w - length bs ≡ 0 = omega arith in rw z

padded_more : (b w : ℕ) (cs bs : List ℕ) → padded b w (cs ++ bs) ≡ padded b (w - length bs) cs ++ bs
unfolding padded
padded_more b w cs bs =
    let z : w - (length cs + length bs) ≡ w - length bs - length cs = omega arith in
    rw (length-append cs bs, z) (sym (append_assoc (replicate (w - length bs - length cs) b) cs bs))

-- what is written, in words
pub padded_whole : (w n : ℕ) → Whole (padded 32 w (decimal_of n)) n
unfolding padded
padded_whole w n = (w - length (decimal_of n), decimal_of n, refl, decimal_figures n)

padded_minus : (w n : ℕ) → Minus (padded 32 w (45 ∷ decimal_of n)) n
unfolding padded
padded_minus w n = (w - suc (length (decimal_of n)), 45 ∷ decimal_of n, refl, (decimal_of n, refl, decimal_figures n))

padded_tenths : (P : List ℕ → ℕ → Type 0) (w n : ℕ) (ds : List ℕ) → P (padded 32 (w - 2) ds) (n / 10)
    → Tenths P (padded 32 w (ds ++ (46 ∷ figure (n % 10) ∷ []))) n
padded_tenths P w n ds h =
    let tail : List ℕ = 46 ∷ figure (n % 10) ∷ [] in
    (padded 32 (w - 2) ds, figure (n % 10), n / 10, padded_more 32 w ds tail, h, (omega arith, omega arith), omega arith)

pub whole_tenths : (w n : ℕ) → Tenths Whole (padded 32 w (with_point n)) n
unfolding with_point
whole_tenths w n = padded_tenths Whole w n (decimal_of (n / 10)) (padded_whole (w - 2) (n / 10))

minus_tenths : (w n : ℕ) → Tenths Minus (padded 32 w (45 ∷ with_point n)) n
unfolding with_point
minus_tenths w n = padded_tenths Minus w n (45 ∷ decimal_of (n / 10)) (padded_minus (w - 2) (n / 10))

-- what reads it
abbrev pub as_number : ℤ → Number
as_number (pos n) = plus n
as_number (negsuc n) = minus (suc n)

pub value_as : (z : ℤ) → value (as_number z) ≡ z
unfolding value
value_as (pos n) = refl
value_as (negsuc n) = refl

module _ (w : ℕ) where
  pub whole_back : (n : ℕ) → whole (padded 32 w (decimal_of n)) ≡ plus n
  whole_back n = (whole_is _ n).1 (padded_whole w n)

  pub tenths_back : (n : ℕ) → tenths whole (padded 32 w (with_point n)) ≡ plus n
  tenths_back n = (decimal_whole _ n).1 (inr (whole_tenths w n))

  pub signed_back : (z : ℤ) → signed (padded 32 w (by_sign decimal_of z)) ≡ as_number z
  unfolding by_sign
  signed_back (pos n) = (signed_plus _ n).1 (padded_whole w n)
  signed_back (negsuc n) = (signed_minus _ (suc n)).1 (padded_minus w (suc n))

  pub pointed_back : (z : ℤ) → tenths signed (padded 32 w (by_sign with_point z)) ≡ as_number z
  unfolding by_sign
  pointed_back (pos n) = (decimal_plus _ n).1 (inr (whole_tenths w n))
  pointed_back (negsuc n) = (decimal_minus _ (suc n)).1 (inr (minus_tenths w (suc n)))

  pub bare_back : (z : ℤ) → tenths signed (padded 32 w (by_sign decimal_of z)) ≡ as_number z
  unfolding by_sign
  bare_back (pos n) = (decimal_plus _ n).1 (inl (padded_whole w n))
  bare_back (negsuc n) = (decimal_minus _ (suc n)).1 (inl (padded_minus w (suc n)))

-- either of two spellings
pub either {ℓ} : {A : Type 0} (P : A → Type ℓ) (t : Bool) (a b : A) → P a → P b → P (pick t a b)
unfolding pick
either P true a b f g = f
either P false a b f g = g

-- blanks alone are no number
abbrev pub Inked : List ℕ → Type 0
Inked bs = blank bs ≡ true → ⊥

blank_both : (cs bs : List ℕ) → blank (cs ++ bs) ≡ true → (blank cs ≡ true) × (blank bs ≡ true)
unfolding blank
blank_both [] bs e = (refl, e)
blank_both (c ∷ cs) bs e =
    let w = (and_is (eqb c 32) (blank (cs ++ bs))).0 e in
    let v = blank_both cs bs w.1 in
    ((and_is (eqb c 32) (blank cs)).1 (w.0, v.0), v.1)

pub padded_inked : (b w : ℕ) (bs : List ℕ) → Inked bs → Inked (padded b w bs)
unfolding padded
padded_inked b w bs h e = h (blank_both (replicate (w - length bs) b) bs e).1

figures_inked : (ds : List ℕ) (n : ℕ) → Figures ds n → Inked ds
unfolding blank
figures_inked [] n w e = w.0 refl
figures_inked (d ∷ ds) n w e =
    let z = eqb-true d 32 ((and_is (eqb d 32) (blank ds)).0 e).0 in
    let h = w.1.0.0 in
    omega arith

decimal_inked : (n : ℕ) → Inked (decimal_of n)
decimal_inked n = figures_inked (decimal_of n) n (decimal_figures n)

point_inked : (n : ℕ) → Inked (with_point n)
unfolding with_point
point_inked n e = decimal_inked (n / 10) (blank_both (decimal_of (n / 10)) _ e).0

-- what holds of figures, with and without a point, after a minus and after zeros, holds of every number's spelling
module _ (P : List ℕ → Type 0) (bare : (n : ℕ) → P (decimal_of n)) (point : (n : ℕ) → P (with_point n)) (less : (bs : List ℕ) → P bs → P (45 ∷ bs))
    (zeros : (w : ℕ) (bs : List ℕ) → P bs → P (padded 48 w bs)) where
  by_sign_lem : (f : ℕ → List ℕ) → ((n : ℕ) → P (f n)) → (z : ℤ) → P (by_sign f z)
  unfolding by_sign
  by_sign_lem f g (pos n) = g n
  by_sign_lem f g (negsuc n) = less (f (suc n)) (g (suc n))

  of_water : (n : ℕ) → P (water_figures n)
  unfolding water_figures
  of_water n = either P _ (with_point n) (decimal_of (n / 10)) (point n) (bare (n / 10))

  pub every_spelling : (k : Kind) (w : ℕ) (z : ℤ) → P (spelled_as k w z)
  unfolding spelled_as
  every_spelling starts_non_blank w z = by_sign_lem decimal_of bare z
  every_spelling digits_only w z = by_sign_lem decimal_of bare z
  every_spelling index w z = by_sign_lem decimal_of bare z
  every_spelling (whole_number m n) w z = by_sign_lem decimal_of bare z
  every_spelling (signed_number m n) w z = by_sign_lem decimal_of bare z
  every_spelling (code i) w z = by_sign_lem decimal_of bare z
  every_spelling (decimal_number n) w z = by_sign_lem with_point point z
  every_spelling (signed_decimal m n) w z = by_sign_lem with_point point z
  every_spelling coordinate w z =
      either P _ (by_sign with_point z) (by_sign decimal_of z) (by_sign_lem with_point point z) (by_sign_lem decimal_of bare z)
  every_spelling water_depth w z = by_sign_lem water_figures of_water z
  every_spelling time w z = zeros w (by_sign decimal_of z) (by_sign_lem decimal_of bare z)
  every_spelling (may_be_blank k) w z = every_spelling k w z

minus_inked : (bs : List ℕ) → Inked bs → Inked (45 ∷ bs)
unfolding blank
minus_inked bs h e = clash e

pub inked : (k : Kind) (w : ℕ) (z : ℤ) → Inked (spelled_as k w z)
inked = every_spelling Inked decimal_inked point_inked minus_inked (padded_inked 48)
