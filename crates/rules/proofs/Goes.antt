-- What is read from a field that obeys its rule can be written into its columns.
--   Goes k w v  = the value is a number that the field takes, and its columns hold it
--   number_goes = so of the kinds that hold a number
--   read_goes   = so of every kind
use Prim.Native.Nat.{ℕ, ◌+◌, ◌*◌, ◌%◌, ◌≤◌, zero, suc}
use native.Mathlib.Omega.{arith}
use mathlib.Core.Path.{◌≡◌, refl, ap}
use mathlib.Core.Logic.{inl, inr, ⊎_elim, ◌⊎◌}
use mathlib.Core.Bool.{true, Bool, false, ◌||◌}
use mathlib.Core.List.{List}
use lib.IntN.{ℤ, pos, neg_ℤ}
use lib.ListN.{length}
use borrow.Author.Tests.{le-leb, eq-eqb}
use Rattle.rules.specs.Places.{pick}
use Rattle.rules.specs.Text.{blank}
use Rattle.rules.specs.Numbers.{plus, whole, signed, tenths, value}
use Rattle.rules.specs.Kinds.{Kind, coordinate, index, water_depth, whole_number, signed_number, signed_decimal, decimal_number, may_be_blank, water}
use Rattle.rules.specs.Kinds.{fits, is_code}
use Rattle.rules.specs.MeetsFields.{Whole, value_after, Minus, Decimal, MinusDecimal}
use Rattle.rules.specs.Figures.{decimal_of}
use Rattle.rules.specs.Values.{Value, number, nothing, read_as}
use Rattle.rules.specs.Spelled.{with_point, by_sign, spelled_as, up_from, from_to, of_natural, allows_number, allows_text, allows_nothing, allows}
use Rattle.rules.specs.Spelled.{columns_hold, goes_into}
use Rattle.rules.proofs.Tests.{says, and_is}
use Rattle.rules.proofs.Numbers.{signed_plus, signed_minus}
use Rattle.rules.proofs.Spellings.{decimal_whole, decimal_plus, decimal_minus}
use Rattle.rules.proofs.Fields.{whole_size, index_value, index_range, kind_is, value_plus, value_minus}
use Rattle.rules.proofs.Figures.{decimal_small, figures_few}
use Rattle.rules.proofs.Padded.{padded_long}
use Rattle.rules.proofs.Clock.{clock_is, time_figures}
use Rattle.rules.proofs.Fitting.{Numeric, one_digit, six_digits, coordinates, depths, wholes, integers, decimals, either_sign, Fitting, names}
use Rattle.rules.proofs.Fitting.{codes, given, if_any, Printed, name_says}
use Rattle.rules.proofs.Short.{minus_few, point_few, whole_few, coordinate_short, minus_short, point_grow, minus_point_few}
use Rattle.rules.proofs.Water.{water_point, water_metres, water_short, depth_is}

abbrev Goes : Kind → ℕ → Value → Type 0
Goes k w v = (n : ℤ) × (v ≡ number n) × (allows_number k n ≡ true) × (length (spelled_as k w n) ≤ w)

minus_allowed : (m n k : ℕ) → k ≤ m → from_to m n (neg_ℤ (pos k)) ≡ true
unfolding from_to
minus_allowed m n zero h = le-leb 0 n (omega arith)
minus_allowed m n (suc k) h = le-leb (suc k) m h

-- a depth of water, whichever way it is written
module _ (bs : List ℕ) (w n : ℕ) (f : 4 ≤ w) (e : water bs ≡ plus n) where
  depth_goes : n ≤ 9990 → (n ≤ 999) ⊎ ((n ≤ 9990) × (n % 10 ≡ 0)) → Goes water_depth w (read_as water_depth bs)
  unfolding read_as allows_number spelled_as of_natural by_sign value
  depth_goes h d = (pos n, rw e, (depth_is n).1 d, (let g = water_short n h in omega arith))

number_goes : {k : Kind} {w : ℕ} → Numeric k w → (bs : List ℕ) → length bs ≡ w → fits k bs ≡ true → Goes k w (read_as k bs)
unfolding fits read_as allows_number spelled_as up_from from_to of_natural by_sign
number_goes one_digit bs h e =
    let i = (kind_is index bs).0 e in
    let r = index_range _ i.0 i.1 in (
      pos i.0,
      ap (λ (m : ℕ). number (pos m)) (index_value _ i.0 i.1),
      simp says r,
      rw (decimal_small i.0 (omega arith)) (omega arith),
    )
number_goes six_digits bs h e =
    let n = value_after 0 bs in
    let f = time_figures bs h e in (
      pos n,
      ap (λ (m : ℕ). number (pos m)) (whole_size bs n (0, bs, refl, f)),
      (clock_is bs n h f).0 e,
      (let l = padded_long 48 6 (decimal_of n) (let g = figures_few bs n f in omega arith) in omega arith),
    )
number_goes (wholes {m = x} {n = y}) bs h e =
    let i = (kind_is (whole_number x y) bs).0 e in (
      pos i.0,
      ap (λ (m : ℕ). number (pos m)) (whole_size bs i.0 i.1),
      simp says (i.2, i.3),
      (let g = whole_few bs i.0 i.1 in omega arith),
    )
number_goes (integers {m = x} {n = y} {w = w}) bs h e =
    ⊎_elim
    (λ i. (pos i.0, ap number (value_plus signed Whole signed_plus bs i.0 i.1), simp says i.2, let g = whole_few bs i.0 i.1 in omega arith))
    (λ i. (
      neg_ℤ (pos i.0),
      ap number (value_minus signed Minus signed_minus bs i.0 i.1),
      minus_allowed x y i.0 i.2,
      minus_short decimal_of w i.0 (let g = minus_few bs i.0 i.1 in omega arith),
    ))
    ((kind_is (signed_number x y) bs).0 e)
number_goes (decimals {n = y} f) bs h e =
    let i = (kind_is (decimal_number y) bs).0 e in (
      pos i.0,
      ap number (value_plus (tenths whole) Decimal decimal_whole bs i.0 i.1),
      simp says (i.2, i.3),
      (let g = point_grow i.0 y i.3 in omega arith),
    )
number_goes (either_sign {m = x} {n = y} {w = w} f g) bs h e =
    ⊎_elim
    (λ i. (
      pos i.0,
      ap number (value_plus (tenths signed) Decimal decimal_plus bs i.0 i.1),
      simp says i.2,
      let l = point_grow i.0 y i.2 in omega arith,
    ))
    (λ i. (
      neg_ℤ (pos i.0),
      ap number (value_minus (tenths signed) MinusDecimal decimal_minus bs i.0 i.1),
      minus_allowed x y i.0 i.2,
      minus_short with_point w i.0 (let l = point_grow i.0 x i.2 in omega arith),
    ))
    ((kind_is (signed_decimal x y) bs).0 e)
number_goes (coordinates {w = w}) bs h e =
    let i = (kind_is coordinate bs).0 e in
    let n = i.0 in
    ⊎_elim
    (λ d. (
      pos n,
      ap number (value_plus (tenths signed) Decimal decimal_plus bs n d),
      refl,
      coordinate_short (with_point n) (decimal_of n) w
          (⊎_elim (λ a. inr (let g = whole_few bs n a in omega arith)) (λ a. inl (let g = point_few bs n a in omega arith)) d),
    ))
    (λ d. (
      neg_ℤ (pos n),
      ap number (value_minus (tenths signed) MinusDecimal decimal_minus bs n d),
      refl,
      coordinate_short (by_sign with_point (neg_ℤ (pos n))) (by_sign decimal_of (neg_ℤ (pos n))) w
          (⊎_elim (λ a. inr (minus_short decimal_of w n (let g = minus_few bs n a in omega arith)))
          (λ a. inl (minus_short with_point w n (let g = minus_point_few bs n a in omega arith))) d),
    ))
    i.1
number_goes (depths f) bs h e =
    ⊎_elim (λ i. depth_goes bs _ i.0 f (water_point bs i.0 i.1 i.3) (omega (arith, i.3)) (inl i.3))
    (λ i.
    let h = i.3 in
    depth_goes bs _ (10 * i.0 + 0) f (water_metres bs i.0 i.1 h) (omega arith) (inr (omega arith, omega arith)))
    ((kind_is water_depth bs).0 e)

goes_number : (k : Kind) (w : ℕ) (v : Value) → Goes k w v → goes_into k w v ≡ true
unfolding goes_into allows columns_hold
goes_number k w v g = rw g.1 ((and_is (allows_number k g.0) _).1 (g.2, le-leb _ w g.3))

held_goes : (k : Kind) (w : ℕ) (v : Value) (t s : Bool) → t || s ≡ true → (s ≡ true → Goes k w v) → goes_into (may_be_blank k) w (pick t nothing v) ≡ true
unfolding goes_into allows columns_hold allows_nothing allows_number spelled_as pick
held_goes k w v true s e f = refl
held_goes k w v false s e f = goes_number (may_be_blank k) w v (f e)

pub read_goes : {k : Kind} {w : ℕ} → Fitting k w → (bs : List ℕ) → length bs ≡ w → Printed bs → fits k bs ≡ true → goes_into k w (read_as k bs) ≡ true
unfolding goes_into allows columns_hold read_as allows_text fits
read_goes (names {w = w}) bs h p e = (and_is _ _).1 ((name_says bs).1 (p, e), eq-eqb (length bs) w h)
read_goes (codes {i = i}) bs h p e = (and_is (is_code i bs) _).1 (e, eq-eqb (length bs) 2 h)
read_goes (given {k = k} {w = w} f) bs h p e = goes_number k w (read_as k bs) (number_goes f bs h e)
read_goes (if_any {k = k} {w = w} f) bs h p e =
    held_goes k w (read_as k bs) (blank bs) (fits k bs) e (number_goes f bs h)
