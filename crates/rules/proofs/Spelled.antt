-- What is written into a field is read from it: over every kind of field, its width and the value.
--   spelled_long  = the field has its width
--   spelled_fits  = it obeys the rule of its kind
--   spelled_reads = the value is read from it
use Prim.Native.Nat.{ℕ, ◌+◌, ◌-◌, ◌≤◌}
use native.Mathlib.Nat.{sub-zero}
use native.Mathlib.Omega.{arith}
use mathlib.Core.Path.{◌≡◌, refl, ap, ◌∙◌}
use mathlib.Core.Logic.{inl, inr}
use mathlib.Core.Bool.{true}
use mathlib.Core.List.{List, [], append-nil}
use lib.Dec.{leb}
use lib.IntN.{ℤ, pos, negsuc}
use lib.ListN.{length, replicate, length-replicate}
use borrow.Author.Tests.{eqb-true, leb-true, ne_eqb}
use Rattle.rules.specs.Places.{pick}
use Rattle.rules.specs.Text.{col, blank}
use Rattle.rules.specs.Numbers.{signed, tenths, size, value}
use Rattle.rules.specs.Kinds.{Kind, index, time, may_be_blank, formed, between, within, index_of, fits}
use Rattle.rules.specs.MeetsFields.{Figures}
use Rattle.rules.specs.Figures.{decimal_of}
use Rattle.rules.specs.Values.{Value, text, number, nothing, read_as}
use Rattle.rules.specs.Spelled.{padded, with_point, by_sign, spelled_as, spelled, spell, up_from, from_to, is_clock, of_natural, allows_number}
use Rattle.rules.specs.Spelled.{allows_text, allows_nothing, allows, columns_hold, goes_into}
use Rattle.rules.proofs.Tests.{says, clash, and_is, or_is, pick_is}
use Rattle.rules.proofs.Fields.{blank_is, digit1_is, whole_size}
use Rattle.rules.proofs.Figures.{decimal_small, decimal_figures}
use Rattle.rules.proofs.Padded.{padded_long, padded_least, padded_full, as_number, value_as, whole_back, tenths_back, signed_back, pointed_back}
use Rattle.rules.proofs.Padded.{bare_back, either, padded_inked, inked}
use Rattle.rules.proofs.Clock.{zeros_figures, clock_is}
use Rattle.rules.proofs.Fitting.{Numeric, one_digit, six_digits, coordinates, depths, wholes, integers, decimals, either_sign, Fitting, names}
use Rattle.rules.proofs.Fitting.{codes, given, if_any, name_says, no_text, not_absent}
use Rattle.rules.proofs.Water.{water_back}

-- the columns hold the value
module _ (k : Kind) (w : ℕ) where
  spelled_short : (v : Value) → columns_hold k w v ≡ true → length (spelled k w v) ≤ w
  unfolding columns_hold spelled
  spelled_short (text bs) e = let z = eqb-true (length bs) w e in omega arith
  spelled_short (number n) e = leb-true _ w e
  spelled_short nothing e = omega arith

  pub spelled_long : (v : Value) → goes_into k w v ≡ true → length (spell k w v) ≡ w
  unfolding goes_into spell
  spelled_long v e = padded_long 32 w (spelled k w v) (spelled_short v ((and_is (allows k v) _).0 e).1)

-- a number and its test
abbrev Back : Kind → ℕ → ℤ → Type 0
Back k w n = let bs = padded 32 w (spelled_as k w n) in (fits k bs ≡ true) × (read_as k bs ≡ number n)

within_as : (m n : ℕ) (z : ℤ) → within m n (as_number z) ≡ from_to m n z
unfolding within from_to
within_as m n (pos k) = refl
within_as m n (negsuc k) = refl

formed_as : (z : ℤ) → formed (as_number z) ≡ true
unfolding formed
formed_as (pos k) = refl
formed_as (negsuc k) = refl

-- an index is one digit, and the columns of a time are digits alone
index_back : (n : ℕ) → 1 ≤ n → n ≤ 9 → Back index 1 (pos n)
unfolding spelled_as by_sign fits read_as index_of pick col padded
index_back n a b =
    rw (decimal_small n (omega arith), ne_eqb (48 + n) 32 (λ e. omega arith)) (
      (digit1_is (48 + n)).1 (omega arith, omega arith),
      ap (λ (m : ℕ). number (pos m)) (let z : 48 + n - 48 ≡ n = omega arith in z),
    )

time_back : (n : ℕ) → is_clock n ≡ true → length (padded 48 6 (decimal_of n)) ≤ 6 → Back time 6 (pos n)
unfolding spelled_as by_sign fits read_as padded
time_back n a b =
    let zs = padded 48 6 (decimal_of n) in
    let f : Figures zs n = zeros_figures (6 - length (decimal_of n)) (decimal_of n) n (decimal_figures n) in
    let l : length zs ≡ 6 = omega (arith, padded_least 48 6 (decimal_of n)) in
    rw (padded_full 32 6 zs l) ((clock_is zs n l f).1 a, ap (λ (m : ℕ). number (pos m)) (whole_size zs n (0, zs, refl, f)))

number_back : {k : Kind} {w : ℕ} → Numeric k w → (n : ℤ) → allows_number k n ≡ true → length (spelled_as k w n) ≤ w → Back k w n
unfolding spelled_as allows_number up_from of_natural fits read_as between size value by_sign formed
number_back one_digit (pos n) a h = let b = simp says at a in index_back n b.0 b.1
number_back one_digit (negsuc n) a h = clash a
number_back six_digits (pos n) a h = time_back n a h
number_back six_digits (negsuc n) a h = clash a
number_back (wholes {w = w}) (pos n) a h = rw (whole_back w n) (a, refl)
number_back wholes (negsuc n) a h = clash a
number_back (integers {m = x} {n = y} {w = w}) n a h = rw (signed_back w n, value_as n) (within_as x y n ∙ a, refl)
number_back (decimals {w = w} f) (pos n) a h = rw (tenths_back w n) (a, refl)
number_back (decimals f) (negsuc n) a h = clash a
number_back (either_sign {m = x} {n = y} {w = w} f g) n a h = rw (pointed_back w n, value_as n) (within_as x y n ∙ a, refl)
number_back (coordinates {w = w}) n a h =
    let e =
    either (λ (l : List ℕ). tenths signed (padded 32 w l) ≡ as_number n) (leb (length (by_sign with_point n)) w) _ _
    (pointed_back w n) (bare_back w n) in
    rw (e, value_as n) (formed_as n, refl)
number_back (depths {w = w} f) (pos n) a h = rw (water_back w n a) (refl, refl)
number_back (depths f) (negsuc n) a h = clash a

held_back : {k : Kind} {w : ℕ} → Numeric k w → (n : ℤ) → allows_number k n ≡ true → length (spelled_as k w n) ≤ w → Back (may_be_blank k) w n
unfolding spelled_as fits read_as
held_back {k = k} {w = w} f n a h =
    let bs = padded 32 w (spelled_as k w n) in
    let b = number_back f n a h in
    let i = padded_inked 32 w (spelled_as k w n) (inked k w n) in
    ((or_is (blank bs) (fits k bs)).1 (inr b.0), (pick_is _ _ _ _).1 ((λ t. absurd (i t)), λ t. b.1))

-- blanks alone
blanks_blank : (n : ℕ) → blank (padded 32 n []) ≡ true
unfolding padded
blanks_blank n = rw (append-nil, sub-zero) ((blank_is (replicate n 32)).1 (rw length-replicate))

-- the two parts of the test
goes : (k : Kind) (w : ℕ) (v : Value) → goes_into k w v ≡ true → (allows k v ≡ true) × (columns_hold k w v ≡ true)
unfolding goes_into
goes k w v e = (and_is (allows k v) (columns_hold k w v)).0 e

spelled_back : {k : Kind} {w : ℕ} → Fitting k w → (v : Value) → allows k v ≡ true → columns_hold k w v ≡ true
    → (fits k (spell k w v) ≡ true) × (read_as k (spell k w v) ≡ v)
unfolding allows columns_hold spell spelled spelled_as fits read_as allows_text allows_number allows_nothing
spelled_back (names {w = w}) (text bs) a h =
    rw (padded_full 32 w bs (eqb-true (length bs) w h)) (((name_says bs).0 a).1, refl)
spelled_back names (number n) a h = clash a
spelled_back names nothing a h = clash a
spelled_back codes (text bs) a h = rw (padded_full 32 2 bs (eqb-true (length bs) 2 h)) (a, refl)
spelled_back codes (number n) a h = clash a
spelled_back codes nothing a h = clash a
spelled_back (given f) (text bs) a h = absurd (no_text f bs a)
spelled_back (given {w = w} f) (number n) a h = number_back f n a (leb-true _ w h)
spelled_back (given f) nothing a h = absurd (not_absent f a)
spelled_back (if_any f) (text bs) a h = clash a
spelled_back (if_any {w = w} f) (number n) a h = held_back f n a (leb-true _ w h)
spelled_back (if_any {k = k} {w = w} f) nothing a h =
    let b = blanks_blank w in
    ((or_is (blank (padded 32 w [])) (fits k (padded 32 w []))).1 (inl b), (pick_is _ _ _ _).1 ((λ t. refl), λ t. absurd (t b)))

module _ {k : Kind} {w : ℕ} (f : Fitting k w) (v : Value) (e : goes_into k w v ≡ true) where
  pub spelled_fits : fits k (spell k w v) ≡ true
  spelled_fits = let g = goes k w v e in (spelled_back f v g.0 g.1).0

  pub spelled_reads : read_as k (spell k w v) ≡ v
  spelled_reads = let g = goes k w v e in (spelled_back f v g.0 g.1).1
