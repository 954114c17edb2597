-- The test of each rule of a field says what `MeetsFields` has in words.
use Prim.Native.Nat.{ℕ, ◌-◌, ◌≤◌}
use Prim.Native.String.{String, [] as empty, ◌∷◌ as ◌∷ₛ◌}
use Prim.Native.Char.{code as ascii}
use native.Mathlib.Omega.{arith}
use mathlib.Core.Path.{◌≡◌, refl, sym}
use mathlib.Core.Logic.Iff
use mathlib.Core.Logic.{◌↔◌, ◌⊎◌, inl, inr, ⊎_elim}
use mathlib.Core.Bool.{Bool, true, false, ◌&&◌, ◌||◌}
use mathlib.Core.List.{List, [], ◌∷◌}
use lib.Dec.{eqb}
use lib.IntN.{pos, neg_ℤ}
use lib.ListN.{length, replicate}
use borrow.Author.Tests.{eqb-true, eq-eqb}
use Rattle.rules.specs.Places.{pick}
use Rattle.rules.specs.Text.{col, same, blank, bytes, one_of}
use Rattle.rules.specs.Numbers.{Number, malformed, plus, minus, digits, whole, signed, then, decimal, tenths, size, value}
use Rattle.rules.specs.Kinds.{Kind, starts_non_blank, digits_only, coordinate, index, water_depth, time, whole_number, signed_number}
use Rattle.rules.specs.Kinds.{signed_decimal, decimal_number, code, may_be_blank, formed, between, within, all_digits, digit1, index_of}
use Rattle.rules.specs.Kinds.{family, is_code, water, is_time, fits}
use Rattle.rules.specs.MeetsFields.{Digits, Figures, Whole, Minus, Tenths, Decimal, MinusDecimal, InRange, SignedRange, Blank, Index}
use Rattle.rules.specs.MeetsFields.{OneOf, Family, Code, WaterDepth, Time, Reads}
use Rattle.rules.proofs.Tests.{says, clash, and_is, or_is, pick_is, same_is}
use Rattle.rules.proofs.Numbers.{no_plus, no_minus, digit_is, digits_are, whole_is, signed_plus, signed_minus}
use Rattle.rules.proofs.Spellings.{pointed_whole, decimal_whole, decimal_plus, decimal_minus}

-- ranges
pub formed_is : (v : Number) → (formed v ≡ true) ↔ ((n : ℕ) × ((v ≡ plus n) ⊎ (v ≡ minus n)))
unfolding formed
formed_is malformed = (λ e. clash e, λ w. ⊎_elim (λ e. no_plus e) (λ e. no_minus e) w.1)
formed_is (plus n) = (λ e. (n, inl refl), λ w. refl)
formed_is (minus n) = (λ e. (n, inr refl), λ w. refl)

pub between_is : (a b : ℕ) (v : Number) → (between a b v ≡ true) ↔ ((n : ℕ) × (v ≡ plus n) × (a ≤ n) × (n ≤ b))
unfolding between
between_is a b malformed = (λ e. clash e, λ w. no_plus w.1)
between_is a b (plus n) =
    (λ e. let w = simp says at e in (n, refl, w.0, w.1), λ w. let p = w.1 in let q : n ≡ w.0 = cc in simp says (rw q (w.2, w.3)))
between_is a b (minus n) = (λ e. clash e, λ w. let p = w.1 in let z : ◌≡◌ {A = ℕ} 0 1 = cc in absurd (omega arith))

pub within_is : (a b : ℕ) (v : Number)
    → (within a b v ≡ true) ↔ (((n : ℕ) × (v ≡ plus n) × (n ≤ b)) ⊎ ((n : ℕ) × (v ≡ minus n) × (n ≤ a)))
unfolding within
within_is a b malformed = (λ e. clash e, λ w. ⊎_elim (λ u. no_plus u.1) (λ u. no_minus u.1) w)
within_is a b (plus n) = (
  λ e. inl (n, refl, simp says at e),
  λ w.
      ⊎_elim (λ u. let p = u.1 in let q : n ≡ u.0 = cc in simp says (rw q u.2))
      (λ u. let p = u.1 in let z : ◌≡◌ {A = ℕ} 0 1 = cc in absurd (omega arith)) w,
)
within_is a b (minus n) = (
  λ e. inr (n, refl, simp says at e),
  λ w.
      ⊎_elim (λ u. let p = u.1 in let z : ◌≡◌ {A = ℕ} 0 1 = cc in absurd (omega arith))
      (λ u. let p = u.1 in let q : n ≡ u.0 = cc in simp says (rw q u.2)) w,
)

pub blank_is : (bs : List ℕ) → (blank bs ≡ true) ↔ Blank bs
unfolding blank
blank_is [] = (λ e. refl, λ e. refl)
blank_is (b ∷ bs) =
    let u = and_is (eqb b 32) (blank bs) in (
      λ e. let w = u.0 e in let p = eqb-true b 32 w.0 in let q = (blank_is bs).0 w.1 in cc,
      λ e.
          let p : b ≡ 32 = cc in
          let q : bs ≡ replicate (length bs) 32 = cc in
          u.1 (eq-eqb b 32 p, (blank_is bs).1 q),
    )

pub all_digits_is : (bs : List ℕ) → (all_digits bs ≡ true) ↔ Digits bs
unfolding all_digits
all_digits_is [] = (λ e. tt, λ e. refl)
all_digits_is (b ∷ bs) = simp (and_is, digit_is, all_digits_is bs) Iff.rfl

pub digit1_is : (b : ℕ) → (digit1 b ≡ true) ↔ ((49 ≤ b) × (b ≤ 57))
unfolding digit1
digit1_is b = simp says Iff.rfl

pub index_value : (b v : ℕ) → Index b v → index_of b ≡ v
unfolding index_of
index_value b v (inl w) = (pick_is _ _ _ _).1 ((λ t. sym w.1), λ t. absurd (t (eq-eqb b 32 w.0)))
index_value b v (inr w) =
    let l = w.0 in
    (pick_is _ _ _ _).1 ((λ t. absurd (let z = eqb-true b 32 t in omega arith)), λ t. sym w.2)

pub index_range : (b v : ℕ) → Index b v → (1 ≤ v) × (v ≤ 9)
index_range b v (inl w) = let e = w.1 in (omega arith, omega arith)
index_range b v (inr w) = let e = w.2 in let l = w.0 in let h = w.1 in (omega arith, omega arith)

index_is : (b : ℕ) → (eqb b 32 || digit1 b ≡ true) ↔ ((v : ℕ) × Index b v)
index_is b =
    let u = or_is (eqb b 32) (digit1 b) in (
      λ e.
          ⊎_elim (λ t. (1, inl (eqb-true b 32 t, refl))) (λ t. let w = (digit1_is b).0 t in (b - 48, inr (w.0, w.1, refl))) (u.0 e),
      λ w. u.1 (⊎_elim (λ i. inl (eq-eqb b 32 i.0)) (λ i. inr ((digit1_is b).1 (i.0, i.1))) w.1),
    )

one_of_is : (s : String) (b : ℕ) → (one_of s b ≡ true) ↔ OneOf s b
unfolding one_of
one_of_is empty b = (λ e. clash e, λ w. absurd w)
one_of_is (◌∷ₛ◌ c s) b =
    let u = or_is (eqb b (ascii c)) (one_of s b) in (
      λ e. ⊎_elim (λ t. inl (eqb-true b _ t)) (λ t. inr ((one_of_is s b).0 t)) (u.0 e),
      λ w. u.1 (⊎_elim (λ t. inl (eq-eqb b _ t)) (λ t. inr ((one_of_is s b).1 t)) w),
    )

pub family_is : (i b : ℕ) → (family i b ≡ true) ↔ Family i b
unfolding family
family_is i b = simp (pick_is, one_of_is, says) Iff.rfl

pub code_is : (i : ℕ) (bs : List ℕ) → (is_code i bs ≡ true) ↔ Code i bs
unfolding is_code
code_is i bs =
    let rest : Bool = family i (col bs 1) && digit1 (col bs 2) in
    let u = or_is (same bs (bytes "PM")) (same bs (bytes "KL") || rest) in
    let v = or_is (same bs (bytes "KL")) rest in
    let w = and_is (family i (col bs 1)) (digit1 (col bs 2)) in (
      λ e.
          ⊎_elim (λ t. inl ((same_is bs _).0 t))
          (λ t.
          inr
          (⊎_elim (λ t. inl ((same_is bs _).0 t))
          (λ t. let y = w.0 t in inr ((family_is i _).0 y.0, (digit1_is _).0 y.1)) (v.0 t)))
          (u.0 e),
      λ c.
          u.1
          (⊎_elim (λ t. inl ((same_is bs _).1 t))
          (λ t.
          inr
          (v.1
          (⊎_elim (λ t. inl ((same_is bs _).1 t)) (λ t. inr (w.1 ((family_is i _).1 t.0, (digit1_is _).1 t.1))) t)))
          c),
    )

module _ (read : List ℕ → Number) (P : List ℕ → ℕ → Type 0) (p : (bs : List ℕ) (n : ℕ) → (read bs ≡ plus n) ↔ P bs n) where
  range_is : (a b : ℕ) (bs : List ℕ) → (between a b (read bs) ≡ true) ↔ InRange P a b bs
  range_is a b bs =
      let u = between_is a b (read bs) in
      (λ e. let w = u.0 e in (w.0, (p bs w.0).0 w.1, w.2, w.3), λ w. u.1 (w.0, (p bs w.0).1 w.1, w.2, w.3))

  module _ (M : List ℕ → ℕ → Type 0) (m : (bs : List ℕ) (n : ℕ) → (read bs ≡ minus n) ↔ M bs n) where
    signed_range_is : (a b : ℕ) (bs : List ℕ) → (within a b (read bs) ≡ true) ↔ SignedRange P M a b bs
    signed_range_is a b bs =
        let u = within_is a b (read bs) in (
          λ e. ⊎_elim (λ w. inl (w.0, (p bs _).0 w.1, w.2)) (λ w. inr (w.0, (m bs _).0 w.1, w.2)) (u.0 e),
          λ v. u.1 (⊎_elim (λ w. inl (w.0, (p bs _).1 w.1, w.2)) (λ w. inr (w.0, (m bs _).1 w.1, w.2)) v),
        )

    formed_reads : (bs : List ℕ) → (formed (read bs) ≡ true) ↔ ((n : ℕ) × (P bs n ⊎ M bs n))
    formed_reads bs =
        let u = formed_is (read bs) in (
          λ e. let w = u.0 e in (w.0, ⊎_elim (λ t. inl ((p bs _).0 t)) (λ t. inr ((m bs _).0 t)) w.1),
          λ w. u.1 (w.0, ⊎_elim (λ t. inl ((p bs _).1 t)) (λ t. inr ((m bs _).1 t)) w.1),
        )

formed_then : (v : Number) (d : ℕ) → formed v ≡ true → formed (then v d) ≡ true
unfolding formed then
formed_then malformed d e = e
formed_then (plus n) d e = refl
formed_then (minus n) d e = refl

between_formed : (a b : ℕ) (v : Number) → between a b v ≡ true → formed v ≡ true
between_formed a b v e = let w = (between_is a b v).0 e in (formed_is v).1 (w.0, inl w.1)

water_is : (bs : List ℕ) → (formed (water bs) ≡ true) ↔ WaterDepth bs
unfolding water pick formed
water_is bs =
    go (decimal whole bs) (then (whole bs) 0) (between 0 999 (decimal whole bs)) (between 0 999 (whole bs)) (between_formed 0 999 _)
    (λ e. formed_then _ 0 (between_formed 0 999 _ e)) (range_is (decimal whole) (Tenths Whole) pointed_whole 0 999 bs)
    (range_is whole Whole whole_is 0 999 bs)
  where
    go : {P Q : Type 0} (t m : Number) (a b : Bool) → (a ≡ true → formed t ≡ true) → (b ≡ true → formed m ≡ true)
        → (a ≡ true) ↔ P → (b ≡ true) ↔ Q → (formed (pick a t (pick b m malformed)) ≡ true) ↔ (P ⊎ Q)
    go t m true b f g p q = (λ e. inl (p.0 refl), λ w. f refl)
    go t m false true f g p q = (λ e. inr (q.0 refl), λ w. g refl)
    go t m false false f g p q = (λ e. clash e, λ w. ⊎_elim (λ u. p.1 u) (λ u. q.1 u) w)

pub time_is : (bs : List ℕ) → (is_time bs ≡ true) ↔ Time bs
unfolding is_time
time_is bs = simp (and_is, range_is digits Figures digits_are) Iff.rfl

pub kind_is : (k : Kind) (bs : List ℕ) → (fits k bs ≡ true) ↔ Reads k bs
unfolding fits
kind_is starts_non_blank bs = simp says Iff.rfl
kind_is digits_only bs = all_digits_is bs
kind_is coordinate bs = formed_reads (tenths signed) Decimal decimal_plus MinusDecimal decimal_minus bs
kind_is index bs = index_is (col bs 1)
kind_is water_depth bs = water_is bs
kind_is time bs = time_is bs
kind_is (whole_number a b) bs = range_is whole Whole whole_is a b bs
kind_is (signed_number a b) bs = signed_range_is signed Whole signed_plus Minus signed_minus a b bs
kind_is (signed_decimal a b) bs = signed_range_is (tenths signed) Decimal decimal_plus MinusDecimal decimal_minus a b bs
kind_is (decimal_number b) bs = range_is (tenths whole) Decimal decimal_whole 0 b bs
kind_is (code i) bs = code_is i bs
kind_is (may_be_blank k) bs =
    let u = or_is (blank bs) (fits k bs) in (
      λ e. ⊎_elim (λ t. inl ((blank_is bs).0 t)) (λ t. inr ((kind_is k bs).0 t)) (u.0 e),
      λ w. u.1 (⊎_elim (λ t. inl ((blank_is bs).1 t)) (λ t. inr ((kind_is k bs).1 t)) w),
    )

-- the value that is kept is that of the digits, after the minus: -0.5 is -5 and -0.0 is 0
pub whole_size : (bs : List ℕ) (n : ℕ) → Whole bs n → size (whole bs) ≡ n
unfolding size
whole_size bs n w = rw ((whole_is bs n).1 w)

module _ (read : List ℕ → Number) (P : List ℕ → ℕ → Type 0) where
  pub value_plus : ((bs : List ℕ) (n : ℕ) → (read bs ≡ plus n) ↔ P bs n) → (bs : List ℕ) (n : ℕ) → P bs n → value (read bs) ≡ pos n
  unfolding value
  value_plus p bs n w = rw ((p bs n).1 w)

  pub value_minus : ((bs : List ℕ) (n : ℕ) → (read bs ≡ minus n) ↔ P bs n) → (bs : List ℕ) (n : ℕ) → P bs n
      → value (read bs) ≡ neg_ℤ (pos n)
  unfolding value
  value_minus p bs n w = rw ((p bs n).1 w)
