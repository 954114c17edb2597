-- Tenths in either spelling: with a point and one digit after it, or digits alone.
--   decimal_whole, decimal_plus, decimal_minus = what is read is what one of the spellings says; no columns are both
--   one_whole, one_plus, one_minus = a number with a point and a digit after it, and the same digits after a blank, have one value
use Prim.Native.Nat.{ℕ, zero, suc, ◌+◌, ◌-◌, ◌*◌}
use native.Mathlib.Omega.{arith}
use mathlib.Core.Path.{◌≡◌, refl, sym, ap, ◌∙◌}
use mathlib.Core.Logic.Iff
use mathlib.Core.Logic.{◌↔◌, inl, inr, ⊎_elim}
use mathlib.Core.Bool.{true}
use mathlib.Core.List.{List, [], ◌∷◌, ◌++◌, append_assoc}
use lib.ListN.{length, get_or, replicate, length-append}
use lib.Seq.{get_or_at}
use Rattle.rules.specs.Numbers.{Number, plus, minus, whole, signed, pointed, decimal, tenths}
use Rattle.rules.specs.MeetsFields.{Digit, Digits, value_after, Figures, Whole, Minus, Tenths, Spelled, Decimal, MinusDecimal}
use Rattle.rules.proofs.Tests.{says, pick_is, yes_no}
use Rattle.rules.proofs.Numbers.{no_plus, no_minus, whole_is, signed_plus, signed_minus, then_plus, then_minus, decimal_is}

-- no point among these bytes
abbrev NoPoint : List ℕ → Type 0
NoPoint [] = Unit {0}
NoPoint (b ∷ bs) = (b ≡ 46 → ⊥) × NoPoint bs

none_at : (bs : List ℕ) → NoPoint bs → (i : ℕ) → get_or bs i 0 ≡ 46 → ⊥
none_at [] w i e = omega arith
none_at (b ∷ bs) w zero e = w.0 e
none_at (b ∷ bs) w (suc i) e = none_at bs w.1 i e

digits_none : (ds : List ℕ) → Digits ds → NoPoint ds
digits_none [] w = tt
digits_none (d ∷ ds) w = ((λ e. let l = w.0.0 in omega arith), digits_none ds w.1)

after_blanks : (j : ℕ) (ds : List ℕ) → NoPoint ds → NoPoint (replicate j 32 ++ ds)
after_blanks zero ds w = w
after_blanks (suc j) ds w = ((λ e. omega arith), after_blanks j ds w)

whole_none : (bs : List ℕ) (n : ℕ) → Whole bs n → NoPoint bs
whole_none bs n w = rw w.2 (after_blanks w.0 w.1 (digits_none w.1 w.3.1))

minus_none : (bs : List ℕ) (n : ℕ) → Minus bs n → NoPoint bs
minus_none bs n w =
    let q = w.3 in
    rw w.2 (after_blanks w.0 w.1 (rw q.1 ((λ e. omega arith), digits_none q.0 q.2.1)))

-- a point in the last column but one
pointed_is : (bs : List ℕ) → NoPoint bs → pointed bs ≡ true → ⊥
unfolding pointed
pointed_is bs w t = none_at bs w (length bs - 2) (simp says at t).1

tenths_pointed : (P : List ℕ → ℕ → Type 0) (bs : List ℕ) (n : ℕ) → Tenths P bs n → pointed bs ≡ true
unfolding pointed
tenths_pointed P bs n w =
    let l : length bs ≡ length w.0 + 2 = ap length w.3 ∙ length-append w.0 (46 ∷ w.1 ∷ []) in
    simp says (omega arith, ap (λ (cs : List ℕ). get_or cs (length bs - 2) 0) w.3 ∙ get_or_at w.0 46 (w.1 ∷ []) 0 (length bs - 2) (omega arith))

-- no columns are both
pub not_both : (bs : List ℕ) (m n : ℕ) → Whole bs m → Tenths Whole bs n → ⊥
not_both bs m n w t = pointed_is bs (whole_none bs m w) (tenths_pointed Whole bs n t)

same_tenths : {P Q : List ℕ → ℕ → Type 0} → ((ws : List ℕ) (m : ℕ) → P ws m ↔ Q ws m) → (bs : List ℕ) (n : ℕ) → Tenths P bs n ↔ Tenths Q bs n
same_tenths f bs n = (
  λ w. (w.0, w.1, w.2, w.3, (f w.0 w.2).0 w.4, w.5, w.6),
  λ w. (w.0, w.1, w.2, w.3, (f w.0 w.2).1 w.4, w.5, w.6),
)

-- digits and one digit more
value_more : (a : ℕ) (ds : List ℕ) (d : ℕ) → value_after a (ds ++ (d ∷ [])) ≡ 10 * value_after a ds + (d - 48)
value_more a [] d = refl
value_more a (c ∷ cs) d = value_more (10 * a + (c - 48)) cs d

digits_more : (ds : List ℕ) (d : ℕ) → Digits ds → Digit d → Digits (ds ++ (d ∷ []))
digits_more [] d w h = (h, tt)
digits_more (c ∷ cs) d w h = (w.0, digits_more cs d w.1 h)

some_more : (ds : List ℕ) (d : ℕ) → ds ++ (d ∷ []) ≡ [] → ⊥
some_more [] d e = let z : ◌≡◌ {A = ℕ} 0 1 = cc in omega arith
some_more (c ∷ cs) d e = let z : ◌≡◌ {A = ℕ} 0 1 = cc in omega arith

pub figures_more : (ds : List ℕ) (m d : ℕ) → Figures ds m → Digit d → Figures (ds ++ (d ∷ [])) (10 * m + (d - 48))
figures_more ds m d w h =
    (some_more ds d, digits_more ds d w.1 h, value_more 0 ds d ∙ ap (λ (n : ℕ). 10 * n + (d - 48)) w.2)

moved : (ws : List ℕ) (d j : ℕ) (ds : List ℕ) → ws ≡ replicate j 32 ++ ds → 32 ∷ (ws ++ (d ∷ [])) ≡ replicate (suc j) 32 ++ (ds ++ (d ∷ []))
moved ws d j ds e = ap (λ (l : List ℕ). 32 ∷ l) (ap (λ (l : List ℕ). l ++ (d ∷ [])) e ∙ append_assoc (replicate j 32) ds (d ∷ []))

whole_more : (ws : List ℕ) (m d : ℕ) → Whole ws m → Digit d → Whole (32 ∷ (ws ++ (d ∷ []))) (10 * m + (d - 48))
whole_more ws m d w h = (suc w.0, w.1 ++ (d ∷ []), moved ws d w.0 w.1 w.2, figures_more w.1 m d w.3 h)

minus_more : (ws : List ℕ) (m d : ℕ) → Minus ws m → Digit d → Minus (32 ∷ (ws ++ (d ∷ []))) (10 * m + (d - 48))
minus_more ws m d w h =
    let q = w.3 in (
      suc w.0,
      w.1 ++ (d ∷ []),
      moved ws d w.0 w.1 w.2,
      (q.0 ++ (d ∷ []), ap (λ (l : List ℕ). l ++ (d ∷ [])) q.1, figures_more q.0 m d q.2 h),
    )

-- what a reader takes as `make`, and P says in words
module _ (read : List ℕ → Number) (make : ℕ → Number) (P : List ℕ → ℕ → Type 0) (none : (bs : List ℕ) (n : ℕ) → P bs n → NoPoint bs)
    (more : (ws : List ℕ) (m d : ℕ) → P ws m → Digit d → P (32 ∷ (ws ++ (d ∷ []))) (10 * m + (d - 48)))
    (bare : (bs : List ℕ) (n : ℕ) → (read bs ≡ make n) ↔ P bs n) (told : (bs : List ℕ) (n : ℕ) → (decimal read bs ≡ make n) ↔ Tenths P bs n) where
  spelled_is : (bs : List ℕ) (n : ℕ) → (tenths read bs ≡ make n) ↔ Spelled P bs n
  unfolding tenths
  spelled_is bs n =
      let u = pick_is (pointed bs) (decimal read bs) (read bs) (make n) in (
        λ e. let w = u.0 e in yes_no (pointed bs) (λ t. inr ((told bs n).0 (w.0 t))) (λ t. inl ((bare bs n).0 (w.1 t))),
        λ w.
            u.1 (
              (λ t. ⊎_elim (λ p. absurd (pointed_is bs (none bs n p) t)) (λ q. (told bs n).1 q) w),
              λ t. ⊎_elim (λ p. (bare bs n).1 p) (λ q. absurd (t (tenths_pointed P bs n q))) w,
            ),
      )

  one_value : (ws : List ℕ) (m d : ℕ) → P ws m → Digit d → tenths read (ws ++ (46 ∷ d ∷ [])) ≡ tenths read (32 ∷ (ws ++ (d ∷ [])))
  one_value ws m d w h =
      let n = 10 * m + (d - 48) in
      (spelled_is (ws ++ (46 ∷ d ∷ [])) n).1 (inr (ws, d, m, refl, w, h, refl))
      ∙ sym ((spelled_is (32 ∷ (ws ++ (d ∷ []))) n).1 (inl (more ws m d w h)))

pub pointed_whole : (bs : List ℕ) (n : ℕ) → (decimal whole bs ≡ plus n) ↔ Tenths Whole bs n
pointed_whole bs n = Iff.trans (decimal_is whole plus (λ n e. no_plus e) then_plus bs n) (same_tenths whole_is bs n)

pointed_plus : (bs : List ℕ) (n : ℕ) → (decimal signed bs ≡ plus n) ↔ Tenths Whole bs n
pointed_plus bs n = Iff.trans (decimal_is signed plus (λ n e. no_plus e) then_plus bs n) (same_tenths signed_plus bs n)

pointed_minus : (bs : List ℕ) (n : ℕ) → (decimal signed bs ≡ minus n) ↔ Tenths Minus bs n
pointed_minus bs n = Iff.trans (decimal_is signed minus (λ n e. no_minus e) then_minus bs n) (same_tenths signed_minus bs n)

pub decimal_whole : (bs : List ℕ) (n : ℕ) → (tenths whole bs ≡ plus n) ↔ Decimal bs n
decimal_whole = spelled_is whole plus Whole whole_none whole_more whole_is pointed_whole

pub decimal_plus : (bs : List ℕ) (n : ℕ) → (tenths signed bs ≡ plus n) ↔ Decimal bs n
decimal_plus = spelled_is signed plus Whole whole_none whole_more signed_plus pointed_plus

pub decimal_minus : (bs : List ℕ) (n : ℕ) → (tenths signed bs ≡ minus n) ↔ MinusDecimal bs n
decimal_minus = spelled_is signed minus Minus minus_none minus_more signed_minus pointed_minus

-- ws are the columns before the point, d the digit after it
module _ (ws : List ℕ) (m d : ℕ) (h : Digit d) where
  pub one_whole : Whole ws m → tenths whole (ws ++ (46 ∷ d ∷ [])) ≡ tenths whole (32 ∷ (ws ++ (d ∷ [])))
  one_whole w = one_value whole plus Whole whole_none whole_more whole_is pointed_whole ws m d w h

  pub one_plus : Whole ws m → tenths signed (ws ++ (46 ∷ d ∷ [])) ≡ tenths signed (32 ∷ (ws ++ (d ∷ [])))
  one_plus w = one_value signed plus Whole whole_none whole_more signed_plus pointed_plus ws m d w h

  pub one_minus : Minus ws m → tenths signed (ws ++ (46 ∷ d ∷ [])) ≡ tenths signed (32 ∷ (ws ++ (d ∷ [])))
  one_minus w = one_value signed minus Minus minus_none minus_more signed_minus pointed_minus ws m d w h
