-- The readers of numbers say what `MeetsFields` has in words: which bytes are a number, and its value.
use Prim.Native.Nat.{ℕ, zero, suc, ◌+◌, ◌-◌, ◌*◌, ◌≤◌}
use native.Mathlib.Omega.{arith}
use mathlib.Core.Path.{◌≡◌, refl, sym, ap, ◌∙◌, subst}
use mathlib.Core.Logic.Iff
use mathlib.Core.Logic.{◌↔◌}
use mathlib.Core.Bool.{true, ◌&&◌}
use mathlib.Core.List.{List, [], ◌∷◌, ◌++◌, append_assoc}
use lib.Dec.{eqb, leb}
use lib.ListN.{length, get_or, take, replicate, length-append}
use lib.Seq.{take-suc, take_all, take_at, get_or_at}
use borrow.Author.Tests.{eqb-true, eq-eqb}
use Rattle.rules.specs.Numbers.{digit, Number, malformed, plus, minus, digits_after, digits, justified, whole, negative, minus_or}
use Rattle.rules.specs.Numbers.{signed, then, pointed, decimal}
use Rattle.rules.specs.MeetsFields.{Digit, Digits, value_after, Figures, Justified, Whole, Minus, Tenths}
use Rattle.rules.proofs.Tests.{says, pick_is, yes_no}

pub no_plus {ℓ} : {A : Type ℓ} {n : ℕ} → malformed ≡ plus n → A
no_plus e = absurd (let z : ◌≡◌ {A = ℕ} 0 1 = cc in omega arith)

pub no_minus {ℓ} : {A : Type ℓ} {n : ℕ} → malformed ≡ minus n → A
no_minus e = absurd (let z : ◌≡◌ {A = ℕ} 0 1 = cc in omega arith)

no_both {ℓ} : {A : Type ℓ} {m n : ℕ} → plus m ≡ minus n → A
no_both e = absurd (let z : ◌≡◌ {A = ℕ} 0 1 = cc in omega arith)

pub digit_is : (b : ℕ) → (digit b ≡ true) ↔ Digit b
unfolding digit
digit_is b = simp says Iff.rfl

digits_after_is : (bs : List ℕ) (a n : ℕ) → (digits_after a bs ≡ plus n) ↔ (Digits bs × (value_after a bs ≡ n))
unfolding digits_after
digits_after_is [] a n = (λ e. (tt, (cc)), λ w. let f = w.1 in cc)
digits_after_is (b ∷ bs) a n =
    let u = pick_is (digit b) (digits_after (10 * a + (b - 48)) bs) malformed (plus n) in
    let d = digit_is b in
    let ih = digits_after_is bs (10 * a + (b - 48)) n in (
      λ e. let w = u.0 e in yes_no (digit b) (λ t. let v = ih.0 (w.0 t) in ((d.0 t, v.0), v.1)) (λ t. no_plus (w.1 t)),
      λ w. u.1 ((λ t. ih.1 (w.0.1, w.1)), λ t. absurd (t (d.1 w.0.0))),
    )

pub digits_are : (bs : List ℕ) (n : ℕ) → (digits bs ≡ plus n) ↔ Figures bs n
unfolding digits
digits_are [] n = (λ e. no_plus e, λ w. absurd (w.0 refl))
digits_are (b ∷ bs) n =
    let u = digits_after_is (b ∷ bs) 0 n in
    (λ e. let w = u.0 e in ((λ z. let y : ◌≡◌ {A = ℕ} 0 1 = cc in omega arith), w.0, w.1), λ w. u.1 (w.1, w.2))

-- digits have no sign
digits_after_plus : (bs : List ℕ) (a n : ℕ) → digits_after a bs ≡ minus n → ⊥
unfolding digits_after
digits_after_plus [] a n e = no_both e
digits_after_plus (b ∷ bs) a n e =
    let u = (pick_is (digit b) (digits_after (10 * a + (b - 48)) bs) malformed (minus n)).0 e in
    yes_no (digit b) (λ t. digits_after_plus bs _ n (u.0 t)) (λ t. no_minus (u.1 t))

digits_plus : (bs : List ℕ) (n : ℕ) → digits bs ≡ minus n → ⊥
unfolding digits
digits_plus [] n e = no_minus e
digits_plus (b ∷ bs) n e = digits_after_plus (b ∷ bs) 0 n e

module _ (read : List ℕ → Number) (v : Number) (some : malformed ≡ v → ⊥) (empty : read [] ≡ v → ⊥)
    (blank : (bs : List ℕ) → read (32 ∷ bs) ≡ v → ⊥) where
  front : (b : ℕ) (bs : List ℕ) → (Justified (λ ds. read ds ≡ v) bs → justified read bs ≡ v) → (j : ℕ) (ds : List ℕ)
      → b ∷ bs ≡ replicate j 32 ++ ds → read ds ≡ v
      → (eqb b 32 ≡ true → justified read bs ≡ v) × ((eqb b 32 ≡ true → ⊥) → read (b ∷ bs) ≡ v)
  front b bs f zero ds e g =
      ((λ t. let z = eqb-true b 32 t in absurd (blank bs (ap (λ (c : ℕ). read (c ∷ bs)) (sym z) ∙ ap read e ∙ g))), λ t. ap read e ∙ g)
  front b bs f (suc j) ds e g =
      let p : b ≡ 32 = cc in
      let q : bs ≡ replicate j 32 ++ ds = cc in
      ((λ t. f (j, ds, q, g)), λ t. absurd (t (eq-eqb b 32 p)))

  nothing : (j : ℕ) (ds : List ℕ) → [] ≡ replicate j 32 ++ ds → read ds ≡ v → ⊥
  nothing zero ds e g = empty (ap read e ∙ g)
  nothing (suc j) ds e g = let z : ◌≡◌ {A = ℕ} 0 1 = cc in omega arith

  pub justified_is : (bs : List ℕ) → (justified read bs ≡ v) ↔ Justified (λ ds. read ds ≡ v) bs
  unfolding justified
  justified_is [] = (λ e. absurd (some e), λ w. absurd (nothing w.0 w.1 w.2 w.3))
  justified_is (b ∷ bs) =
      let u = pick_is (eqb b 32) (justified read bs) (read (b ∷ bs)) v in (
        λ e.
            let w = u.0 e in
            yes_no (eqb b 32)
            (λ t.
            let y = (justified_is bs).0 (w.0 t) in
            let q = eqb-true b 32 t in
            let p = y.2 in
            (suc y.0, y.1, (cc), y.3))
            (λ t. (0, b ∷ bs, refl, w.1 t)),
        λ w. u.1 (front b bs (justified_is bs).1 w.0 w.1 w.2 w.3),
      )

-- what a blank cannot begin
blank_digits : (bs : List ℕ) (n : ℕ) → digits (32 ∷ bs) ≡ plus n → ⊥
blank_digits bs n e = let w = ((digits_are (32 ∷ bs) n).0 e).1.0.0 in omega arith

justify : {P Q : List ℕ → Type 0} → ((ds : List ℕ) → P ds ↔ Q ds) → (bs : List ℕ) → Justified P bs ↔ Justified Q bs
justify f bs = (λ w. (w.0, w.1, w.2, (f w.1).0 w.3), λ w. (w.0, w.1, w.2, (f w.1).1 w.3))

pub whole_is : (bs : List ℕ) (n : ℕ) → (whole bs ≡ plus n) ↔ Whole bs n
unfolding whole digits
whole_is bs n =
    Iff.trans (justified_is digits (plus n) (λ e. no_plus e) (λ e. no_plus e) (λ bs e. blank_digits bs n e) bs)
    (justify (λ ds. digits_are ds n) bs)

pub whole_plus : (bs : List ℕ) (n : ℕ) → whole bs ≡ minus n → ⊥
unfolding whole
whole_plus bs n e =
    let w = (justified_is digits (minus n) (λ e. no_minus e) (digits_plus [] n) (λ bs e. digits_plus (32 ∷ bs) n e) bs).0 e in
    digits_plus w.1 n w.3

negative_plus : (v : Number) (n : ℕ) → negative v ≡ plus n → ⊥
unfolding negative
negative_plus malformed n e = no_plus e
negative_plus (plus m) n e = no_both (sym e)
negative_plus (minus m) n e = no_plus e

negative_is : (v : Number) (n : ℕ) → (negative v ≡ minus n) ↔ (v ≡ plus n)
unfolding negative
negative_is malformed n = (λ e. no_minus e, λ e. no_plus e)
negative_is (plus m) n = (λ e. (let q : m ≡ n = cc in ap plus q), λ e. (let q : m ≡ n = cc in ap minus q))
negative_is (minus m) n = (λ e. no_minus e, λ e. no_both (sym e))

-- digits, or a minus and digits
minus_or_plus : (bs : List ℕ) (n : ℕ) → (minus_or bs ≡ plus n) ↔ Figures bs n
unfolding minus_or
minus_or_plus [] n = (λ e. no_plus e, λ w. absurd (w.0 refl))
minus_or_plus (b ∷ bs) n =
    let u = pick_is (eqb b 45) (negative (digits bs)) (digits (b ∷ bs)) (plus n) in (
      λ e. yes_no (eqb b 45) (λ t. absurd (negative_plus _ n ((u.0 e).0 t))) (λ t. (digits_are (b ∷ bs) n).0 ((u.0 e).1 t)),
      λ w. u.1 ((λ t. absurd (let z = eqb-true b 45 t in let y = w.1.0.0 in omega arith)), λ t. (digits_are (b ∷ bs) n).1 w),
    )

minus_digits : (es : List ℕ) (n : ℕ) → (negative (digits es) ≡ minus n) ↔ Figures es n
minus_digits es n = Iff.trans (negative_is (digits es) n) (digits_are es n)

minus_or_minus : (bs : List ℕ) (n : ℕ) → (minus_or bs ≡ minus n) ↔ ((es : List ℕ) × (bs ≡ 45 ∷ es) × Figures es n)
unfolding minus_or
minus_or_minus [] n = (λ e. no_minus e, λ w. let p = w.1 in let z : ◌≡◌ {A = ℕ} 0 1 = cc in absurd (omega arith))
minus_or_minus (b ∷ bs) n =
    let u = pick_is (eqb b 45) (negative (digits bs)) (digits (b ∷ bs)) (minus n) in (
      λ e.
          yes_no (eqb b 45) (λ t. (bs, ap (λ (c : ℕ). c ∷ bs) (eqb-true b 45 t), (minus_digits bs n).0 ((u.0 e).0 t)))
          (λ t. absurd (digits_plus (b ∷ bs) n ((u.0 e).1 t))),
      λ w.
          let p = w.1 in
          let q : bs ≡ w.0 = cc in
          let r : b ≡ 45 = cc in
          u.1 ((λ t. (minus_digits bs n).1 (subst (λ (es : List ℕ). Figures es n) (sym q) w.2)), λ t. absurd (t (eq-eqb b 45 r))),
    )

pub signed_plus : (bs : List ℕ) (n : ℕ) → (signed bs ≡ plus n) ↔ Whole bs n
unfolding signed minus_or
signed_plus bs n =
    Iff.trans
    (justified_is minus_or (plus n) (λ e. no_plus e) (λ e. no_plus e)
    (λ bs e. let w = ((minus_or_plus (32 ∷ bs) n).0 e).1.0.0 in omega arith) bs)
    (justify (λ ds. minus_or_plus ds n) bs)

pub signed_minus : (bs : List ℕ) (n : ℕ) → (signed bs ≡ minus n) ↔ Minus bs n
unfolding signed minus_or
signed_minus bs n =
    Iff.trans
    (justified_is minus_or (minus n) (λ e. no_minus e) (λ e. no_minus e)
    (λ bs e. let w = (minus_or_minus (32 ∷ bs) n).0 e in let p = w.1 in let z : ◌≡◌ {A = ℕ} 32 45 = cc in omega arith) bs)
    (justify (λ ds. minus_or_minus ds n) bs)

-- the last two columns apart
apart : (bs : List ℕ) → 2 ≤ length bs
    → bs ≡ take (length bs - 2) bs ++ (get_or bs (length bs - 2) 0 ∷ get_or bs (length bs - 1) 0 ∷ [])
apart bs h =
    let w = length bs in
    let a : suc (suc (w - 2)) ≡ w = omega arith in
    let b : suc (w - 2) ≡ w - 1 = omega arith in
    sym (take_all w bs (omega arith)) ∙ ap (λ (n : ℕ). take n bs) (sym a) ∙ take-suc bs (suc (w - 2)) 0 (omega arith)
    ∙ ap (λ (l : List ℕ). l ++ (get_or bs (suc (w - 2)) 0 ∷ [])) (take-suc bs (w - 2) 0 (omega arith))
    ∙ append_assoc (take (w - 2) bs) (get_or bs (w - 2) 0 ∷ []) (get_or bs (suc (w - 2)) 0 ∷ [])
    ∙ ap (λ (n : ℕ). take (w - 2) bs ++ (get_or bs (w - 2) 0 ∷ get_or bs n 0 ∷ [])) b

pub then_plus : (v : Number) (d n : ℕ) → (then v d ≡ plus n) ↔ ((m : ℕ) × (v ≡ plus m) × (10 * m + d ≡ n))
unfolding then
then_plus malformed d n = (λ e. no_plus e, λ w. no_plus w.1)
then_plus (plus m) d n = (λ e. (m, refl, (cc)), λ w. let p = w.1 in let q = w.2 in cc)
then_plus (minus m) d n = (λ e. no_both (sym e), λ w. no_both (sym w.1))

pub then_minus : (v : Number) (d n : ℕ) → (then v d ≡ minus n) ↔ ((m : ℕ) × (v ≡ minus m) × (10 * m + d ≡ n))
unfolding then
then_minus malformed d n = (λ e. no_minus e, λ w. no_minus w.1)
then_minus (plus m) d n = (λ e. no_both e, λ w. no_both w.1)
then_minus (minus m) d n = (λ e. (m, refl, (cc)), λ w. let p = w.1 in let q = w.2 in cc)

-- either sign at once: `make` is plus or minus
module _ (read : List ℕ → Number) (make : ℕ → Number) (some : (n : ℕ) → malformed ≡ make n → ⊥)
    (more : (v : Number) (d n : ℕ) → (then v d ≡ make n) ↔ ((m : ℕ) × (v ≡ make m) × (10 * m + d ≡ n))) where
  joined : (ws : List ℕ) (d m n : ℕ) → read ws ≡ make m → Digit d → 10 * m + (d - 48) ≡ n
      → decimal read (ws ++ (46 ∷ d ∷ [])) ≡ make n
  unfolding decimal pointed
  joined ws d m n r h e =
      let bs = ws ++ (46 ∷ d ∷ []) in
      let l : length bs ≡ length ws + 2 = length-append ws (46 ∷ d ∷ []) in
      let a : take (length bs - 2) bs ≡ ws = take_at ws (46 ∷ d ∷ []) (length bs - 2) (omega arith) in
      let b : get_or bs (length bs - 2) 0 ≡ 46 = get_or_at ws 46 (d ∷ []) 0 (length bs - 2) (omega arith) in
      let s : ws ++ (46 ∷ d ∷ []) ≡ (ws ++ (46 ∷ [])) ++ (d ∷ []) = sym (append_assoc ws (46 ∷ []) (d ∷ [])) in
      let k : length (ws ++ (46 ∷ [])) ≡ length bs - 1 = length-append ws (46 ∷ []) ∙ (let z : length ws + 1 ≡ length bs - 1 = omega arith in z) in
      let c : get_or bs (length bs - 1) 0 ≡ d =
      ap (λ (l : List ℕ). get_or l (length bs - 1) 0) s ∙ get_or_at (ws ++ (46 ∷ [])) d [] 0 (length bs - 1) k in
      (pick_is _ _ _ _).1 (
        (λ t. (more _ _ n).1 (m, ap read a ∙ r, ap (λ (x : ℕ). 10 * m + (x - 48)) c ∙ e)),
        λ t. absurd (t (simp says ((omega arith, b), rw c ((digit_is d).1 h)))),
      )

  pub decimal_is : (bs : List ℕ) (n : ℕ) → (decimal read bs ≡ make n) ↔ Tenths (λ ws m. read ws ≡ make m) bs n
  unfolding decimal pointed
  decimal_is bs n =
      let w = length bs in
      let d = get_or bs (w - 1) 0 in
      let u = pick_is (leb 2 w && eqb (get_or bs (w - 2) 0) 46 && digit d) (then (read (take (w - 2) bs)) (d - 48)) malformed (make n) in (
        λ e.
            yes_no _
            (λ t.
            let h = simp says at t in
            let v = (more _ _ n).0 ((u.0 e).0 t) in (
              take (w - 2) bs,
              d,
              v.0,
              apart bs h.0.0 ∙ ap (λ (p : ℕ). take (w - 2) bs ++ (p ∷ d ∷ [])) h.0.1,
              v.1,
              (digit_is d).0 h.1,
              v.2,
            ))
            (λ t. absurd (some n ((u.0 e).1 t))),
        λ t. ap (decimal read) t.3 ∙ joined t.0 t.1 t.2 n t.4 t.5 t.6,
      )
