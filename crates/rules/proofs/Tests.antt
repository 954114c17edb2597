-- What each test says: the laws by which a rule's computed test is read as the paper's statement.
--   says   = those laws, for `simp`
--   agree  = two tests are one where each passes with the other
--   more   = a place below n + 1 is below n, or n
use Prim.Native.Nat.{ℕ, zero, suc, ◌≤◌, ◌<◌}
use native.Mathlib.Nat.{not-suc-le-zero, eq-or-lt_of_le, le_of_suc-le-suc, lt-suc_self}
use native.Mathlib.Omega.{arith}
use mathlib.Core.Path.{◌≡◌, refl, sym, ap, ◌∙◌}
use mathlib.Core.Logic.{◌↔◌, ◌⊎◌, inl, inr, ⊎_elim}
use mathlib.Core.Bool.{Bool, true, false, not, ◌&&◌, ◌||◌}
use mathlib.Core.List.{List, [], ◌∷◌}
use lib.Dec.{eqb, leb, ltb}
use borrow.Author.Tests.{ltb-true, lt-ltb, leb-true, le-leb, eqb-true, eq-eqb}
use Rattle.rules.specs.Places.{pick, every, some, if_before, is_before, of_last}
use Rattle.rules.specs.Text.{same}
use Rattle.rules.specs.Names.{Name, text, same_name}

pub clash {ℓ} : {A : Type ℓ} → false ≡ true → A
clash e = absurd (let z : ◌≡◌ {A = ℕ} 0 1 = cc in omega arith)

pub agree : (s t : Bool) → (s ≡ true → t ≡ true) → (t ≡ true → s ≡ true) → s ≡ t
agree true t f g = sym (f refl)
agree false true f g = g refl
agree false false f g = refl

pub and_is : (a b : Bool) → (a && b ≡ true) ↔ ((a ≡ true) × (b ≡ true))
and_is true b = (λ e. (refl, e), λ h. h.1)
and_is false b = (λ e. clash e, λ h. h.0)

pub or_is : (a b : Bool) → (a || b ≡ true) ↔ ((a ≡ true) ⊎ (b ≡ true))
or_is true b = (λ e. inl refl, λ h. refl)
or_is false b = (λ e. inr e, ⊎_elim (λ e. clash e) (λ e. e))

pub not_is : (a : Bool) → (not a ≡ true) ↔ (a ≡ true → ⊥)
not_is true = (λ e h. clash e, λ h. absurd (h refl))
not_is false = (λ e h. clash h, λ h. refl)

pub imp_is : (a b : Bool) → (not a || b ≡ true) ↔ (a ≡ true → b ≡ true)
imp_is true b = (λ e h. e, λ f. f refl)
imp_is false b = (λ e h. clash h, λ f. refl)

pub pick_is {ℓ} : {A : Type ℓ} (t : Bool) (a b c : A) → (pick t a b ≡ c) ↔ ((t ≡ true → a ≡ c) × ((t ≡ true → ⊥) → b ≡ c))
unfolding pick
pick_is true a b c = (λ e. (λ _. e, λ h. absurd (h refl)), λ h. h.0 refl)
pick_is false a b c = (λ e. (λ h. clash h, λ _. e), λ h. h.1 (λ e. clash e))

pub leb_is : (a b : ℕ) → (leb a b ≡ true) ↔ (a ≤ b)
leb_is a b = (leb-true a b, le-leb a b)

pub ltb_is : (a b : ℕ) → (ltb a b ≡ true) ↔ (a < b)
ltb_is a b = (ltb-true a b, lt-ltb a b)

pub eqb_is : (a b : ℕ) → (eqb a b ≡ true) ↔ (a ≡ b)
eqb_is a b = (eqb-true a b, eq-eqb a b)

pub same_is : (xs ys : List ℕ) → (same xs ys ≡ true) ↔ (xs ≡ ys)
unfolding same
same_is [] [] = (λ e. refl, λ e. refl)
same_is [] (y ∷ ys) = (λ e. clash e, λ e. let z : ◌≡◌ {A = ℕ} 0 1 = cc in absurd (omega arith))
same_is (x ∷ xs) [] = (λ e. clash e, λ e. let z : ◌≡◌ {A = ℕ} 0 1 = cc in absurd (omega arith))
same_is (x ∷ xs) (y ∷ ys) =
    let b = and_is (eqb x y) (same xs ys) in (
      λ e.
          let p : x ≡ y = eqb-true x y (b.0 e).0 in
          let q : xs ≡ ys = (same_is xs ys).0 (b.0 e).1 in
          cc,
      λ e.
          let p : x ≡ y = cc in
          let q : xs ≡ ys = cc in
          b.1 (eq-eqb x y p, (same_is xs ys).1 q),
    )

pub same_name_is : (a b : Name) → (same_name a b ≡ true) ↔ (a ≡ b)
unfolding same_name
same_name_is (text a) (text b) =
    (λ e. ap text ((same_is a b).0 e), λ e. (same_is a b).1 (let q : a ≡ b = cc in q))

pub yes_no {ℓ} : {A : Type ℓ} (t : Bool) → (t ≡ true → A) → ((t ≡ true → ⊥) → A) → A
yes_no true f g = f refl
yes_no false f g = g (λ e. clash e)

pub more {ℓ} : {A : Type ℓ} {m n : ℕ} → m < suc n → (m < n → A) → (m ≡ n → A) → A
more h f g = ⊎_elim g f (eq-or-lt_of_le (le_of_suc-le-suc h))

pub every_is : (n : ℕ) (p : ℕ → Bool) → (every n p ≡ true) ↔ ((k : ℕ) → k < n → p k ≡ true)
unfolding every
every_is zero p = (λ e k h. absurd (not-suc-le-zero h), λ h. refl)
every_is (suc n) p = (
  λ e k h.
      let b = (and_is (every n p) (p n)).0 e in
      more h ((every_is n p).0 b.0 k) (λ q. ap p q ∙ b.1),
  λ h. (and_is (every n p) (p n)).1 ((every_is n p).1 (λ k q. h k (omega arith)), h n (lt-suc_self n)),
)

pub some_is : (n : ℕ) (p : ℕ → Bool) → (some n p ≡ true) ↔ ((k : ℕ) × (k < n) × (p k ≡ true))
unfolding some
some_is zero p = (λ e. clash e, λ w. absurd (not-suc-le-zero w.1))
some_is (suc n) p = (
  λ e.
      ⊎_elim (λ t. let w = (some_is n p).0 t in (w.0, omega arith, w.2)) (λ t. (n, lt-suc_self n, t))
      ((or_is (some n p) (p n)).0 e),
  λ w.
      (or_is (some n p) (p n)).1
      (more w.1 (λ q. inl ((some_is n p).1 (w.0, q, w.2))) (λ q. inr (ap p (sym q) ∙ w.2))),
)

-- the place just before
pub if_before_is : (p : ℕ → Bool) (k : ℕ) → (if_before p k ≡ true) ↔ ((j : ℕ) → suc j ≡ k → p j ≡ true)
unfolding if_before
if_before_is p zero = (λ f j e. absurd (omega arith), λ f. refl)
if_before_is p (suc k) = (λ f j e. ap p (let z : j ≡ k = omega arith in z) ∙ f, λ f. f k refl)

pub is_before_is : (p : ℕ → Bool) (k : ℕ) → (is_before p k ≡ true) ↔ ((j : ℕ) × (suc j ≡ k) × (p j ≡ true))
unfolding is_before
is_before_is p zero = (λ e. clash e, λ w. absurd (let e = w.1 in omega arith))
is_before_is p (suc k) = (λ e. (k, refl, e), λ w. let e = w.1 in ap p (let z : k ≡ w.0 = omega arith in z) ∙ w.2)

-- the last place before k that is here: one with none between
pub of_last_is : (here p : ℕ → Bool) (k : ℕ)
    → (of_last here p k ≡ true)
    ↔ ((j : ℕ) → j < k → here j ≡ true → ((m : ℕ) → j < m → m < k → here m ≡ true → ⊥) → p j ≡ true)
unfolding of_last
of_last_is here p zero = (λ e j h. absurd (not-suc-le-zero h), λ g. refl)
of_last_is here p (suc k) =
    let b = pick_is (here k) (p k) (of_last here p k) true in
    let ih = of_last_is here p k in (
      λ e j h t n.
          more h (λ q. ih.0 ((b.0 e).1 (n k q (lt-suc_self k))) j q t (λ m u v. n m u (omega arith)))
          (λ q. ap p q ∙ (b.0 e).0 (ap here (sym q) ∙ t)),
      λ g.
          b.1 (
            λ t. g k (lt-suc_self k) t (λ m u v. absurd (omega arith)),
            λ t. ih.1 (λ j h u n. g j (omega arith) u (λ m v w. more w (n m v) (λ q z. t (ap here (sym q) ∙ z)))),
          ),
    )

pub ruleset says =
    (and_is, imp_is, not_is, pick_is, leb_is, ltb_is, eqb_is, same_is, same_name_is, every_is, some_is, if_before_is, is_before_is, of_last_is)
