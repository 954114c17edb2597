-- What it is for a test to fail: the laws by which the contrary of a rule is read in words.
--   fails   = those laws, for `simp`
use Prim.Native.Nat.{ℕ, zero, suc, ◌≤◌, ◌<◌}
use native.Mathlib.Nat.{lt-suc_self}
use native.Mathlib.Omega.{arith}
use mathlib.Core.Path.{◌≡◌, refl, sym, ap, ◌∙◌}
use mathlib.Core.Logic.{◌↔◌, ◌⊎◌, inl, inr, ⊎_elim}
use mathlib.Core.Bool.{Bool, true, false, not, ◌&&◌, ◌||◌}
use lib.Dec.{leb, ltb}
use borrow.Author.Tests.{ltb-true, lt-ltb, leb-true, le-leb}
use Rattle.rules.specs.Places.{pick, every, some, if_before, is_before, of_last}
use Rattle.rules.proofs.Tests.{clash, more, yes_no, and_is, pick_is, every_is, some_is, if_before_is, is_before_is, of_last_is}

pub contrary {ℓ m} : {A : Type ℓ} {B : Type m} → A ↔ B → (A → ⊥) ↔ (B → ⊥)
contrary e = (λ f b. f (e.1 b), λ g a. g (e.0 a))

pub not_and : (a b : Bool) → (a && b ≡ true → ⊥) ↔ ((a ≡ true → ⊥) ⊎ (b ≡ true → ⊥))
not_and true b = (λ f. inr f, λ w e. ⊎_elim (λ f. f refl) (λ f. f e) w)
not_and false b = (λ f. inl f, λ w e. clash e)

pub not_imp : (a b : Bool) → (not a || b ≡ true → ⊥) ↔ ((a ≡ true) × (b ≡ true → ⊥))
not_imp true b = (λ f. (refl, f), λ w. w.1)
not_imp false b = (λ f. absurd (f refl), λ w. clash w.0)

pub not_not : (a : Bool) → (not a ≡ true → ⊥) ↔ (a ≡ true)
not_not true = (λ f. refl, λ e g. clash g)
not_not false = (λ f. absurd (f refl), λ e. clash e)

pub not_pick : (t a b : Bool) → (pick t a b ≡ true → ⊥) ↔ (((t ≡ true) × (a ≡ true → ⊥)) ⊎ ((t ≡ true → ⊥) × (b ≡ true → ⊥)))
unfolding pick
not_pick true a b = (λ f. inl (refl, f), λ w. ⊎_elim (λ u. u.1) (λ u. absurd (u.0 refl)) w)
not_pick false a b = (λ f. inr ((λ e. clash e), f), λ w. ⊎_elim (λ u. clash u.0) (λ u. u.1) w)

pub not_leb : (a b : ℕ) → (leb a b ≡ true → ⊥) ↔ (b < a)
not_leb a b = (λ f. let g : a ≤ b → ⊥ = λ l. f (le-leb a b l) in omega arith, λ l e. let m = leb-true a b e in omega arith)

pub not_ltb : (a b : ℕ) → (ltb a b ≡ true → ⊥) ↔ (b ≤ a)
not_ltb a b = (λ f. let g : a < b → ⊥ = λ l. f (lt-ltb a b l) in omega arith, λ l e. let m = ltb-true a b e in omega arith)

pub not_every : (n : ℕ) (p : ℕ → Bool) → (every n p ≡ true → ⊥) ↔ ((k : ℕ) × (k < n) × (p k ≡ true → ⊥))
unfolding every
not_every n p = (λ f. find n f, λ w e. w.2 ((every_is n p).0 e w.0 w.1))
  where
    find : (m : ℕ) → (every m p ≡ true → ⊥) → (k : ℕ) × (k < m) × (p k ≡ true → ⊥)
    find zero f = absurd (f refl)
    find (suc m) f =
        yes_no (every m p) (λ t. (m, lt-suc_self m, λ u. f ((and_is _ _).1 (t, u))))
        (λ t. let w = find m t in (w.0, omega arith, w.2))

pub not_some : (n : ℕ) (p : ℕ → Bool) → (some n p ≡ true → ⊥) ↔ ((k : ℕ) → k < n → p k ≡ true → ⊥)
not_some n p = (
  λ f k h t. f ((some_is n p).1 (k, h, t)),
  λ g e. let w = (some_is n p).0 e in g w.0 w.1 w.2,
)

pub not_if_before : (p : ℕ → Bool) (k : ℕ) → (if_before p k ≡ true → ⊥) ↔ ((j : ℕ) × (suc j ≡ k) × (p j ≡ true → ⊥))
unfolding if_before
not_if_before p k = (λ f. find k f, λ w e. w.2 ((if_before_is p k).0 e w.0 w.1))
  where
    find : (k : ℕ) → (if_before p k ≡ true → ⊥) → (j : ℕ) × (suc j ≡ k) × (p j ≡ true → ⊥)
    find zero f = absurd (f refl)
    find (suc k) f = (k, refl, f)

pub not_is_before : (p : ℕ → Bool) (k : ℕ) → (is_before p k ≡ true → ⊥) ↔ ((j : ℕ) → suc j ≡ k → p j ≡ true → ⊥)
not_is_before p k = (
  λ f j e t. f ((is_before_is p k).1 (j, e, t)),
  λ g e. let w = (is_before_is p k).0 e in g w.0 w.1 w.2,
)

pub not_of_last : (here p : ℕ → Bool) (k : ℕ)
    → (of_last here p k ≡ true → ⊥)
    ↔ ((j : ℕ) × (j < k) × (here j ≡ true) × ((m : ℕ) → j < m → m < k → here m ≡ true → ⊥) × (p j ≡ true → ⊥))
unfolding of_last
not_of_last here p k = (λ f. find k f, λ w e. w.4 ((of_last_is here p k).0 e w.0 w.1 w.2 w.3))
  where
    find : (k : ℕ) → (of_last here p k ≡ true → ⊥)
        → (j : ℕ) × (j < k) × (here j ≡ true) × ((m : ℕ) → j < m → m < k → here m ≡ true → ⊥) × (p j ≡ true → ⊥)
    find zero f = absurd (f refl)
    find (suc k) f =
        let b = pick_is (here k) (p k) (of_last here p k) true in
        yes_no (here k)
        (λ t. (k, lt-suc_self k, t, (λ m u v. absurd (omega arith)), λ e. f (b.1 ((λ _. e), λ n. absurd (n t)))))
        (λ t.
        let w = find k (λ e. f (b.1 ((λ u. absurd (t u)), λ _. e))) in
        (w.0, omega arith, w.2, (λ m u v z. more v (λ q. w.3 m u q z) (λ q. t (ap here (sym q) ∙ z))), w.4))

pub ruleset fails =
    (not_imp, not_not, not_ltb, not_leb, not_every, not_some, not_if_before, not_is_before, not_of_last)
