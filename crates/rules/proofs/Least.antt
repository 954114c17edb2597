-- The least place that passes: the first one, or the number of places where none passes.
use Prim.Native.Nat.{ℕ, zero, suc, ◌≤◌, ◌<◌}
use native.Mathlib.Nat.{not-suc-le-zero, lt-suc_self}
use native.Mathlib.Omega.{arith}
use mathlib.Core.Path.{◌≡◌, refl, sym, ap, ◌∙◌}
use mathlib.Core.Logic.{◌⊎◌, inl, inr, ⊎_elim}
use mathlib.Core.Bool.{Bool, true, false}
use lib.Dec.{ltb}
use borrow.Author.Tests.{lt-ltb, le-ltb}
use Rattle.rules.specs.Places.{pick, least}
use Rattle.rules.proofs.Tests.{clash, more}

abbrev pub None : ℕ → (ℕ → Bool) → Type 0
None n p = (k : ℕ) → k < n → p k ≡ true → ⊥

abbrev pub First : ℕ → (ℕ → Bool) → ℕ → Type 0
First n p k = (k < n) × (p k ≡ true) × None k p

pub least_is : (n : ℕ) (p : ℕ → Bool) → First n p (least n p) ⊎ ((least n p ≡ n) × None n p)
unfolding least pick
least_is zero p = inr (refl, λ k h. absurd (not-suc-le-zero h))
least_is (suc n) p = go (least n p) (least_is n p) (p n) refl
  where
    go : (m : ℕ) → First n p m ⊎ ((m ≡ n) × None n p) → (t : Bool) → p n ≡ t
        → First (suc n) p (pick (ltb m n) m (pick t n (suc n))) ⊎ ((pick (ltb m n) m (pick t n (suc n)) ≡ suc n) × None (suc n) p)
    go m (inl w) t e = rw (lt-ltb m n w.0) (inl (omega arith, w.1, w.2))
    go m (inr w) true e = rw (le-ltb m n (omega arith)) (inl (lt-suc_self n, e, w.1))
    go m (inr w) false e =
        rw (le-ltb m n (omega arith)) (inr (refl, λ k h t. more h (λ q. w.1 k q t) (λ q. clash (sym e ∙ ap p (sym q) ∙ t))))

pub least_first : (n k : ℕ) (p : ℕ → Bool) → First n p k → least n p ≡ k
least_first n k p f =
    ⊎_elim
    (λ w.
    let u : least n p < k → ⊥ = λ l. f.2 (least n p) l w.1 in
    let v : k < least n p → ⊥ = λ l. w.2 k l f.1 in
    omega arith)
    (λ w. absurd (w.1 k f.0 f.1)) (least_is n p)

pub least_none : (n : ℕ) (p : ℕ → Bool) → None n p → least n p ≡ n
least_none n p f = ⊎_elim (λ w. absurd (f (least n p) w.0 w.1)) (λ w. w.0) (least_is n p)

pub least_there : (n k : ℕ) (p : ℕ → Bool) → k < n → p k ≡ true → First n p (least n p)
least_there n k p h t = ⊎_elim (λ w. w) (λ w. absurd (w.1 k h t)) (least_is n p)

pub least_below : (n : ℕ) (p : ℕ → Bool) → least n p ≤ n
least_below n p = ⊎_elim (λ w. let h = w.0 in omega arith) (λ w. let h = w.0 in omega arith) (least_is n p)
