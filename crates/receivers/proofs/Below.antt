-- One key below another, whatever their numbers are.
--   Below a b    = by the first number that differs
--   below_is     = what `less_or` says of it
--   below_join   = a key below one that is below a third
--   below_same   = and below one that is the same as a third; below_self = no key is below one that is the same
use Prim.Native.Nat.{ℕ, ◌<◌}
use native.Mathlib.Omega.{arith}
use mathlib.Core.Path.{◌≡◌, ◌∙◌}
use mathlib.Core.Logic.{◌↔◌, ◌⊎◌, inl, inr, ⊎_elim}
use mathlib.Core.Bool.{Bool, true, false, ◌&&◌, ◌||◌}
use lib.Dec.{eqb, ltb}
use borrow.Author.Tests.{eqb-true, eq-eqb, ltb-true, lt-ltb}
use Rattle.rules.proofs.Tests.{clash, and_is, or_is}
use Rattle.keys.specs.declared.Key.{Key}
use Rattle.keys.specs.Compare.{same_key, less_or}

-- by x and y; where they are the same, by what is left
abbrev Lex : ℕ → ℕ → Type 0 → Type 0
Lex x y P = (x < y) ⊎ ((x ≡ y) × P)

lex_is : (x y : ℕ) (t : Bool) (P : Type 0) → (t ≡ true) ↔ P → (ltb x y || (eqb x y && t) ≡ true) ↔ Lex x y P
lex_is x y t P e = (
  λ h.
      ⊎_elim (λ u. inl (ltb-true x y u)) (λ u. let w = (and_is (eqb x y) t).0 u in inr (eqb-true x y w.0, e.0 w.1))
      ((or_is (ltb x y) (eqb x y && t)).0 h),
  λ h.
      (or_is (ltb x y) (eqb x y && t)).1
      (⊎_elim (λ u. inl (lt-ltb x y u)) (λ u. inr ((and_is (eqb x y) t).1 (eq-eqb x y u.0, e.1 u.1))) h),
)

lex_join : (x y z : ℕ) (P Q R : Type 0) → (P → Q → R) → Lex x y P → Lex y z Q → Lex x z R
lex_join x y z P Q R f (inl l) (inl m) = inl (omega arith)
lex_join x y z P Q R f (inl l) (inr m) = let e = m.0 in inl (omega arith)
lex_join x y z P Q R f (inr l) (inl m) = let e = l.0 in inl (omega arith)
lex_join x y z P Q R f (inr l) (inr m) = inr (l.0 ∙ m.0, f l.1 m.1)

lex_same : (x y z : ℕ) (P Q : Type 0) → (P → Q) → y ≡ z → Lex x y P → Lex x z Q
lex_same x y z P Q f e (inl l) = inl (omega arith)
lex_same x y z P Q f e (inr l) = inr (l.0 ∙ e, f l.1)

lex_self : (x y : ℕ) (P : Type 0) → (P → ⊥) → x ≡ y → Lex x y P → ⊥
lex_self x y P f e (inl l) = omega arith
lex_self x y P f e (inr l) = f l.1

abbrev pub Below : Key → Key → Type 0
Below a b = Lex a.first b.first (Lex a.second b.second (Lex a.third b.third ⊥))

pub below_is : (a b : Key) → (less_or a b false ≡ true) ↔ Below a b
unfolding less_or
below_is a b = lex_is _ _ _ _ (lex_is _ _ _ _ (lex_is _ _ _ _ (λ e. clash e, λ e. absurd e)))

pub below_join : (a b c : Key) → Below a b → Below b c → Below a c
below_join a b c = lex_join _ _ _ _ _ _ (lex_join _ _ _ _ _ _ (lex_join _ _ _ _ _ _ (λ p q. p)))

same_parts : (a b : Key) → same_key a b ≡ true → (a.first ≡ b.first) × ((a.second ≡ b.second) × (a.third ≡ b.third))
unfolding same_key
same_parts a b t =
    let p = (and_is (eqb a.first b.first) (eqb a.second b.second && eqb a.third b.third)).0 t in
    let q = (and_is (eqb a.second b.second) (eqb a.third b.third)).0 p.1 in
    (eqb-true _ _ p.0, (eqb-true _ _ q.0, eqb-true _ _ q.1))

pub below_same : (a b c : Key) → same_key b c ≡ true → Below a b → Below a c
below_same a b c t =
    let p = same_parts b c t in
    lex_same _ _ _ _ _ (lex_same _ _ _ _ _ (lex_same _ _ _ _ _ (λ e. e) p.1.1) p.1.0) p.0

pub below_self : (a b : Key) → same_key a b ≡ true → Below a b → ⊥
below_self a b t =
    let p = same_parts a b t in
    lex_self _ _ _ (lex_self _ _ _ (lex_self _ _ _ (λ e. e) p.1.1) p.1.0) p.0
