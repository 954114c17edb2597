-- The order of receivers: by line name bytes, point, index. Rule 10 says it of neighbours, and it holds of any two.
use Prim.Native.Nat.{ℕ, zero, suc, ◌+◌, ◌≤◌, ◌<◌}
use native.Mathlib.Omega.{arith}
use mathlib.Core.Path.{◌≡◌, refl, ◌∙◌}
use mathlib.Core.Logic.{◌↔◌, ◌⊎◌, inl, inr, ⊎_elim}
use mathlib.Core.Bool.{Bool, true, ◌&&◌, ◌||◌}
use mathlib.Core.List.{List, [], ◌∷◌}
use lib.Dec.{eqb, ltb}
use borrow.Author.Tests.{ltb-true, lt-ltb, eqb-true, eq-eqb}
use Rattle.rules.specs.Places.{least}
use Rattle.rules.specs.Text.{less}
use Rattle.rules.specs.Names.{Name, text, same_name, ranked, less_name}
use Rattle.rules.specs.Points.{Point}
use Rattle.rules.specs.Order.{above}
use Rattle.rules.specs.MeetsSet.{Less, LessName, Above}
use Rattle.rules.proofs.Tests.{clash, and_is, or_is, eqb_is, ltb_is, same_name_is}
use Rattle.rules.proofs.Least.{least_is}

pub less_is : (a b : List ℕ) → (less a b ≡ true) ↔ Less a b
unfolding less
less_is a [] = (λ e. clash e, λ w. absurd w)
less_is [] (y ∷ ys) = (λ e. tt, λ w. refl)
less_is (x ∷ xs) (y ∷ ys) =
    let u = or_is (ltb x y) (eqb x y && less xs ys) in
    let v = and_is (eqb x y) (less xs ys) in
    let ih = less_is xs ys in (
      λ e. ⊎_elim (λ l. inl (ltb-true x y l)) (λ l. let w = v.0 l in inr (eqb-true x y w.0, ih.0 w.1)) (u.0 e),
      λ w. u.1 (⊎_elim (λ l. inl (lt-ltb x y l)) (λ l. inr (v.1 (eq-eqb x y l.0, ih.1 l.1))) w),
    )

less_trans : (a b c : List ℕ) → Less a b → Less b c → Less a c
less_trans a b [] l m = m
less_trans [] b (z ∷ zs) l m = tt
less_trans (x ∷ xs) [] (z ∷ zs) l m = absurd l
less_trans (x ∷ xs) (y ∷ ys) (z ∷ zs) (inl l) (inl m) = inl (omega arith)
less_trans (x ∷ xs) (y ∷ ys) (z ∷ zs) (inl l) (inr m) = let e = m.0 in inl (omega arith)
less_trans (x ∷ xs) (y ∷ ys) (z ∷ zs) (inr l) (inl m) = let e = l.0 in inl (omega arith)
less_trans (x ∷ xs) (y ∷ ys) (z ∷ zs) (inr l) (inr m) = inr (l.0 ∙ m.0, less_trans xs ys zs l.1 m.1)

less_self : (a : List ℕ) → Less a a → ⊥
less_self [] l = l
less_self (x ∷ xs) (inl l) = omega arith
less_self (x ∷ xs) (inr l) = less_self xs l.1

less_name_is : (rank : ℕ → ℕ) (a b : Name) → (less_name rank a b ≡ true) ↔ LessName rank a b
unfolding less_name
less_name_is rank (text a) (text b) = less_is (ranked rank a) (ranked rank b)

name_trans : (rank : ℕ → ℕ) (a b c : Name) → LessName rank a b → LessName rank b c → LessName rank a c
name_trans rank (text a) (text b) (text c) l m = less_trans (ranked rank a) (ranked rank b) (ranked rank c) l m

name_self : (rank : ℕ → ℕ) (a : Name) → LessName rank a a → ⊥
name_self rank (text a) l = less_self (ranked rank a) l

pub above_is : (rank : ℕ → ℕ) (v w : Point) → (above rank v w ≡ true) ↔ Above rank v w
unfolding above
above_is rank v w =
    let last : Bool = eqb w.number v.number && ltb w.index v.index in
    let a = or_is (less_name rank w.name v.name) (same_name w.name v.name && (ltb w.number v.number || last)) in
    let b = and_is (same_name w.name v.name) (ltb w.number v.number || last) in
    let c = or_is (ltb w.number v.number) last in
    let d = and_is (eqb w.number v.number) (ltb w.index v.index) in
    let n = less_name_is rank w.name v.name in
    let s = same_name_is w.name v.name in
    let p = ltb_is w.number v.number in
    let q = eqb_is w.number v.number in
    let i = ltb_is w.index v.index in (
      λ e.
          ⊎_elim (λ t. inl (n.0 t))
          (λ t.
          let y = b.0 t in
          inr (s.0 y.0, ⊎_elim (λ t. inl (p.0 t)) (λ t. let z = d.0 t in inr (q.0 z.0, i.0 z.1)) (c.0 y.1)))
          (a.0 e),
      λ y.
          a.1
          (⊎_elim (λ t. inl (n.1 t))
          (λ t. inr (b.1 (s.1 t.0, c.1 (⊎_elim (λ t. inl (p.1 t)) (λ t. inr (d.1 (q.1 t.0, i.1 t.1))) t.1))))
          y),
    )

-- numbers and indices of one name
later : (v w u : Point) → (u.number < w.number) ⊎ ((u.number ≡ w.number) × (u.index < w.index))
    → (w.number < v.number) ⊎ ((w.number ≡ v.number) × (w.index < v.index))
    → (u.number < v.number) ⊎ ((u.number ≡ v.number) × (u.index < v.index))
later v w u (inl l) (inl m) = inl (omega arith)
later v w u (inl l) (inr m) = let e = m.0 in inl (omega arith)
later v w u (inr l) (inl m) = let e = l.0 in inl (omega arith)
later v w u (inr l) (inr m) = let i = l.1 in let j = m.1 in inr (l.0 ∙ m.0, omega arith)

module _ (rank : ℕ → ℕ) where
  pub above_trans : (v w u : Point) → Above rank v w → Above rank w u → Above rank v u
  above_trans v w u (inl l) (inl m) = inl (name_trans rank u.name w.name v.name m l)
  above_trans v w u (inl l) (inr m) = inl (rw m.0 l)
  above_trans v w u (inr l) (inl m) = inl (rw (← l.0) m)
  above_trans v w u (inr l) (inr m) = inr (m.0 ∙ l.0, later v w u m.1 l.1)

  pub above_self : (v w : Point) → Above rank v w → w.name ≡ v.name → w.number ≡ v.number → w.index ≡ v.index → ⊥
  above_self v w (inl l) n p i = name_self rank v.name (rw n at l)
  above_self v w (inr (e, inl l)) n p i = omega arith
  above_self v w (inr (e, inr l)) n p i = let j = l.1 in omega arith

-- what holds of neighbours that pass, and can be chained, holds of any two that pass
module _ (n : ℕ) (p : ℕ → Bool) (R : ℕ → ℕ → Type 0) (join : (i j k : ℕ) → R i j → R j k → R i k)
    (next : (j k : ℕ) → j < k → k < n → p j ≡ true → p k ≡ true → ((m : ℕ) → j < m → m < k → p m ≡ true → ⊥) → R j k) where
  chain : (d j k : ℕ) → k ≤ d + j → j < k → k < n → p j ≡ true → p k ≡ true → R j k
  chain zero j k f l h a b = absurd (omega arith)
  chain (suc d) j k f l h a b =
      ⊎_elim
      (λ w.
      let m = least k (λ i. ltb j i && p i) in
      let v = (and_is _ _).0 w.1 in
      let jm : j < m = ltb-true j m v.0 in
      let mk : m < k = w.0 in
      join j m k
      (next j m jm (omega arith) a v.1 (λ i u y e. w.2 i y ((and_is _ _).1 (lt-ltb j i u, e))))
      (chain d m k (omega arith) mk h v.1 b))
      (λ w. next j k l h a b (λ i u y e. w.1 i y ((and_is _ _).1 (lt-ltb j i u, e))))
      (least_is k (λ i. ltb j i && p i))

  pub chained : (j k : ℕ) → j < k → k < n → p j ≡ true → p k ≡ true → R j k
  chained j k = chain k j k (omega arith)
