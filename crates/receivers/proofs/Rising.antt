-- Numbers that rise from place to place: one that stands d places further on is at least d more.
--   Rising v m   = those at the first m places
--   gap, climbs, before = of two places
--   one_place    = a number stands at one place
--   stands       = numbers that follow each other, all there, stand next to each other
--   between      = where the last stands as far behind the first as it is more, so do all between
use Prim.Native.Nat.{ℕ, zero, suc, ◌+◌, ◌-◌, ◌≤◌, ◌<◌}
use native.Mathlib.Nat.{eq-or-lt_of_le}
use native.Mathlib.Decide.{dec_lt}
use native.Mathlib.Omega.{arith}
use mathlib.Core.Path.{◌≡◌, ap, subst}
use mathlib.Core.Logic.{⊎_elim}

abbrev pub Rising : (ℕ → ℕ) → ℕ → Type 0
Rising v m = (i j : ℕ) → i < j → j < m → v i < v j

module _ (v : ℕ → ℕ) (m : ℕ) (rising : Rising v m) where
  gap : (e d : ℕ) → e + d < m → v e + d ≤ v (e + d)
  gap e zero l = subst (λ (i : ℕ). v e + 0 ≤ v i) (let z : e ≡ e + 0 = omega arith in z) (omega arith)
  gap e (suc d) l = omega (arith, rising (e + d) (e + suc d) (omega arith) l, gap e d (omega arith))

  climbs : (i j : ℕ) → i ≤ j → j < m → v i ≤ v j
  climbs i j h l =
      ⊎_elim (λ (z : i ≡ j). subst (λ (e : ℕ). v i ≤ v e) z (omega arith)) (λ (z : i < j). omega (arith, rising i j z l))
      (eq-or-lt_of_le h)

  before : (i j : ℕ) → i < m → v i < v j → i < j
  before i j a h = go (dec_lt i j)
    where
      go : Dec (i < j) → i < j
      go (yes z) = z
      go (no z) = absurd (omega (arith, climbs j i (omega arith) a))

  pub one_place : (i j : ℕ) → i < m → j < m → v i ≡ v j → i ≡ j
  one_place i j a b h =
      let u : i < j → ⊥ = λ z. omega (arith, rising i j z b) in
      let w : j < i → ⊥ = λ z. omega (arith, rising j i z a) in
      omega arith

  -- from the number b at place e on
  module _ (e b : ℕ) (h : e < m) (here : v e ≡ b) where
    pub stands : (n : ℕ) → ((d : ℕ) → d < n → (j : ℕ) × (j < m) × (v j ≡ b + d)) → (d : ℕ) → d < n
        → (e + d < m) × (v (e + d) ≡ b + d)
    stands n all zero l =
        let z : e ≡ e + 0 = omega arith in
        let y : v e ≡ v (e + 0) = ap v z in
        (omega arith, omega arith)
    stands n all (suc d) l =
        let ih = stands n all d (omega arith) in
        let w = all (suc d) l in
        let f = before (e + d) w.0 ih.0 (omega (arith, ih.1, w.2)) in
        let p : e + suc d < m = omega (arith, f, w.1) in
        let u = rising (e + d) (e + suc d) (omega arith) p in
        let c = climbs (e + suc d) w.0 (omega arith) w.1 in
        (p, omega (arith, ih.1, w.2))

    pub between : (d : ℕ) → e + d < m → v (e + d) ≡ b + d → (k : ℕ) → k ≤ d → v (e + k) ≡ b + k
    between d l last k a =
        let z : e + k + (d - k) ≡ e + d = omega arith in
        let y : v (e + k + (d - k)) ≡ v (e + d) = ap v z in
        let u = gap e k (omega arith) in
        let c = gap (e + k) (d - k) (omega arith) in
        omega arith
