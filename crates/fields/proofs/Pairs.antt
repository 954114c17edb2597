-- Two numbers as one, to a base above the second: it compares as they do, the first before the second.
--   pair_same, pair_less = as tests
--   first_by             = by A; where even (E), by a; where even (e), by L: the first two as one test, and then L
--   or_never             = where even, never
use Prim.Native.Nat.{ℕ, suc, ◌+◌, ◌*◌, ◌≤◌, ◌<◌}
use native.Mathlib.Nat.{mul-le-mul_left, mul-suc}
use native.Mathlib.Omega.{arith}
use mathlib.Core.Path.{◌≡◌, refl, ap}
use mathlib.Core.Logic.{⊎_elim, inl, inr}
use mathlib.Core.Bool.{Bool, true, false, ◌&&◌, ◌||◌}
use lib.Dec.{eqb, ltb}
use borrow.Author.Tests.{eq-eqb, eqb-true, lt-ltb, ltb-true}
use Rattle.rules.proofs.Tests.{agree, and_is, or_is, yes_no}

pub first_by : (A E a e L : Bool) → ((A || (E && a)) || ((E && e) && L)) ≡ (A || (E && (a || (e && L))))
first_by true E a e L = refl
first_by false false a e L = refl
first_by false true true e L = refl
first_by false true false e L = refl

pub or_never : (a b : Bool) → a ≡ (a || (b && false))
or_never true b = refl
or_never false true = refl
or_never false false = refl

module _ (B p i q j : ℕ) (h : i < B) (g : j < B) where
  step : p < q → B * p + B ≤ B * q
  step l = let m : B * suc p ≤ B * q = mul-le-mul_left B l in let e = mul-suc B p in omega arith

  step_back : q < p → B * q + B ≤ B * p
  step_back l = let m : B * suc q ≤ B * p = mul-le-mul_left B l in let e = mul-suc B q in omega arith

  first_even : B * p + i ≡ B * q + j → p ≡ q
  first_even e =
      let u : p < q → ⊥ = λ l. let m = step l in omega arith in
      let v : q < p → ⊥ = λ l. let m = step_back l in omega arith in
      omega arith

  pub pair_same : eqb (B * p + i) (B * q + j) ≡ (eqb p q && eqb i j)
  pair_same =
      agree _ _
      (λ e.
      let z = eqb-true (B * p + i) (B * q + j) e in
      let y = first_even z in
      let x = ap (λ (n : ℕ). B * n) y in
      (and_is (eqb p q) (eqb i j)).1 (eq-eqb p q y, eq-eqb i j (omega arith)))
      (λ e.
      let w = (and_is (eqb p q) (eqb i j)).0 e in
      let u = ap (λ (n : ℕ). B * n) (eqb-true p q w.0) in
      let v = eqb-true i j w.1 in
      eq-eqb (B * p + i) (B * q + j) (omega arith))

  pub pair_less : ltb (B * p + i) (B * q + j) ≡ (ltb p q || (eqb p q && ltb i j))
  pair_less =
      agree _ _
      (λ e.
      let z = ltb-true (B * p + i) (B * q + j) e in
      (or_is (ltb p q) (eqb p q && ltb i j)).1
      (yes_no (ltb p q) (λ t. inl t)
      (λ t.
      let m : p < q → ⊥ = λ l. t (lt-ltb p q l) in
      let v : q < p → ⊥ = λ l. let n = step_back l in omega arith in
      let y : p ≡ q = omega arith in
      let x = ap (λ (n : ℕ). B * n) y in
      inr ((and_is (eqb p q) (ltb i j)).1 (eq-eqb p q y, lt-ltb i j (omega arith))))))
      (λ e.
      ⊎_elim (λ t. let m = step (ltb-true p q t) in lt-ltb (B * p + i) (B * q + j) (omega arith))
      (λ t.
      let w = (and_is (eqb p q) (ltb i j)).0 t in
      let u = ap (λ (n : ℕ). B * n) (eqb-true p q w.0) in
      let l = ltb-true i j w.1 in
      lt-ltb (B * p + i) (B * q + j) (omega arith))
      ((or_is (ltb p q) (eqb p q && ltb i j)).0 e))
