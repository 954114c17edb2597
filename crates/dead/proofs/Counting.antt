-- How often a test passes.
--   count_one, count_most = one place more; no more than there are
--   count_add             = the places behind the first e of them, counted by themselves
--   count_back            = as often where the places are read backwards
--   count_steps           = s times as often where s places in a row ask for one answer
--   sum_zero              = a sum of nothing
use Prim.Native.Nat.{ℕ, zero, suc, ◌+◌, ◌-◌, ◌*◌, ◌/◌, ◌≤◌, ◌<◌}
use native.Mathlib.Nat.{lt-suc_self, zero-mul, suc-mul, add-mul, mul-add-div_right, div-eq_of_lt, add-zero}
use native.Mathlib.Numerals.{add-one}
use native.Mathlib.Omega.{arith}
use mathlib.Core.Path.{◌≡◌, refl, sym, ap, ap₂, ◌∙◌}
use mathlib.Core.Bool.{Bool, true, false}
use Rattle.rules.specs.Places.{pick, count, sum}
use Rattle.rules.proofs.Dead.{count_alike}

module _ (p : ℕ → Bool) where
  pub count_one : (n : ℕ) → count (n + 1) p ≡ count n p + pick (p n) 1 0
  unfolding count
  count_one n = rw (add-one n)

  pub count_most : (n : ℕ) → count n p ≤ n
  unfolding count pick
  count_most zero = omega arith
  count_most (suc n) = more (p n) (count_most n)
    where
      more : (t : Bool) → count n p ≤ n → count n p + pick t 1 0 ≤ suc n
      more true h = omega arith
      more false h = omega arith

  pub count_add : (e n : ℕ) → count (e + n) p ≡ count e p + count n (λ d. p (e + d))
  unfolding count
  count_add e zero = ap (λ (m : ℕ). count m p) (let z : e + 0 ≡ e = omega arith in z) ∙ (let z : count e p ≡ count e p + 0 = omega arith in z)
  count_add e (suc n) =
      ap (λ (m : ℕ). count m p) (let z : e + suc n ≡ suc (e + n) = omega arith in z)
      ∙ (let i = count_add e n in
      let z : count (e + n) p + pick (p (e + n)) 1 0 ≡ count e p + (count n (λ d. p (e + d)) + pick (p (e + n)) 1 0) = omega arith in z)

-- read backwards
pub count_back : (n : ℕ) (p : ℕ → Bool) → count n p ≡ count n (λ d. p (n - 1 - d))
unfolding count
count_back zero p = refl
count_back (suc n) p =
    let last : count 1 (λ d. p (suc n - 1 - d)) ≡ pick (p n) 1 0 = one (λ d. p (suc n - 1 - d)) ∙ ap (λ (m : ℕ). pick (p m) 1 0) (omega arith) in
    let i = count_back n p in
    let rest = count_alike n (λ d. p (n - 1 - d)) (λ d. p (suc n - 1 - (1 + d))) (λ d h. ap p (omega arith)) in
    let all = count_add (λ d. p (suc n - 1 - d)) 1 n in
    let z : count n p + pick (p n) 1 0 ≡ count (1 + n) (λ d. p (suc n - 1 - d)) = omega arith in
    z ∙ ap (λ (m : ℕ). count m (λ d. p (suc n - 1 - d))) (let y : 1 + n ≡ suc n = omega arith in y)
  where
    one : (q : ℕ → Bool) → count 1 q ≡ pick (q 0) 1 0
    one q = let z : 0 + pick (q 0) 1 0 ≡ pick (q 0) 1 0 = omega arith in z

-- s places that ask for one answer
count_same : (t : Bool) (s : ℕ) → count s (λ _. t) ≡ pick t 1 0 * s
unfolding count pick
count_same true zero = refl
count_same true (suc s) = let i = count_same true s in omega arith
count_same false zero = refl
count_same false (suc s) = let i = count_same false s in omega arith

module _ (s : ℕ) (some : 1 ≤ s) (p : ℕ → Bool) where
  same_step : (n d : ℕ) → d < s → (n * s + d) / s ≡ n
  same_step n d h = rw (mul-add-div_right some n d, div-eq_of_lt h, add-zero)

  pub count_steps : (n : ℕ) → count (n * s) (λ c. p (c / s)) ≡ count n p * s
  unfolding count
  count_steps zero = ap (λ (m : ℕ). count m (λ c. p (c / s))) (zero-mul s) ∙ sym (zero-mul s)
  count_steps (suc n) =
      ap (λ (m : ℕ). count m (λ c. p (c / s))) (suc-mul n s) ∙ count_add (λ c. p (c / s)) (n * s) s
      ∙ ap₂ ◌+◌ (count_steps n) (count_alike s (λ d. p ((n * s + d) / s)) (λ _. p n) (λ d h. ap p (same_step n d h)) ∙ count_same (p n) s)
      ∙ sym (add-mul (count n p) (pick (p n) 1 0) s)

pub sum_zero : (n : ℕ) (g : ℕ → ℕ) → ((k : ℕ) → k < n → g k ≡ 0) → sum n g ≡ 0
unfolding sum
sum_zero zero g f = refl
sum_zero (suc n) g f = let i = sum_zero n g (λ k h. f k (omega arith)) in let z = f n (lt-suc_self n) in omega arith
