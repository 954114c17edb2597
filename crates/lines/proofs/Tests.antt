-- Laws of tests.
--   untrue        = a test that does not pass is false
--   every_same .. = what is asked of the places below n is the same where each of them answers the same
use Rattle.std.proofs.Common.{◌≡◌, ℕ, zero, suc, ◌<◌, Bool, true, false, refl, arith}
use Rattle.rules.specs.Places.{every, least, greatest, is_before}

pub untrue : (t : Bool) → (t ≡ true → ⊥) → t ≡ false
untrue true f = absurd (f refl)
untrue false f = refl

pub every_same : (n : ℕ) (p q : ℕ → Bool) → ((j : ℕ) → j < n → p j ≡ q j) → every n p ≡ every n q
unfolding every
every_same zero p q f = refl
every_same (suc n) p q f = rw (every_same n p q (λ j h. f j (omega arith)), f n (omega arith))

pub least_same : (n : ℕ) (p q : ℕ → Bool) → ((j : ℕ) → j < n → p j ≡ q j) → least n p ≡ least n q
unfolding least
least_same zero p q f = refl
least_same (suc n) p q f = rw (least_same n p q (λ j h. f j (omega arith)), f n (omega arith))

pub greatest_same : (n : ℕ) (p q : ℕ → ℕ) → ((j : ℕ) → j < n → p j ≡ q j) → greatest n p ≡ greatest n q
unfolding greatest
greatest_same zero p q f = refl
greatest_same (suc n) p q f = rw (greatest_same n p q (λ j h. f j (omega arith)), f n (omega arith))

pub before_same : (n : ℕ) (p q : ℕ → Bool) → ((j : ℕ) → j < n → p j ≡ q j) → is_before p n ≡ is_before q n
unfolding is_before
before_same zero p q f = refl
before_same (suc n) p q f = f n (omega arith)
