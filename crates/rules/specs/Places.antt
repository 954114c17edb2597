-- What is asked of places that are counted from 0.
--   pick t a b       = a where the test passes, else b
--   every n p        = each of the places below n passes
--   some n p         = one of them passes
--   least n p        = the least of them that passes; n where none does
--   count n p        = how many of them pass
--   sum n g          = g 0 + .. + g (n - 1)
--   greatest n g     = the greatest of g 0 .. g (n - 1); 0 where n is 0
--   if_before p k     = the place just before k passes, if there is one
--   is_before p k     = there is a place just before k, and it passes
--   of_last here p k  = the last place before k that is here passes p, if there is one
use Rattle.std.specs.Prelude.{ℕ, zero, suc, ◌+◌, max, Bool, true, false, ◌&&◌, ◌||◌, ltb}

unfoldable pub pick {ℓ} : {A : Type ℓ} → Bool → A → A → A
pick true a b = a
pick false a b = b

unfoldable pub every : ℕ → (ℕ → Bool) → Bool
every zero p = true
every (suc n) p = let b = p n in every n p && b

unfoldable pub some : ℕ → (ℕ → Bool) → Bool
some zero p = false
some (suc n) p = let b = p n in some n p || b

unfoldable pub least : ℕ → (ℕ → Bool) → ℕ
least zero p = zero
least (suc n) p =
    let m = least n p in
    let here = pick (p n) n (suc n) in
    pick (ltb m n) m here

unfoldable pub count : ℕ → (ℕ → Bool) → ℕ
count zero p = zero
count (suc n) p = count n p + pick (p n) 1 0

unfoldable pub sum : ℕ → (ℕ → ℕ) → ℕ
sum zero g = zero
sum (suc n) g = sum n g + g n

unfoldable pub greatest : ℕ → (ℕ → ℕ) → ℕ
greatest zero g = zero
greatest (suc n) g = max (greatest n g) (g n)

unfoldable pub if_before : (ℕ → Bool) → ℕ → Bool
if_before p zero = true
if_before p (suc k) = p k

unfoldable pub is_before : (ℕ → Bool) → ℕ → Bool
is_before p zero = false
is_before p (suc k) = p k

unfoldable pub of_last : (ℕ → Bool) → (ℕ → Bool) → ℕ → Bool
of_last here p zero = true
of_last here p (suc k) =
    let more = of_last here p k in
    let this = p k in
    pick (here k) this more
