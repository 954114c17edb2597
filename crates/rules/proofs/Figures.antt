-- The digits of a number: a field of digits reads them as the number, and no other digits of that number are fewer.
--   decimal_figures = they are digits, at least one, of the number's value
--   figures_few     = no digits of that value are fewer
--   digits_grow     = a larger number has no fewer
--   read_back       = read as the rules read digits they are the number; no_zero_before = no zero stands before them
--   few_digits, twenty = how many there are at most
--   room_small, room_more = the room that they take in a buffer
use mathlib.Core.Path.{◌≡◌, refl, ap, sym, ◌∙◌}
use mathlib.Core.Bool.{Bool, true, false}
use mathlib.Core.List.{List, [], ◌∷◌, ◌++◌}
use Prim.Native.Nat.{ℕ, zero, suc, ◌+◌, ◌-◌, ◌*◌, ◌/◌, ◌%◌, ◌^◌, ◌≤◌, ◌<◌}
use native.Mathlib.Nat.{pow-suc}
use native.Mathlib.Omega.{arith}
use lib.Dec.{ltb}
use lib.ListN.{length, length-append, get_or, get_or-append}
use borrow.Author.Tests.{lt-ltb, le-ltb, ltb-true, ltb-false}
use Rattle.rules.specs.Places.{pick}
use Rattle.rules.specs.Numbers.{plus, digits as read, size}
use Rattle.rules.specs.Figures.{figure, figures, decimal_of}
use Rattle.rules.specs.MeetsFields.{Figures}
use Rattle.rules.proofs.Numbers.{digits_are}
use Rattle.rules.proofs.Sizes.{digits_small}
use Rattle.rules.proofs.Spellings.{figures_more}

figures_small : (k n : ℕ) → n < 10 → figures k n ≡ figure n ∷ []
unfolding figures pick
figures_small zero n h = ap (λ (d : ℕ). figure d ∷ []) (let z : n % 10 ≡ n = omega arith in z)
figures_small (suc k) n h = rw (lt-ltb n 10 h)

figures_next : (k n : ℕ) → 10 ≤ n → figures (suc k) n ≡ figures k (n / 10) ++ (figure (n % 10) ∷ [])
unfolding figures pick
figures_next k n h = rw (le-ltb n 10 h)

-- turns to spare change nothing
figures_same : (k j n : ℕ) → n ≤ k → n ≤ j → figures k n ≡ figures j n
unfolding figures
figures_same zero j n h g = figures_small zero n (omega arith) ∙ sym (figures_small j n (omega arith))
figures_same (suc k) zero n h g = figures_small (suc k) n (omega arith) ∙ sym (figures_small zero n (omega arith))
figures_same (suc k) (suc j) n h g = rw (figures_same k j (n / 10) (omega arith) (omega arith))

pub decimal_small : (n : ℕ) → n < 10 → decimal_of n ≡ figure n ∷ []
unfolding decimal_of
decimal_small n h = figures_small n n h

pub decimal_more : (n : ℕ) → 10 ≤ n → decimal_of n ≡ decimal_of (n / 10) ++ (figure (n % 10) ∷ [])
unfolding decimal_of
decimal_more zero h = absurd (omega arith)
decimal_more (suc k) h = figures_next k (suc k) h ∙ rw (figures_same k (suc k / 10) (suc k / 10) (omega arith) (omega arith))

-- a rule of decimal numbers follows from the two
pub digits_all {ℓ} : (P : ℕ → Type ℓ) → ((n : ℕ) → n < 10 → P n) → ((n : ℕ) → 10 ≤ n → P (n / 10) → P n) → (k n : ℕ) → n ≤ k → P n
digits_all P small more zero n h = small n (omega arith)
digits_all P small more (suc k) n h = by (ltb n 10) refl (digits_all P small more k)
  where
    by : (t : Bool) → ltb n 10 ≡ t → ((m : ℕ) → m ≤ k → P m) → P n
    by true e f = small n (ltb-true n 10 e)
    by false e f = more n (ltb-false n 10 e) (f (n / 10) (omega (arith, ltb-false n 10 e)))

pub decimal_figures : (n : ℕ) → Figures (decimal_of n) n
decimal_figures n =
    digits_all (λ (m : ℕ). Figures (decimal_of m) m)
    (λ m h. rw (decimal_small m h) ((λ e. let z : ◌≡◌ {A = ℕ} 0 1 = cc in omega arith), ((omega arith, omega arith), tt), omega arith))
    (λ m h e.
    let f = figures_more (decimal_of (m / 10)) (m / 10) (figure (m % 10)) e (omega arith, omega arith) in
    rw (decimal_more m h) (f.0, f.1, f.2 ∙ (let z : 10 * (m / 10) + (48 + m % 10 - 48) ≡ m = omega arith in z)))
    n n (omega arith)

pub digits_any : (n : ℕ) → 1 ≤ length (decimal_of n)
digits_any n =
    digits_all (λ (m : ℕ). 1 ≤ length (decimal_of m))
    (λ m h. rw (decimal_small m h) (omega arith))
    (λ m h e. rw (decimal_more m h, length-append) (omega arith))
    n n (omega arith)

-- the law of the definition: its digits are those of the number
pub read_back : (n : ℕ) → read (decimal_of n) ≡ plus n
read_back n = (digits_are (decimal_of n) n).1 (decimal_figures n)

pub no_zero_before : (n : ℕ) → 1 ≤ n → figure 1 ≤ get_or (decimal_of n) 0 0
no_zero_before n =
    digits_all (λ (m : ℕ). 1 ≤ m → figure 1 ≤ get_or (decimal_of m) 0 0)
    (λ m h g. rw (decimal_small m h) (omega arith))
    (λ m h e g. rw (decimal_more m h, get_or-append (decimal_of (m / 10)) (figure (m % 10) ∷ []) 0 0 (digits_any (m / 10))) (e (omega arith)))
    n n (omega arith)

-- a number below a power of ten has no more digits than that
pub few_digits : (k n : ℕ) → n < 10 ^ suc k → length (decimal_of n) ≤ suc k
few_digits zero n h = rw (decimal_small n h) (omega arith)
few_digits (suc k) n h = by (ltb n 10) refl (few_digits k (n / 10))
  where
    by : (t : Bool) → ltb n 10 ≡ t → (n / 10 < 10 ^ suc k → length (decimal_of (n / 10)) ≤ suc k) → length (decimal_of n) ≤ suc (suc k)
    by true e f = rw (decimal_small n (ltb-true n 10 e)) (omega arith)
    by false e f = rw (decimal_more n (ltb-false n 10 e), length-append) (let z = f (omega (arith, pow-suc 10 (suc k))) in omega arith)

pub figures_few : (ds : List ℕ) (n : ℕ) → Figures ds n → length (decimal_of n) ≤ length ds
unfolding size
figures_few [] n w = absurd (w.0 refl)
figures_few (d ∷ ds) n w = few_digits (length ds) n (rw ((digits_are (d ∷ ds) n).1 w) at (digits_small (d ∷ ds)))

pub digits_grow : (m n : ℕ) → m ≤ n → length (decimal_of m) ≤ length (decimal_of n)
digits_grow m n =
    digits_all (λ (n : ℕ). (m : ℕ) → m ≤ n → length (decimal_of m) ≤ length (decimal_of n))
    (λ n h m g. rw (decimal_small n h, decimal_small m (omega arith)) (omega arith))
    (λ n h f m g. rw (decimal_more n h, length-append) (by n f m g (ltb m 10) refl))
    n n (omega arith) m
  where
    by : (n : ℕ) → ((m : ℕ) → m ≤ n / 10 → length (decimal_of m) ≤ length (decimal_of (n / 10))) → (m : ℕ) → m ≤ n
        → (t : Bool) → ltb m 10 ≡ t → length (decimal_of m) ≤ length (decimal_of (n / 10)) + 1
    by n f m g true e = rw (decimal_small m (ltb-true m 10 e)) (omega arith)
    by n f m g false e =
        let h = ltb-false m 10 e in
        rw (decimal_more m h, length-append) (let z = f (m / 10) (omega arith) in omega arith)

pub twenty : (n : ℕ) → n < 2 ^ 64 → length (decimal_of n) ≤ 20
twenty n h = few_digits 19 n (omega arith)

-- the room that they take: one place for the last, the others before it
pub room_small : (v n m : ℕ) → v < 10 → n + length (decimal_of v) ≤ m → n < m
room_small v n m h g = omega (arith, ap length (decimal_small v h))

pub room_more : (v n m : ℕ) → 10 ≤ v → n + length (decimal_of v) ≤ m → n + length (decimal_of (v / 10)) + 1 ≤ m
room_more v n m h g = omega (arith, simp length-append at (ap length (decimal_more v h)))
