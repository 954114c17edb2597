-- A time of day: six digits, and the number that they make.
--   clock_is = the rule of the field is the rule of the number
use Prim.Native.Nat.{ℕ, zero, suc, ◌+◌, ◌*◌, ◌/◌, ◌%◌, ◌≤◌, ◌<◌}
use native.Mathlib.Omega.{arith}
use mathlib.Core.Path.{◌≡◌, refl, ◌∙◌}
use mathlib.Core.Logic.Iff
use mathlib.Core.Logic.{◌↔◌}
use mathlib.Core.Bool.{true}
use mathlib.Core.List.{List, [], ◌∷◌, ◌++◌}
use lib.ListN.{length, replicate}
use Rattle.rules.specs.Kinds.{is_time}
use Rattle.rules.specs.MeetsFields.{Digit, Digits, value_after, Figures, Time}
use Rattle.rules.specs.Spelled.{is_clock}
use Rattle.rules.proofs.Tests.{says}
use Rattle.rules.proofs.Columns.{one_column, no_column}
use Rattle.rules.proofs.Fields.{time_is}

-- zeros before digits change nothing
pub zeros_figures : (j : ℕ) (ds : List ℕ) (n : ℕ) → Figures ds n → Figures (replicate j 48 ++ ds) n
zeros_figures zero ds n w = w
zeros_figures (suc j) ds n w =
    let f = zeros_figures j ds n w in
    ((λ e. let z : ◌≡◌ {A = ℕ} 0 1 = cc in omega arith), ((omega arith, omega arith), f.1), f.2)

-- two digits of six
abbrev two : ℕ → ℕ → ℕ
two a b = value_after 0 (a ∷ b ∷ [])

two_small : (a b : ℕ) → Digit a → Digit b → two a b < 100
two_small a b g h = let x = g.1 in let y = h.1 in omega arith

pairs : (x y z n : ℕ) → y < 100 → z < 100 → 10000 * x + 100 * y + z ≡ n → (n / 10000 ≡ x) × (n / 100 % 100 ≡ y) × (n % 100 ≡ z)
pairs x y z n g h e = (omega arith, omega arith, omega arith)

clock_says : (n : ℕ) → (is_clock n ≡ true) ↔ ((n / 10000 ≤ 23) × ((n / 100 % 100 ≤ 59) × (n % 100 ≤ 59)))
unfolding is_clock
clock_says n = simp says Iff.rfl

-- six columns, one by one
six_columns : (P : List ℕ → Type 0) → ((a b c d e f : ℕ) → P (a ∷ b ∷ c ∷ d ∷ e ∷ f ∷ [])) → (bs : List ℕ) → length bs ≡ 6 → P bs
six_columns P t =
    one_column P 5
    (λ a. one_column (λ l. P (a ∷ l)) 4
    (λ b. one_column (λ l. P (a ∷ b ∷ l)) 3
    (λ c. one_column (λ l. P (a ∷ b ∷ c ∷ l)) 2
    (λ d. one_column (λ l. P (a ∷ b ∷ c ∷ d ∷ l)) 1
    (λ e. one_column (λ l. P (a ∷ b ∷ c ∷ d ∷ e ∷ l)) 0 (λ f. no_column (λ l. P (a ∷ b ∷ c ∷ d ∷ e ∷ f ∷ l)) (t a b c d e f)))))))

some_digits : (a : ℕ) (bs : List ℕ) → Digits (a ∷ bs) → Figures (a ∷ bs) (value_after 0 (a ∷ bs))
some_digits a bs h = ((λ e. let z : ◌≡◌ {A = ℕ} 0 1 = cc in omega arith), h, refl)

module _ (a b c d e f n : ℕ) (h : Figures (a ∷ b ∷ c ∷ d ∷ e ∷ f ∷ []) n) where
  parts : (n / 10000 ≡ two a b) × (n / 100 % 100 ≡ two c d) × (n % 100 ≡ two e f)
  parts =
      let g = h.1 in
      pairs (two a b) (two c d) (two e f) n (two_small c d g.1.1.0 g.1.1.1.0) (two_small e f g.1.1.1.1.0 g.1.1.1.1.1.0)
      ((let z : 10000 * two a b + 100 * two c d + two e f ≡ value_after 0 (a ∷ b ∷ c ∷ d ∷ e ∷ f ∷ []) = omega arith in z) ∙ h.2)

  to_clock : Time (a ∷ b ∷ c ∷ d ∷ e ∷ f ∷ []) → is_clock n ≡ true
  to_clock w =
      let p = parts in
      (clock_says n).1 (
        rw (p.0, w.0.1.2) w.0.3,
        (rw (p.1, w.1.0.1.2) w.1.0.3, rw (p.2, w.1.1.1.2) w.1.1.3),
      )

  of_clock : is_clock n ≡ true → Time (a ∷ b ∷ c ∷ d ∷ e ∷ f ∷ [])
  of_clock t =
      let p = parts in
      let g = h.1 in
      let w = (clock_says n).0 t in (
        (two a b, some_digits a (b ∷ []) (g.0, (g.1.0, tt)), omega arith, rw p.0 at w.0),
        (
          (two c d, some_digits c (d ∷ []) (g.1.1.0, (g.1.1.1.0, tt)), omega arith, rw p.1 at w.1.0),
          (two e f, some_digits e (f ∷ []) (g.1.1.1.1.0, (g.1.1.1.1.1.0, tt)), omega arith, rw p.2 at w.1.1),
        ),
      )

-- a field of a time is digits
pub time_figures : (bs : List ℕ) → length bs ≡ 6 → is_time bs ≡ true → Figures bs (value_after 0 bs)
time_figures bs h t =
    six_columns (λ l. Time l → Figures l (value_after 0 l))
    (λ a b c d e f w.
    let x = w.0.1.1 in
    let y = w.1.0.1.1 in
    let z = w.1.1.1.1 in
    some_digits a (b ∷ c ∷ d ∷ e ∷ f ∷ []) (x.0, (x.1.0, (y.0, (y.1.0, z)))))
    bs h ((time_is bs).0 t)

pub clock_is : (bs : List ℕ) (n : ℕ) → length bs ≡ 6 → Figures bs n → (is_time bs ≡ true) ↔ (is_clock n ≡ true)
clock_is bs n h g =
    Iff.trans (time_is bs)
    (six_columns (λ l. Figures l n → Time l ↔ (is_clock n ≡ true)) (λ a b c d e f g. (to_clock a b c d e f n g, of_clock a b c d e f n g)) bs h g)
