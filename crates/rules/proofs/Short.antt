-- How short a number's spelling is: no longer than the columns that it is read from, and no longer than that of a larger number.
--   whole_few .. minus_point_few = the columns that hold a number hold its spelling
--   point_grow                   = a smaller number with its point is no longer
--   minus_short                  = of a negative number, by its digits
--   coordinate_short             = with its point where that goes into the columns, else without
use Prim.Native.Nat.{ℕ, ◌+◌, ◌/◌, ◌≤◌, zero, suc}
use native.Mathlib.Omega.{arith}
use mathlib.Core.Path.{◌≡◌, refl, ◌∙◌, sym}
use mathlib.Core.Logic.{⊎_elim, ◌⊎◌}
use mathlib.Core.Bool.{true, Bool, false}
use mathlib.Core.List.{List}
use lib.Dec.{leb}
use lib.IntN.{pos, neg_ℤ}
use lib.ListN.{length, length-append}
use borrow.Author.Tests.{leb-true, le-leb}
use Rattle.rules.specs.Places.{pick}
use Rattle.rules.specs.MeetsFields.{Whole, Tenths, Minus}
use Rattle.rules.specs.Figures.{decimal_of}
use Rattle.rules.specs.Spelled.{with_point, by_sign}
use Rattle.rules.proofs.Tests.{clash}
use Rattle.rules.proofs.Figures.{figures_few, digits_grow}

pub whole_few : (bs : List ℕ) (n : ℕ) → Whole bs n → length (decimal_of n) ≤ length bs
whole_few bs n w = rw (w.2, length-append) (let f = figures_few w.1 n w.3 in omega arith)

pub minus_few : (bs : List ℕ) (n : ℕ) → Minus bs n → suc (length (decimal_of n)) ≤ length bs
minus_few bs n w = let q = w.3 in rw (w.2, length-append, q.1) (let f = figures_few q.0 n q.2 in omega arith)

point_long : (n : ℕ) → length (with_point n) ≡ length (decimal_of (n / 10)) + 2
unfolding with_point
point_long n = length-append (decimal_of (n / 10)) _

tenths_few : (P : List ℕ → ℕ → Type 0) (c : ℕ) → ((ws : List ℕ) (m : ℕ) → P ws m → c + length (decimal_of m) ≤ length ws)
    → (bs : List ℕ) (n : ℕ) → Tenths P bs n → c + length (with_point n) ≤ length bs
tenths_few P c f bs n w =
    let d = w.5 in
    let e = w.6 in
    let z : n / 10 ≡ w.2 = omega arith in
    rw (w.3, length-append, point_long n, z) (let g = f w.0 w.2 w.4 in omega arith)

pub point_few : (bs : List ℕ) (n : ℕ) → Tenths Whole bs n → 0 + length (with_point n) ≤ length bs
point_few = tenths_few Whole 0 (λ ws m a. let g = whole_few ws m a in omega arith)

pub minus_point_few : (bs : List ℕ) (n : ℕ) → Tenths Minus bs n → 1 + length (with_point n) ≤ length bs
minus_point_few = tenths_few Minus 1 (λ ws m a. let g = minus_few ws m a in omega arith)

pub point_grow : (m n : ℕ) → m ≤ n → length (with_point m) ≤ length (with_point n)
point_grow m n h = rw (point_long m, point_long n) (let g = digits_grow (m / 10) (n / 10) (omega arith) in omega arith)

pub minus_short : (f : ℕ → List ℕ) (w n : ℕ) → suc (length (f n)) ≤ w → length (by_sign f (neg_ℤ (pos n))) ≤ w
unfolding by_sign
minus_short f w zero h = omega arith
minus_short f w (suc n) h = h

-- either spelling of a coordinate: with its point where that goes into the columns
pub coordinate_short : (p d : List ℕ) (w : ℕ) → (length p ≤ w) ⊎ (length d ≤ w) → length (pick (leb (length p) w) p d) ≤ w
unfolding pick
coordinate_short p d w h = go (leb (length p) w) refl
  where
    go : (t : Bool) → leb (length p) w ≡ t → length (pick t p d) ≤ w
    go true e = leb-true (length p) w e
    go false e = ⊎_elim (λ l. clash (sym e ∙ le-leb (length p) w l)) (λ l. l) h
