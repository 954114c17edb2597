-- The text of a value at the start of a buffer.
use Prim.Native.Nat.{ℕ, zero, suc, ◌+◌, ◌-◌, ◌/◌, ◌%◌, ◌^◌, ◌≤◌, ◌<◌}
use native.Mathlib.Nat.{add-zero, pow-suc}
use native.Mathlib.Omega.{arith}
use mathlib.Core.Path.{◌≡◌, refl, sym, ap, ◌∙◌}
use mathlib.Core.Bool.{Bool}
use mathlib.Core.List.{List, [], ◌∷◌, ◌++◌, append-nil}
use lib.ListN.{length, take, replicate, length-append}
use borrow.Author.Tests.{le-leb, lt-leb}
use Rattle.rules.specs.Places.{pick}
use Rattle.rules.specs.Figures.{decimal_of}
use Rattle.rules.specs.Spelled.{padded, with_point, water_figures}
use Rattle.texts.specs.Buffer.{Adds}
use Rattle.texts.proofs.Adding.{then, starts}
use Rattle.rules.specs.Carried.{bytes_of}
use Rattle.writer.specs.Coded.{text_of}
use mir.ValLaws.{to_z-of_z}
use Rattle.writer.specs.Texts.{sign_of, Starts, coordinate_of}
use Rattle.writer.proofs.Signed.{by_sign_is}

pub adds_nothing : (a : List ℕ) (n : ℕ) → Adds a n [] a n
adds_nothing a n = record { ends = sym (add-zero n); front = sym (append-nil (take n a)); rest = refl }

pub started : {a t b : List ℕ} {m : ℕ} → Adds a 0 t b m → Starts b t m
started e = let s = starts e in record { ends = s.1; front = s.0 }

pub told : {b t u : List ℕ} {m : ℕ} → Starts b t m → t ≡ u → Starts b u m
told s e = record { ends = s.ends ∙ ap length e; front = s.front ∙ e }

-- with zeros before it
padded_full : (b w : ℕ) (t : List ℕ) → w ≤ length t → t ≡ padded b w t
unfolding padded
padded_full b w t h = ap (λ (k : ℕ). replicate k b ++ t) (let z : 0 ≡ w - length t = omega arith in z)

module _ (w : ℕ) {a b t : List ℕ} {m : ℕ} (e : Adds a 0 t b m) where
  pub clock_long : w ≤ m → Starts b (padded 48 w t) m
  clock_long h = let s = started e in told s (padded_full 48 w t (let q = s.ends in omega arith))

  pub clock_short : {c d : List ℕ} {i r : ℕ} → Adds b 0 (replicate (w - m) 48) c i → Adds c i t d r → Starts d (padded 48 w t) r
  unfolding padded
  clock_short f g = told (started (then f g)) (ap (λ (k : ℕ). replicate (w - k) 48 ++ t) (started e).ends)

-- with its point, or without it
module _ (w : ℕ) (t : Bool) (n : ℕ) {a b : List ℕ} {m : ℕ} (e : Adds a 0 (sign_of t ++ with_point n) b m) where
  pub coordinate_short : m ≤ w → Starts b (coordinate_of w t n) m
  unfolding coordinate_of pick
  coordinate_short h = let s = started e in let q = s.ends in told s (rw (le-leb (length (sign_of t ++ with_point n)) w (omega arith)))

  pub coordinate_long : w < m → {c : List ℕ} {r : ℕ} → Adds b 0 (sign_of t ++ decimal_of n) c r → Starts c (coordinate_of w t n) r
  unfolding coordinate_of pick
  coordinate_long h f =
      let q = (started e).ends in
      told (started f) (rw (lt-leb (length (sign_of t ++ with_point n)) w (omega arith)))

pub water_tenths : (n : ℕ) → n ≤ 999 → water_figures n ≡ with_point n
unfolding water_figures pick
water_tenths n h = rw (le-leb n 999 h)

pub water_metres : (n : ℕ) → 999 < n → water_figures n ≡ decimal_of (n / 10)
unfolding water_figures pick
water_metres n h = rw (lt-leb n 999 h)

-- by the rule of the field
pub ruleset figures = (to_z-of_z, started, by_sign_is)

-- the bytes of a number
pub bytes_one : (n v : ℕ) → 1 ≤ n → n ≤ 1 → bytes_of n v ≡ v ∷ []
unfolding bytes_of
bytes_one zero v h g = absurd (omega arith)
bytes_one (suc zero) v h g = refl
bytes_one (suc (suc n)) v h g = absurd (omega arith)

pub bytes_more : (n v : ℕ) → 1 < n → bytes_of n v ≡ bytes_of (n - 1) (v / 256) ++ (v % 256 ∷ [])
unfolding bytes_of
bytes_more zero v h = absurd (omega arith)
bytes_more (suc zero) v h = absurd (omega arith)
bytes_more (suc (suc n)) v h = ap (λ (k : ℕ). bytes_of k (v / 256) ++ (v % 256 ∷ [])) (let z : suc n ≡ suc (suc n) - 1 = omega arith in z)

pub bytes_long : (n v : ℕ) → length (bytes_of n v) ≡ n
unfolding bytes_of
bytes_long zero v = refl
bytes_long (suc zero) v = refl
bytes_long (suc (suc n)) v =
    length-append (bytes_of (suc n) (v / 256)) (v % 256 ∷ [])
    ∙ rw (bytes_long (suc n) (v / 256)) (let z : suc n + 1 ≡ suc (suc n) = omega arith in z)

pub small_one : (n v : ℕ) → n ≤ 1 → v < 256 ^ n → v < 256
small_one zero v h g = omega arith
small_one (suc zero) v h g = omega arith
small_one (suc (suc n)) v h g = absurd (omega arith)

pub small_more : (n v : ℕ) → 1 < n → v < 256 ^ n → v / 256 < 256 ^ (n - 1)
small_more zero v h g = absurd (omega arith)
small_more (suc zero) v h g = absurd (omega arith)
small_more (suc (suc n)) v h g =
    let e : suc (suc n) - 1 ≡ suc n = omega arith in
    rw e (let q = pow-suc 256 (suc n) in omega arith)

-- one number or two
pub text_short : (w hi lo : ℕ) → w ≤ 8 → text_of w hi lo ≡ bytes_of w lo
unfolding text_of pick
text_short w hi lo h = rw (le-leb w 8 h)

pub text_long : (w hi lo : ℕ) → 8 < w → text_of w hi lo ≡ bytes_of (w - 8) hi ++ bytes_of 8 lo
unfolding text_of pick
text_long w hi lo h = rw (lt-leb w 8 h)
