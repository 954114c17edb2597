-- Numbers of at most 10 columns, as the code holds them.
use Prim.Native.Nat.{ℕ, ◌+◌, ◌^◌, ◌≤◌, ◌<◌}
use native.Mathlib.Omega.{arith}
use mathlib.Core.Path.{◌≡◌, refl}
use mathlib.Core.Bool.{Bool, true, false}
use mathlib.Core.List.{List}
use lib.ListN.{length}
use Rattle.rules.specs.Text.{cols}
use Rattle.rules.specs.Places.{pick}
use Rattle.rules.specs.Numbers.{Number, malformed, whole, signed, tenths, decimal, then, size}
use Rattle.rules.specs.Kinds.{between, water}
use Rattle.rules.proofs.Fields.{between_is}
use Rattle.rules.proofs.Columns.{cols_length}
use Rattle.rules.proofs.Sizes.{Small, small_more, whole_small, signed_small, tenths_small}

pub below : (n : ℕ) (v : Number) (l : List ℕ) (a b : ℕ) → 1 ≤ a → b + 1 ≤ a + n → Small v (length (cols l a b)) → size v < 10 ^ n
below n v l a b o h s = let e = cols_length l a o b in small_more v (length (cols l a b)) n (omega arith) s

-- so their signed values fit
pub fits_62 : (v : Number) (l : List ℕ) (a b : ℕ) → 1 ≤ a → b + 1 ≤ a + 10 → Small v (length (cols l a b)) → size v < 2 ^ 62
fits_62 v l a b o h s = let e = below 10 v l a b o h s in omega arith

-- a water depth is at most 9990 tenths
in_range : (v : Number) → between 0 999 v ≡ true → size v ≤ 999
unfolding size
in_range v e = let w = (between_is 0 999 v).0 e in rw w.1 w.3

then_range : (v : Number) → between 0 999 v ≡ true → size (then v 0) ≤ 9990
unfolding size then
then_range v e = let w = (between_is 0 999 v).0 e in let h = w.3 in rw w.1 (omega arith)

pub water_62 : (bs : List ℕ) → size (water bs) < 2 ^ 62
unfolding water pick size
water_62 bs = go (between 0 999 (decimal whole bs)) refl (between 0 999 (whole bs)) refl
  where
    go : (a : Bool) → between 0 999 (decimal whole bs) ≡ a → (b : Bool) → between 0 999 (whole bs) ≡ b
        → size (pick a (decimal whole bs) (pick b (then (whole bs) 0) malformed)) < 2 ^ 62
    go true e b f = let h = in_range (decimal whole bs) e in omega arith
    go false e true f = let h = then_range (whole bs) f in omega arith
    go false e false f = omega arith

pub whole_62 : (l : List ℕ) (a b : ℕ) → 1 ≤ a → b + 1 ≤ a + 10 → size (whole (cols l a b)) < 2 ^ 62
whole_62 l a b o h = fits_62 _ l a b o h (whole_small _)

pub signed_62 : (l : List ℕ) (a b : ℕ) → 1 ≤ a → b + 1 ≤ a + 10 → size (signed (cols l a b)) < 2 ^ 62
signed_62 l a b o h = fits_62 _ l a b o h (signed_small _)

pub tenths_62 : (l : List ℕ) (a b : ℕ) → 1 ≤ a → b + 1 ≤ a + 10 → size (tenths whole (cols l a b)) < 2 ^ 62
tenths_62 l a b o h = fits_62 _ l a b o h (tenths_small whole whole_small _)

pub signed_tenths_62 : (l : List ℕ) (a b : ℕ) → 1 ≤ a → b + 1 ≤ a + 10 → size (tenths signed (cols l a b)) < 2 ^ 62
signed_tenths_62 l a b o h = fits_62 _ l a b o h (tenths_small signed signed_small _)

pub ruleset sizes = (whole_62, signed_62, tenths_62, signed_tenths_62, water_62)
