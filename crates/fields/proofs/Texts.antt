-- Texts of bytes, and what their numbers tell.
--   cols_long     = columns of a line of bytes
--   names_equal   = names of bytes are the same where their two numbers are; names_below = and in the order of their numbers
--   texts_equal   = so are texts of n bytes by their one number
use Prim.Native.Nat.{ℕ, zero, suc, ◌+◌, ◌-◌, ◌*◌, ◌^◌, ◌≤◌, ◌<◌}
use native.Mathlib.Nat.{pow-suc, add-zero}
use native.Mathlib.Omega.{arith}
use mathlib.Core.Path.{◌≡◌, sym, subst}
use mathlib.Core.Bool.{◌&&◌, ◌||◌}
use mathlib.Core.List.{List, [], ◌∷◌}
use lib.Dec.{eqb, ltb}
use Rattle.rules.specs.Text.{cols, same}
use Rattle.rules.specs.Names.{Name, text, same_name, less_name}
use Rattle.rules.proofs.Columns.{cols_end, cols_step}
use Rattle.fields.specs.Packed.{packed_after, packed, name_of}
use Rattle.fields.specs.Texts.{Small, Long, Wide}
use Rattle.fields.proofs.Packed.{Alike, packed_same, names_same, names_less}

alike : (n : ℕ) (xs ys : List ℕ) → Long n xs → Long n ys → Alike xs ys
alike zero [] [] a b = tt
alike zero [] (y ∷ ys) a b = absurd b
alike zero (x ∷ xs) ys a b = absurd a
alike (suc n) [] ys a b = absurd a
alike (suc n) (x ∷ xs) [] a b = absurd b
alike (suc n) (x ∷ xs) (y ∷ ys) a b = ((a.0, b.0), alike n xs ys a.1 b.1)

pub names_equal : (m n : Name) → Wide m → Wide n
    → (eqb (name_of m).hi (name_of n).hi && eqb (name_of m).lo (name_of n).lo) ≡ same_name m n
names_equal (text xs) (text ys) a b = names_same xs ys (alike 16 xs ys a b)

pub names_below : (m n : Name) → Wide m → Wide n
    → (ltb (name_of m).hi (name_of n).hi || (eqb (name_of m).hi (name_of n).hi && ltb (name_of m).lo (name_of n).lo))
    ≡ less_name (λ b. b) m n
names_below (text xs) (text ys) a b = names_less xs ys (alike 16 xs ys a b)

pub texts_equal : (n : ℕ) (xs ys : List ℕ) → Long n xs → Long n ys → eqb (packed xs) (packed ys) ≡ same xs ys
texts_equal n xs ys a b = packed_same 0 0 xs ys (alike n xs ys a b)

-- n bytes make a number below 256 to the n
pub packed_below : (n m v : ℕ) (xs : List ℕ) → Long n xs → v < 256 ^ m → packed_after v xs < 256 ^ (m + n)
unfolding packed_after
packed_below zero m v [] a h = rw add-zero h
packed_below zero m v (x ∷ xs) a h = absurd a
packed_below (suc n) m v [] a h = absurd a
packed_below (suc n) m v (x ∷ xs) a h =
    let p = pow-suc 256 m in
    let b = a.0 in
    let g : 256 * v + x < 256 ^ suc m = omega arith in
    subst (λ (e : ℕ). packed_after (256 * v + x) xs < 256 ^ e) (let z : suc m + n ≡ m + suc n = omega arith in z)
    (packed_below n (suc m) (256 * v + x) xs a.1 g)

module _ (l : List ℕ) (s : Small l) where
  pub cols_long : (n a : ℕ) → 1 ≤ a → Long n (cols l a (a + n - 1))
  cols_long zero a o = rw (cols_end l a o (a + 0 - 1) (omega arith)) tt
  cols_long (suc n) a o =
      let e : a + suc n - 1 ≡ a + 1 + n - 1 = omega arith in
      rw (cols_step l a o (a + suc n - 1) (omega arith))
      (s (a - 1), subst (λ (b : ℕ). Long n (cols l (a + 1) b)) (sym e) (cols_long n (a + 1) (omega arith)))
