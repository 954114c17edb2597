-- Names and tapes as numbers to the base 256: equal where all their columns are, and in the order of their bytes.
--   Alike xs ys   = two texts of one length, of bytes
--   packed_same   = their numbers are equal where they are, and packed_less = less where they are
--   names_same    = so what `==` answers of two names is `same_name`, and names_less = their numbers' order is `less_name`
use Prim.Native.Nat.{ℕ, zero, suc, ◌+◌, ◌-◌, ◌*◌, ◌≤◌, ◌<◌}
use native.Mathlib.Omega.{arith}
use mathlib.Core.Path.{◌≡◌, refl, sym, ap, ap₂, ◌∙◌}
use mathlib.Core.Bool.{Bool, ◌&&◌, ◌||◌, and-true, and_assoc}
use mathlib.Core.List.{List, [], ◌∷◌}
use lib.Dec.{eqb, ltb}
use lib.ListN.{take, drop}
use Rattle.rules.specs.Text.{cols, same, less}
use Rattle.rules.specs.Names.{text, ranked, same_name, less_name}
use Rattle.rules.proofs.Columns.{cols_take, cols_drop}
use Rattle.fields.specs.Packed.{packed_after, packed, name_of}
use Rattle.fields.proofs.Pairs.{pair_same, pair_less, first_by, or_never}

module _ (l : List ℕ) (a : ℕ) (o : 1 ≤ a) where
  pub name_hi : take 8 (cols l a (a + 15)) ≡ cols l a (a + 7)
  name_hi = cols_take l a o (a + 15) 8 (omega arith) ∙ ap (cols l a) (let z : a + 8 - 1 ≡ a + 7 = omega arith in z)

  pub name_lo : drop 8 (cols l a (a + 15)) ≡ cols l (a + 8) (a + 15)
  name_lo = cols_drop l a o (a + 15) 8 (omega arith)

abbrev pub Alike : List ℕ → List ℕ → Type 0
Alike [] [] = Unit {0}
Alike [] (y ∷ ys) = ⊥
Alike (x ∷ xs) [] = ⊥
Alike (x ∷ xs) (y ∷ ys) = ((x < 256) × (y < 256)) × Alike xs ys

-- all digits
pub packed_same : (v w : ℕ) (xs ys : List ℕ) → Alike xs ys → eqb (packed_after v xs) (packed_after w ys) ≡ (eqb v w && same xs ys)
unfolding packed_after same
packed_same v w [] [] a = sym (and-true (eqb v w))
packed_same v w [] (y ∷ ys) a = absurd a
packed_same v w (x ∷ xs) [] a = absurd a
packed_same v w (x ∷ xs) (y ∷ ys) a =
    packed_same (256 * v + x) (256 * w + y) xs ys a.1
    ∙ ap (λ (b : Bool). b && same xs ys) (pair_same 256 v x w y a.0.0 a.0.1)
    ∙ and_assoc (eqb v w) (eqb x y) (same xs ys)

pub packed_less : (v w : ℕ) (xs ys : List ℕ) → Alike xs ys
    → ltb (packed_after v xs) (packed_after w ys) ≡ (ltb v w || (eqb v w && less xs ys))
unfolding packed_after less
packed_less v w [] [] a = or_never (ltb v w) (eqb v w)
packed_less v w [] (y ∷ ys) a = absurd a
packed_less v w (x ∷ xs) [] a = absurd a
packed_less v w (x ∷ xs) (y ∷ ys) a =
    packed_less (256 * v + x) (256 * w + y) xs ys a.1
    ∙ ap₂ (λ (b c : Bool). b || (c && less xs ys)) (pair_less 256 v x w y a.0.0 a.0.1) (pair_same 256 v x w y a.0.0 a.0.1)
    ∙ first_by (ltb v w) (eqb v w) (ltb x y) (eqb x y) (less xs ys)

-- the first n columns, then the others
alike_take : (n : ℕ) (xs ys : List ℕ) → Alike xs ys → Alike (take n xs) (take n ys)
alike_take zero xs ys a = tt
alike_take (suc n) [] [] a = tt
alike_take (suc n) [] (y ∷ ys) a = absurd a
alike_take (suc n) (x ∷ xs) [] a = absurd a
alike_take (suc n) (x ∷ xs) (y ∷ ys) a = (a.0, alike_take n xs ys a.1)

alike_drop : (n : ℕ) (xs ys : List ℕ) → Alike xs ys → Alike (drop n xs) (drop n ys)
alike_drop zero xs ys a = a
alike_drop (suc n) [] [] a = tt
alike_drop (suc n) [] (y ∷ ys) a = absurd a
alike_drop (suc n) (x ∷ xs) [] a = absurd a
alike_drop (suc n) (x ∷ xs) (y ∷ ys) a = alike_drop n xs ys a.1

same_parts : (n : ℕ) (xs ys : List ℕ) → Alike xs ys → (same (take n xs) (take n ys) && same (drop n xs) (drop n ys)) ≡ same xs ys
unfolding same
same_parts zero xs ys a = refl
same_parts (suc n) [] [] a = refl
same_parts (suc n) [] (y ∷ ys) a = absurd a
same_parts (suc n) (x ∷ xs) [] a = absurd a
same_parts (suc n) (x ∷ xs) (y ∷ ys) a =
    and_assoc (eqb x y) (same (take n xs) (take n ys)) (same (drop n xs) (drop n ys))
    ∙ ap (λ (b : Bool). eqb x y && b) (same_parts n xs ys a.1)

less_parts : (n : ℕ) (xs ys : List ℕ) → Alike xs ys
    → (less (take n xs) (take n ys) || (same (take n xs) (take n ys) && less (drop n xs) (drop n ys))) ≡ less xs ys
unfolding same less
less_parts zero xs ys a = refl
less_parts (suc n) [] [] a = refl
less_parts (suc n) [] (y ∷ ys) a = absurd a
less_parts (suc n) (x ∷ xs) [] a = absurd a
less_parts (suc n) (x ∷ xs) (y ∷ ys) a =
    first_by (ltb x y) (eqb x y) (less (take n xs) (take n ys)) (same (take n xs) (take n ys)) (less (drop n xs) (drop n ys))
    ∙ ap (λ (b : Bool). ltb x y || (eqb x y && b)) (less_parts n xs ys a.1)

-- the bytes of a disc file are their own rank
ranked_self : (xs : List ℕ) → ranked (λ b. b) xs ≡ xs
unfolding ranked
ranked_self [] = refl
ranked_self (x ∷ xs) = ap (λ (r : List ℕ). x ∷ r) (ranked_self xs)

module _ (xs ys : List ℕ) (a : Alike xs ys) where
  hi_same : eqb (packed (take 8 xs)) (packed (take 8 ys)) ≡ same (take 8 xs) (take 8 ys)
  hi_same = packed_same 0 0 (take 8 xs) (take 8 ys) (alike_take 8 xs ys a)

  pub names_same : (eqb (name_of (text xs)).hi (name_of (text ys)).hi && eqb (name_of (text xs)).lo (name_of (text ys)).lo)
      ≡ same_name (text xs) (text ys)
  unfolding same_name
  names_same =
      ap₂ ◌&&◌ hi_same (packed_same 0 0 (drop 8 xs) (drop 8 ys) (alike_drop 8 xs ys a)) ∙ same_parts 8 xs ys a

  pub names_less : (ltb (name_of (text xs)).hi (name_of (text ys)).hi
      || (eqb (name_of (text xs)).hi (name_of (text ys)).hi && ltb (name_of (text xs)).lo (name_of (text ys)).lo))
      ≡ less_name (λ b. b) (text xs) (text ys)
  unfolding less_name
  names_less =
      rw (
        ranked_self xs,
        ranked_self ys,
        packed_less 0 0 (take 8 xs) (take 8 ys) (alike_take 8 xs ys a),
        hi_same,
        packed_less 0 0 (drop 8 xs) (drop 8 ys) (alike_drop 8 xs ys a),
      )
      (less_parts 8 xs ys a)
