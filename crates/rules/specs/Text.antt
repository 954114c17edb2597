-- Text in columns, which count from 1 as in the paper.
--   col l c      = the byte in column c of l; 0 beyond its end
--   front n l    = the first n bytes of l; 0 beyond its end
--   cols l a b   = columns a to b of l
--   same a b     = the same bytes
--   less a b     = a comes before b by bytes
--   blank a      = blanks alone
--   bytes t      = the bytes of a text
--   one_of t b    = b is a byte of the text
use Rattle.std.specs.Prelude.{ℕ, zero, suc, ◌+◌, ◌-◌, Bool, true, false, ◌&&◌, ◌||◌, List, [], ◌∷◌, eqb, ltb, get_or, drop}
use Prim.Native.String.{String, [] as empty, ◌∷◌ as ◌∷ₛ◌}
use Prim.Native.Char.{code}

unfoldable pub col : List ℕ → ℕ → ℕ
col l c = get_or l (c - 1) 0

unfoldable pub front : ℕ → List ℕ → List ℕ
front zero l = []
front (suc n) [] = 0 ∷ front n []
front (suc n) (x ∷ xs) = x ∷ front n xs

unfoldable pub cols : List ℕ → ℕ → ℕ → List ℕ
cols l a b = front (b + 1 - a) (drop (a - 1) l)

unfoldable pub same : List ℕ → List ℕ → Bool
same [] [] = true
same [] (y ∷ ys) = false
same (x ∷ xs) [] = false
same (x ∷ xs) (y ∷ ys) = eqb x y && same xs ys

unfoldable pub less : List ℕ → List ℕ → Bool
less xs [] = false
less [] (y ∷ ys) = true
less (x ∷ xs) (y ∷ ys) = ltb x y || (eqb x y && less xs ys)

unfoldable pub blank : List ℕ → Bool
blank [] = true
blank (b ∷ bs) = eqb b 32 && blank bs

unfoldable pub bytes : String → List ℕ
bytes empty = []
bytes (◌∷ₛ◌ c s) = code c ∷ bytes s

unfoldable pub one_of : String → ℕ → Bool
one_of empty b = false
one_of (◌∷ₛ◌ c s) b = eqb b (code c) || one_of s b
