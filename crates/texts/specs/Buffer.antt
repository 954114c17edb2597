-- Bytes that are written into a lent buffer.
--   over p o           = the bytes o with p in their first places; o where p has no room
--   Adds b n t b' m    = after the first n bytes of b come those of t, which end at m; the bytes from m on stay
use Rattle.std.specs.Prelude.{ℕ, ◌+◌, ◌≡◌, List, ◌++◌, leb, length, take, drop}
use Rattle.rules.specs.Places.{pick}

unfoldable pub over : List ℕ → List ℕ → List ℕ
over p o = pick (leb (length p) (length o)) (p ++ drop (length p) o) o

pub record Adds (b : List ℕ) (n : ℕ) (t : List ℕ) (b' : List ℕ) (m : ℕ) : Type 0 where
  pub ends : m ≡ n + length t
  pub front : take m b' ≡ take n b ++ t
  pub rest : drop m b' ≡ drop m b
