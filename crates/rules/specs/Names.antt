-- "Names compare over all columns of the field, case and blanks included."
--   Name              = what a line name is: the bytes of all its columns
--   ranked rank a     = bytes as the medium has them
--   same_name a b      = the same name
--   less_name rank a b = a stands before b, by the medium's own bytes
use Rattle.std.specs.Prelude.{ℕ, Bool, List, [], ◌∷◌}
use Rattle.rules.specs.Text.{same, less}

pub data Name : Type 0 where
  text : List ℕ → Name

unfoldable pub ranked : (ℕ → ℕ) → List ℕ → List ℕ
ranked rank [] = []
ranked rank (b ∷ bs) = rank b ∷ ranked rank bs

unfoldable pub same_name : Name → Name → Bool
same_name (text a) (text b) = same a b

unfoldable pub less_name : (ℕ → ℕ) → Name → Name → Bool
less_name rank (text a) (text b) = less (ranked rank a) (ranked rank b)
