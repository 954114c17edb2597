-- Texts of bytes.
--   Small l    = a line's columns hold bytes
--   Long n xs  = n bytes
--   Wide m     = a name of 16 bytes
use Rattle.std.specs.Prelude.{ℕ, zero, suc, ◌<◌, List, [], ◌∷◌, get_or}
use Rattle.rules.specs.Names.{Name, text}

abbrev pub Small : List ℕ → Type 0
Small l = (i : ℕ) → get_or l i 0 < 256

abbrev pub Long : ℕ → List ℕ → Type 0
Long zero [] = Unit {0}
Long zero (x ∷ xs) = ⊥
Long (suc n) [] = ⊥
Long (suc n) (x ∷ xs) = (x < 256) × Long n xs

abbrev pub Wide : Name → Type 0
Wide (text xs) = Long 16 xs
