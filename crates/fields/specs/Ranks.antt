-- The bytes of a medium for characters.
--   Ranks g    = g gives each character a byte of its own, or 0; of a blank and of a digit the low half stays
--   Told g l   = no column of the line has a character without a byte
use Rattle.std.specs.Prelude.{ℕ, ◌%◌, ◌<◌, ◌≡◌, List, get_or}
use Rattle.rules.specs.MeetsFields.{Digit}

pub record Ranks (g : ℕ → ℕ) : Type 0 where
  pub none : g 0 ≡ 0
  pub fits : (c : ℕ) → c < 256 → g c < 256
  pub apart : (c d : ℕ) → c < 256 → d < 256 → (g c ≡ 0 → ⊥) → g c ≡ g d → c ≡ d
  pub blanks : g 32 % 16 ≡ 0
  pub digits : (c : ℕ) → Digit c → g c % 16 ≡ c % 16

abbrev pub Told : (ℕ → ℕ) → List ℕ → Type 0
Told g l = (i : ℕ) → g (get_or l i 0) ≡ 0 → get_or l i 0 ≡ 0
