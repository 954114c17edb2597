-- Numbers read fast, where the form check has passed them: by the low half of each byte, a blank's 0, a digit's its value.
--   figures bs  = the number of a field
--   low_index bs = an index: 1 where its low half is 0
use Rattle.std.specs.Prelude.{ℕ, ◌+◌, ◌*◌, ◌%◌, List, [], ◌∷◌, eqb}
use Rattle.rules.specs.Places.{pick}
use Rattle.rules.specs.Text.{col}

unfoldable pub figures_after : ℕ → List ℕ → ℕ
figures_after v [] = v
figures_after v (b ∷ bs) = figures_after (10 * v + b % 16) bs

abbrev pub figures : List ℕ → ℕ
figures bs = figures_after 0 bs

unfoldable pub low_index : List ℕ → ℕ
low_index bs = let d = col bs 1 % 16 in pick (eqb d 0) 1 d
