-- Bytes as one number to the base 256, so that names and tapes compare as numbers.
--   packed_after v bs = the number of bs after those that make v
--   packed bs        = the number of bs
--   name_of n         = a name of 16 columns as two numbers of 8
use Rattle.std.specs.Prelude.{ℕ, ◌+◌, ◌*◌, List, [], ◌∷◌, take, drop}
use Rattle.rules.specs.Names.{Name as PaperName, text}
use Rattle.fields.specs.declared.Name.{Name}

unfoldable pub packed_after : ℕ → List ℕ → ℕ
packed_after v [] = v
packed_after v (b ∷ bs) = packed_after (256 * v + b) bs

abbrev pub packed : List ℕ → ℕ
packed bs = packed_after 0 bs

abbrev pub name_of : PaperName → Name
name_of (text bs) = record { hi = packed (take 8 bs); lo = packed (drop 8 bs) }
