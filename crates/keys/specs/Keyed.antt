-- The lines of a file by their keys.
--   takes_at t f k   = line k of a sheet has a key of kind t
--   key_at t f k     = its key
--   holds_key t f y k = line k has a key of kind t, and it is y
--   takes_in, keys_in = the same of the bytes of a file
use Rattle.std.specs.Prelude.{ℕ, Bool, ◌&&◌, List, ltb}
use Rattle.rules.specs.Sheet.{Sheet}
use Rattle.lines.specs.Reading.{sheet_of}
use Rattle.keys.specs.Compare.{same_key}
use Rattle.keys.specs.Keys.{line_at, takes_line, key_of}
use Rattle.keys.specs.declared.By.{By}
use Rattle.keys.specs.declared.Key.{Key}
use Rattle.keys.specs.declared.Keyed.{Keyed}

unfoldable pub takes_at : By → Sheet → ℕ → Bool
takes_at t f k = ltb k f.count && takes_line t f.layout (f.row k)

unfoldable pub key_at : By → Sheet → ℕ → Key
key_at t f k = key_of t f.layout (line_at f k)

unfoldable pub holds_key : By → Sheet → Key → ℕ → Bool
holds_key t f y k = same_key (key_at t f k) y && takes_at t f k

abbrev pub takes_in : Keyed → List ℕ → ℕ → Bool
takes_in z f = takes_at z.by (sheet_of z.how f)

abbrev pub keys_in : Keyed → List ℕ → ℕ → Key
keys_in z f = key_at z.by (sheet_of z.how f)
