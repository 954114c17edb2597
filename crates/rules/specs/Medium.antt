-- A medium: how the bytes of a file are lines of 80 columns.
--   Medium          = the bytes of a line; how many lines end a file; which bytes it takes, and as which characters
--   sheet M L f     = the bytes of a file as a sheet
use Rattle.std.specs.Prelude.{ℕ, ◌-◌, ◌*◌, ◌/◌, ◌%◌, min, Bool, List, length, take, drop}
use Rattle.rules.specs.Names.{ranked}
use Rattle.rules.specs.Layout.{Layout}
use Rattle.rules.specs.Sheet.{Sheet}

pub record Medium : Type 0 where
  -- the bytes of a line, and how many lines stand after those of the set
  pub stride : ℕ
  pub closing : ℕ
  -- whether a byte may stand in a column, its character, and the byte of a character
  pub takes : ℕ → ℕ → Bool
  pub char_of : ℕ → ℕ
  pub byte_of : ℕ → ℕ
  -- whether a line says that the set's lines have ended
  pub ends : List ℕ → Bool

unfoldable pub sheet : Medium → Layout → List ℕ → Sheet
sheet M L f =
    record {
      count = length f / M.stride - M.closing;
      after = min (length f / M.stride) M.closing;
      left = length f % M.stride;
      closing = M.closing;
      ends = λ k. M.ends (take M.stride (drop (M.stride * k) f));
      row = λ k. ranked M.char_of (take 80 (drop (M.stride * k) f));
      raw = λ k. take M.stride (drop (M.stride * k) f);
      takes = M.takes;
      rank = M.byte_of;
      layout = L;
    }
