-- The key of a relation line's receiver, as the code has it.
--   key_is         = the key of one of its receivers
--   first_row_is   = so the row of the first one is that of its key
--   lowest_read, highest_read = the lowest and the highest receiver
use Prim.Native.Nat.{ℕ, min, max}
use mathlib.Core.Path.{◌≡◌, ap, ap₂, ◌∙◌}
use mathlib.Core.List.{List}
use Rattle.rules.specs.Layout.{sps93}
use Rattle.rules.specs.Sheet.{Sheet}
use Rattle.rules.specs.Relations.{reach_at}
use Rattle.rules.specs.Cover.{lowest, highest}
use Rattle.rules.specs.Text.{cols}
use Rattle.fields.specs.Figures.{figures}
use Rattle.lines.specs.declared.Reading.{Reading}
use Rattle.lines.specs.Reading.{sheet_of}
use Rattle.lines.proofs.Sheets.{layout_is}
use Rattle.form.specs.Known.{owned, Known}
use Rattle.keys.specs.declared.Key.{Key}
use Rattle.keys.specs.Keys.{receiver_key}
use Rattle.keys.specs.Held.{RelationLine}
use Rattle.keys.proofs.Read.{from_receiver_at, to_receiver_at}
use Rattle.receivers.specs.Rows.{row_of, first_row}
use Rattle.receivers.proofs.There.{key_on}

module _ (how : Reading) (x : List ℕ) (k : ℕ) where
  pub key_is : (n : ℕ) (y : Key) → y ≡ receiver_key sps93 (owned (sheet_of how x) k) n → y ≡ key_on (sheet_of how x) k n
  key_is n y z = rw (layout_is how x) z

  pub first_row_is : (r : Sheet) (o : List ℕ) (n : ℕ) → n ≡ lowest (reach_at (sheet_of how x) k)
      → (y : Key) → y ≡ receiver_key sps93 (owned (sheet_of how x) k) n → (e : ℕ) → e ≡ row_of r o y → e ≡ first_row r o (sheet_of how x) k
  unfolding first_row
  first_row_is r o n f y z e g = g ∙ ap (row_of r o) (key_is n y z ∙ ap (key_on (sheet_of how x) k) f)

-- the lowest and the highest receiver, as the code reads them from the line's columns
module _ (how : Reading) (x : List ℕ) (w : Known 3 (sheet_of how x)) (k : ℕ) (h : RelationLine (sheet_of how x) k) (l : List ℕ)
    (e : l ≡ owned (sheet_of how x) k) (m n : ℕ) (p : m ≡ figures (cols l 64 71)) (q : n ≡ figures (cols l 72 79)) where
  pub lowest_read : min m n ≡ lowest (reach_at (sheet_of how x) k)
  lowest_read = ap₂ min (p ∙ from_receiver_at how x w k h l e) (q ∙ to_receiver_at how x w k h l e)

  pub highest_read : max m n ≡ highest (reach_at (sheet_of how x) k)
  highest_read = ap₂ max (p ∙ from_receiver_at how x w k h l e) (q ∙ to_receiver_at how x w k h l e)
