-- A sheet: a file as the rules see it, whatever its medium. Lines count from 0 here, so that the paper's line is k + 1.
--   most_lines   = at most so many lines a file
--   all_lines f  = its whole lines: those of the set, and those that end the file
use Rattle.std.specs.Prelude.{ℕ, ◌+◌, Bool, List}
use Rattle.rules.specs.Layout.{Layout}

unfoldable pub most_lines : ℕ
most_lines = 9999

pub record Sheet : Type 0 where
  -- how many whole lines of the set, how many lines after them, and how many bytes are left over after all
  pub count : ℕ
  pub after : ℕ
  pub left : ℕ
  -- how many lines end a file of the medium, and whether line k says that the set's lines have ended
  pub closing : ℕ
  pub ends : ℕ → Bool
  -- line k as 80 columns, and in the medium's own bytes
  pub row : ℕ → List ℕ
  pub raw : ℕ → List ℕ
  -- the medium takes that byte in that column of its own
  pub takes : ℕ → ℕ → Bool
  -- the medium's own byte of a character, by which names are in order
  pub rank : ℕ → ℕ
  -- the columns by which its lines are read
  pub layout : Layout

abbrev pub all_lines : Sheet → ℕ
all_lines f = f.count + f.after
