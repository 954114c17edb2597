-- Lines of a file and their keys.
--   key_below                              = the key of a line of the file
--   takes_point, takes_receiver, takes_record = which lines have one
--   key_line, takes_line_lem, takes_beyond     = the same as the code has them: by the text of 1993
use Prim.Native.Nat.{ℕ, ◌≤◌, ◌<◌}
use mathlib.Core.Path.{◌≡◌}
use mathlib.Core.Bool.{false}
use mathlib.Core.List.{List}
use borrow.Author.Tests.{lt-ltb, le-ltb}
use Rattle.rules.specs.Places.{pick}
use Rattle.rules.specs.Layout.{sps93}
use Rattle.rules.specs.Sheet.{Sheet}
use Rattle.rules.specs.Lines.{is_data, is_point}
use Rattle.rules.specs.Names.{ranked}
use Rattle.lines.specs.Reading.{medium_of, sheet_of}
use Rattle.lines.specs.declared.Reading.{Reading}
use Rattle.lines.proofs.Sheets.{layout_is, row_own}
use Rattle.form.specs.Known.{owned}
use Rattle.keys.specs.Keys.{line_at, is_point_line, takes_line, key_of}
use Rattle.keys.specs.Keyed.{takes_at, key_at}
use Rattle.keys.specs.declared.By.{By}
use Rattle.keys.specs.declared.By.TheVariants.{Points, Receivers, Records}

module _ (f : Sheet) (k : ℕ) (h : k < f.count) where
  pub key_below : (t : By) → key_at t f k ≡ key_of t f.layout (owned f k)
  unfolding key_at line_at pick
  key_below t = rw (lt-ltb k f.count h)

  pub takes_point : takes_at Points f k ≡ is_point f k
  unfolding takes_at takes_line is_point_line is_point is_data
  takes_point = rw (lt-ltb k f.count h)

  pub takes_receiver : takes_at Receivers f k ≡ is_point f k
  unfolding takes_at takes_line is_point_line is_point is_data
  takes_receiver = rw (lt-ltb k f.count h)

  pub takes_record : takes_at Records f k ≡ is_data f k
  unfolding takes_at takes_line is_data
  takes_record = rw (lt-ltb k f.count h)

pub takes_beyond : (t : By) (f : Sheet) (k : ℕ) → f.count ≤ k → false ≡ takes_at t f k
unfolding takes_at
takes_beyond t f k h = rw (le-ltb k f.count h)

module _ (how : Reading) (f : List ℕ) (t : By) (k : ℕ) where
  pub key_here : key_at t (sheet_of how f) k ≡ key_of t sps93 (line_at (sheet_of how f) k)
  unfolding key_at
  key_here = rw (layout_is how f)

  pub takes_line_lem : (l : List ℕ) → k < (sheet_of how f).count → l ≡ owned (sheet_of how f) k
      → takes_line t sps93 (ranked (medium_of how).char_of l) ≡ takes_at t (sheet_of how f) k
  unfolding takes_at
  takes_line_lem l h e = rw (e, ← row_own how f k, layout_is how f, lt-ltb k (sheet_of how f).count h)
