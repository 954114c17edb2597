-- A point and a relation as sixteen numbers, those of `Carried`.
--   point_takes b v, relation_takes v = 22 of their values
--   point_text b v, relation_text v   = their lines
--   Narrow v                        = what a relation covers has numbers of 32 bits
use Rattle.std.specs.Prelude.{ℕ, ◌^◌, ◌<◌, Bool, List}
use Rattle.rules.specs.Plan.{file_x}
use Rattle.rules.specs.Layout.{sps93}
use Rattle.rules.specs.Lines.{letter, kind_of}
use Rattle.rules.specs.Rows.{point_rows, relation_rows}
use Rattle.rules.specs.Writer.{point_goes, relation_goes, line_of}
use Rattle.rules.specs.Carried.{bytes_of, state_given, point_given, relation_given, reach_given}

unfoldable pub point_takes : ℕ → (ℕ → ℕ) → Bool
point_takes b v = point_goes b (bytes_of 2 (v 4)) (state_given (v 5)) (point_given v)

unfoldable pub point_text : ℕ → (ℕ → ℕ) → List ℕ
point_text b v = line_of (letter (kind_of b)) (point_rows sps93 (kind_of b)) (point_given v)

unfoldable pub relation_takes : (ℕ → ℕ) → Bool
relation_takes v = relation_goes (relation_given v) (reach_given v)

unfoldable pub relation_text : (ℕ → ℕ) → List ℕ
relation_text v = line_of (letter file_x) (relation_rows sps93) (relation_given v)

pub record Narrow (v : ℕ → ℕ) : Type 0 where
  pub number : v 1 < 2 ^ 32
  pub from : v 8 < 2 ^ 32
  pub upto : v 9 < 2 ^ 32
  pub step : v 10 < 2 ^ 32
  pub from_receiver : v 13 < 2 ^ 32
  pub to_receiver : v 14 < 2 ^ 32
  pub receiver_index : v 15 < 2 ^ 32
