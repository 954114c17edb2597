-- The fields of a key, as the code reads them from its columns.
use Prim.Native.Nat.{ℕ}
use mathlib.Core.Path.{◌≡◌, refl, sym, ap}
use mathlib.Core.List.{List}
use lib.Dec.{lit≤}
use lib.ListN.{take, drop}
use Rattle.rules.specs.Text.{cols}
use Rattle.rules.specs.Layout.{sps93, at}
use Rattle.fields.specs.Packed.{packed}
use Rattle.fields.proofs.Packed.{name_hi, name_lo}

module _ (l : List ℕ) where
  pub name_first : packed (cols l 2 9) ≡ packed (take 8 (at l sps93.name))
  unfolding at sps93
  name_first = ap packed (sym (name_hi l 2 (lit≤ tt)))

  pub name_last : packed (cols l 10 17) ≡ packed (drop 8 (at l sps93.name))
  unfolding at sps93
  name_last = ap packed (sym (name_lo l 2 (lit≤ tt)))

  pub point_columns : cols l 18 25 ≡ at l sps93.point
  unfolding at sps93
  point_columns = refl

  pub index_column : cols l 26 26 ≡ at l sps93.index
  unfolding at sps93
  index_column = refl

  pub number_columns : cols l 8 11 ≡ at l sps93.number
  unfolding at sps93
  number_columns = refl

  pub tape_columns : cols l 2 7 ≡ at l sps93.tape
  unfolding at sps93
  tape_columns = refl

  pub source_first : packed (cols l 14 21) ≡ packed (take 8 (at l sps93.source))
  unfolding at sps93
  source_first = ap packed (sym (name_hi l 14 (lit≤ tt)))

  pub source_last : packed (cols l 22 29) ≡ packed (drop 8 (at l sps93.source))
  unfolding at sps93
  source_last = ap packed (sym (name_lo l 14 (lit≤ tt)))

  pub receiver_first : packed (cols l 48 55) ≡ packed (take 8 (at l sps93.receiver))
  unfolding at sps93
  receiver_first = ap packed (sym (name_hi l 48 (lit≤ tt)))

  pub receiver_last : packed (cols l 56 63) ≡ packed (drop 8 (at l sps93.receiver))
  unfolding at sps93
  receiver_last = ap packed (sym (name_lo l 48 (lit≤ tt)))

  pub shot_columns : cols l 30 37 ≡ at l sps93.shot
  unfolding at sps93
  shot_columns = refl

  pub shot_index_column : cols l 38 38 ≡ at l sps93.shot_index
  unfolding at sps93
  shot_index_column = refl

  pub receiver_index_column : cols l 80 80 ≡ at l sps93.receiver_index
  unfolding at sps93
  receiver_index_column = refl

pub ruleset columns = (
  name_first,
  name_last,
  point_columns,
  index_column,
  number_columns,
  tape_columns,
  source_first,
  source_last,
  shot_columns,
  shot_index_column,
  receiver_first,
  receiver_last,
  receiver_index_column,
)
