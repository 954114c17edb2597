-- What the low halves of a line's own bytes say, where the form check has passed it: what its fields hold.
--   number_read, index_read          = the number and the index of a receiver or a shot
--   record_read .. to_receiver_read  = the numbers of a relation line, and its indices
use Prim.Native.Nat.{ℕ, ◌<◌}
use mathlib.Core.Path.{◌≡◌, refl}
use mathlib.Core.Bool.{true}
use Rattle.rules.specs.Plan.{file_x}
use Rattle.rules.specs.Layout.{at}
use Rattle.rules.specs.Sheet.{Sheet}
use Rattle.rules.specs.Lines.{is_data, is_point}
use Rattle.rules.specs.Rows.{point_rows, relation_rows}
use Rattle.rules.specs.Points.{point, point_at}
use Rattle.rules.specs.Relations.{reach, reach_at, relation, relation_at}
use Rattle.rules.specs.MeetsForm.{FieldsRead}
use Rattle.rules.proofs.Form.{data_is, point_is}
use Rattle.fields.specs.Figures.{figures, low_index}
use Rattle.form.specs.Known.{owned, Known}
use Rattle.form.proofs.Known.{formed}
use Rattle.keys.proofs.Owned.{number_own, index_own}

module _ (i : ℕ) (f : Sheet) (w : Known i f) (n : i ≡ file_x → ⊥) (k : ℕ) (h : k < f.count) (p : is_point f k ≡ true) where
  pub number_read : figures (at (owned f k) f.layout.point) ≡ (point_at f k).number
  unfolding point_at point point_rows
  number_read =
      let q = (point_is f k).0 p in
      number_own i f w k h f.layout.point 0 f.layout.most_point ((((formed i f w).rule5 k h).1.0 (q.0, n)).1.0 (λ m. q.1 m.1))

  pub index_read : low_index (at (owned f k) f.layout.index) ≡ (point_at f k).index
  unfolding point_at point point_rows
  index_read =
      let q = (point_is f k).0 p in
      index_own i f w k h f.layout.index ((((formed i f w).rule5 k h).1.0 (q.0, n)).1.1.0 (λ m. q.1 m.1))

module _ (x : Sheet) (w : Known file_x x) (k : ℕ) (h : k < x.count) (d : is_data x k ≡ true) where
  fields_read : FieldsRead ⊥ (x.row k) (relation_rows x.layout)
  fields_read = ((formed file_x x w).rule5 k h).1.1 ((data_is x k).0 d, refl)

  pub record_read : figures (at (owned x k) x.layout.number) ≡ (reach_at x k).number
  unfolding reach_at reach relation_rows
  record_read = number_own file_x x w k h x.layout.number 0 x.layout.most_record (fields_read.1.0 (λ m. m.1))

  pub increment_read : low_index (at (owned x k) x.layout.increment) ≡ (relation_at x k).increment
  unfolding relation_at relation relation_rows
  increment_read = index_own file_x x w k h x.layout.increment (fields_read.1.1.0 (λ m. m.1))

  pub instrument_read : low_index (at (owned x k) x.layout.instrument) ≡ (relation_at x k).instrument
  unfolding relation_at relation relation_rows
  instrument_read = index_own file_x x w k h x.layout.instrument (fields_read.1.1.1.0 (λ m. m.1))

  pub shot_read : figures (at (owned x k) x.layout.shot) ≡ (relation_at x k).shot
  unfolding relation_at relation relation_rows
  shot_read = number_own file_x x w k h x.layout.shot 0 x.layout.most_point (fields_read.1.1.1.1.1.0 (λ m. m.1))

  pub shot_index_read : low_index (at (owned x k) x.layout.shot_index) ≡ (relation_at x k).shot_index
  unfolding relation_at relation relation_rows
  shot_index_read = index_own file_x x w k h x.layout.shot_index (fields_read.1.1.1.1.1.1.0 (λ m. m.1))

  pub from_read : figures (at (owned x k) x.layout.from) ≡ (reach_at x k).from
  unfolding reach_at reach relation_rows
  from_read = number_own file_x x w k h x.layout.from 1 x.layout.most_channel (fields_read.1.1.1.1.1.1.1.0 (λ m. m.1))

  pub upto_read : figures (at (owned x k) x.layout.upto) ≡ (reach_at x k).upto
  unfolding reach_at reach relation_rows
  upto_read = number_own file_x x w k h x.layout.upto 1 x.layout.most_channel (fields_read.1.1.1.1.1.1.1.1.0 (λ m. m.1))

  pub from_receiver_read : figures (at (owned x k) x.layout.from_receiver) ≡ (reach_at x k).from_receiver
  unfolding reach_at reach relation_rows
  from_receiver_read = number_own file_x x w k h x.layout.from_receiver 0 x.layout.most_point (fields_read.1.1.1.1.1.1.1.1.1.1.1.0 (λ m. m.1))

  pub to_receiver_read : figures (at (owned x k) x.layout.to_receiver) ≡ (reach_at x k).to_receiver
  unfolding reach_at reach relation_rows
  to_receiver_read = number_own file_x x w k h x.layout.to_receiver 0 x.layout.most_point (fields_read.1.1.1.1.1.1.1.1.1.1.1.1.0 (λ m. m.1))

  pub receiver_index_read : low_index (at (owned x k) x.layout.receiver_index) ≡ (reach_at x k).receiver_index
  unfolding reach_at reach relation_rows
  receiver_index_read = index_own file_x x w k h x.layout.receiver_index (fields_read.1.1.1.1.1.1.1.1.1.1.1.1.1.0 (λ m. m.1))
