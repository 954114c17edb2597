-- Relation lines of one key are of one tape and record.
use Prim.Native.Nat.{ℕ, ◌<◌}
use mathlib.Core.Path.{◌≡◌, refl, ap, ◌∙◌}
use mathlib.Core.Bool.{true, ◌&&◌, and_comm}
use mathlib.Core.List.{List}
use lib.Dec.{eqb}
use Rattle.rules.specs.Plan.{file_x}
use Rattle.rules.specs.Text.{same}
use Rattle.rules.specs.Layout.{at}
use Rattle.rules.specs.Sheet.{Sheet}
use Rattle.rules.specs.Lines.{is_data}
use Rattle.rules.specs.Relations.{reach, reach_at}
use Rattle.rules.specs.Reaches.{of_record}
use Rattle.fields.specs.Packed.{packed}
use Rattle.fields.proofs.Texts.{texts_equal}
use Rattle.fields.specs.Texts.{Long}
use Rattle.form.specs.Known.{owned, Known}
use Rattle.form.proofs.Known.{long_at}
use Rattle.keys.specs.Keys.{key_of}
use Rattle.keys.specs.Keyed.{key_at}
use Rattle.keys.specs.Compare.{same_key}
use Rattle.keys.specs.declared.Key.{Key}
use Rattle.keys.specs.declared.By.TheVariants.{Records}
use Rattle.keys.proofs.Lines.{key_below}
use Rattle.keys.proofs.Owned.{own_small, same_own}
use Rattle.keys.proofs.Passed.{record_read}

-- the key of a tape and a record
abbrev of_record_lem : List ℕ → ℕ → Key
of_record_lem t n = record { first = n; second = 0; third = packed t }

module _ (x : Sheet) (w : Known file_x x) (k : ℕ) (h : k < x.count) (d : is_data x k ≡ true) where
  record_key : key_at Records x k ≡ of_record_lem (at (owned x k) x.layout.tape) (reach_at x k).number
  unfolding key_of
  record_key =
      key_below x k h Records
      ∙ ap (of_record_lem (at (owned x k) x.layout.tape)) (record_read x w k h d)

  own_tape : Long 6 (at (owned x k) x.layout.tape)
  own_tape = long_at (owned x k) (own_small file_x x w k h) x.layout.tape 6 w.shape.tape

module _ (x : Sheet) (w : Known file_x x) (j : ℕ) (g : j < x.count) (c : is_data x j ≡ true) where
  module _ (k : ℕ) (h : k < x.count) (d : is_data x k ≡ true) where
    tapes : eqb (packed (at (owned x j) x.layout.tape)) (packed (at (owned x k) x.layout.tape))
        ≡ same (reach_at x j).tape (reach_at x k).tape
    unfolding reach_at reach
    tapes =
        texts_equal 6 (at (owned x j) x.layout.tape) (at (owned x k) x.layout.tape) (own_tape x w j g c) (own_tape x w k h d)
        ∙ same_own file_x x w j g file_x x w k h refl x.layout.tape x.layout.tape

    pub records_same : same_key (key_at Records x j) (key_at Records x k)
        ≡ of_record (reach_at x k).tape (reach_at x k).number (reach_at x j)
    unfolding same_key of_record
    records_same =
        rw (record_key x w j g c, record_key x w k h d)
        (ap (◌&&◌ (eqb (reach_at x j).number (reach_at x k).number)) tapes
        ∙ and_comm (eqb (reach_at x j).number (reach_at x k).number) (same (reach_at x j).tape (reach_at x k).tape))
