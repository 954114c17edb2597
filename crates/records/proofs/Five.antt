-- 5 of a line, by what the line is.
use Prim.Native.Nat.{ℕ}
use mathlib.Core.Path.{◌≡◌, refl}
use mathlib.Core.Bool.{Bool, true, false, not, ◌&&◌}
use mathlib.Core.List.{List}
use lib.Dec.{eqb}
use Rattle.rules.specs.Places.{pick}
use Rattle.rules.specs.Plan.{Verdict, fine, refused, ◌or_else◌, Plan, when, ◌before◌, run}
use Rattle.rules.specs.Layout.{sps93}
use Rattle.rules.specs.Lines.{is_header, is_marker}
use Rattle.rules.specs.Rows.{header_rows, point_rows, relation_rows}
use Rattle.rules.specs.Form.{fields_fit, rule5}

-- one of three plans, by two tests
or_else_end : (v : Verdict) → v or_else fine ≡ v
unfolding ◌or_else◌
or_else_end fine = refl
or_else_end (refused w) = refl

one_of : (h x : Bool) (a b c : Plan)
    → run (when h a before when (not h && not x) b before when (not h && x) c) ≡ pick h (run a) (pick x (run c) (run b))
unfolding run pick ◌or_else◌
one_of true x a b c = or_else_end (run a)
one_of false true a b c = refl
one_of false false a b c = or_else_end (run b)

pub five : (i k : ℕ) (l : List ℕ) → run (rule5 i sps93 k l)
    ≡ pick (is_header l) (run (fields_fit i k false l (header_rows sps93)))
    (pick (eqb i 3) (run (fields_fit i k false l (relation_rows sps93))) (run (fields_fit i k (is_marker sps93 l) l (point_rows sps93 i))))
unfolding rule5
five i k l =
    one_of (is_header l) (eqb i 3) (fields_fit i k false l (header_rows sps93)) (fields_fit i k (is_marker sps93 l) l (point_rows sps93 i))
    (fields_fit i k false l (relation_rows sps93))
