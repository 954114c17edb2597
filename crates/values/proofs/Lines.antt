-- One line of a file, by what the code finds of it.
--   stands                            = a line that is there
--   one_line_is, there                = the verdict on it, and what it says of the line where it is fine
--   of_points_lem, not_of_points, of_relations = that verdict as the rules have it
--   point_of_line, relation_of_line   = its values
use Prim.Native.Nat.{ℕ, ◌-◌, ◌≤◌}
use mathlib.Core.Path.{◌≡◌, refl, sym}
use mathlib.Core.Bool.{Bool, true, false, ◌&&◌}
use mathlib.Core.List.{List}
use lib.Dec.{leb}
use borrow.Author.Tests.{leb-true, not-true}
use Rattle.rules.specs.Places.{pick}
use Rattle.rules.specs.Plan.{Refusal, Verdict as PaperVerdict, fine, refused, ◌or_else◌, Plan, №, file_x, need, ◌before◌, run}
use Rattle.rules.specs.Layout.{sps93}
use Rattle.rules.specs.Sheet.{Sheet, most_lines}
use Rattle.rules.specs.Lines.{kind_of, is_header, is_data}
use Rattle.rules.specs.Points.{point, point_at}
use Rattle.rules.specs.Relations.{relation, relation_at}
use Rattle.rules.specs.Form.{line_fits}
use Rattle.rules.specs.Questions.{rule20}
use Rattle.rules.specs.OneLine.{line_stands, one_line, of_points, point_verdict, relation_verdict}
use Rattle.rules.proofs.Tests.{and_is}
use Rattle.rules.proofs.Breach.{run_met}
use Rattle.lines.specs.declared.Reading.{Reading}
use Rattle.lines.specs.Reading.{sheet_of}
use Rattle.lines.proofs.Sheets.{layout_is}
use Rattle.records.specs.Coded.{coded_point, coded_relation}

module _ (f : Sheet) (l : ℕ) where
  pub record Stands : Type 0 where
    pub low : 1 ≤ l
    pub high : l ≤ 9999
    pub within : l ≤ f.count
    pub none_header : is_header (f.row (l - 1)) ≡ false

  pub stands : line_stands f l ≡ true → Stands
  unfolding line_stands most_lines is_data
  stands e =
      let w = (and_is (leb 1 l && leb l 9999) (leb l f.count && is_data f (l - 1))).0 e in
      let u = (and_is (leb 1 l) (leb l 9999)).0 w.0 in
      let v = (and_is (leb l f.count) (is_data f (l - 1))).0 w.1 in
      record {
        low = leb-true 1 l u.0;
        high = leb-true l 9999 u.1;
        within = leb-true l f.count v.0;
        none_header = not-true _ v.1;
      }

-- 20, then 3 to 6
asked : (t : Bool) (w : Refusal) (p : Plan) → run (need t w before p) ≡ pick t (run p) (refused w)
unfolding run pick ◌or_else◌
asked true w p = refl
asked false w p = refl

pub one_line_is : (ok : Bool) (i : ℕ) (f : Sheet) (l : ℕ)
    → run (one_line ok i f l) ≡ pick (ok && line_stands f l) (run (line_fits i f (l - 1))) (refused (№ 20 0 0 0))
unfolding one_line rule20
one_line_is ok i f l = asked (ok && line_stands f l) _ _

pub there : (ok : Bool) (i : ℕ) (f : Sheet) (l : ℕ) → fine ≡ run (one_line ok i f l) → Stands f l
unfolding one_line rule20
there ok i f l e =
    let w = ((run_met (rule20 (ok && line_stands f l) before line_fits i f (l - 1))).0 (sym e)).0 in
    stands f l ((and_is ok (line_stands f l)).0 w).1

-- the verdict on a line of R or S, by the kind of its letter, and on one of X
pub of_points_lem : (b l i : ℕ) (f : Sheet) (ok : Bool) → i ≡ kind_of b → ok ≡ of_points i → (v : PaperVerdict) → v ≡ run (one_line ok i f l)
    → point_verdict b f l ≡ v
unfolding point_verdict
of_points_lem b l i f ok e q v p = sym (rw (q, e) at p)

pub not_of_points : (b l i : ℕ) (f : Sheet) → i ≡ kind_of b → false ≡ of_points i → point_verdict b f l ≡ refused (№ 20 0 0 0)
unfolding pick
not_of_points b l i f e q = of_points_lem b l i f false e q _ (sym (one_line_is false i f l))

pub of_relations : (l : ℕ) (f : Sheet) (v : PaperVerdict) → v ≡ run (one_line true file_x f l) → relation_verdict f l ≡ v
unfolding relation_verdict
of_relations l f v p = sym p

-- the values of a line
module _ (how : Reading) (f : List ℕ) (k : ℕ) (l : List ℕ) (e : l ≡ (sheet_of how f).row k) where
  pub point_of_line : coded_point (point sps93 l) ≡ coded_point (point_at (sheet_of how f) k)
  unfolding point_at
  point_of_line = rw (e, layout_is how f)

  pub relation_of_line : coded_relation (relation sps93 l) ≡ coded_relation (relation_at (sheet_of how f) k)
  unfolding relation_at
  relation_of_line = rw (e, layout_is how f)
