-- What `writer::line::fields` leaves to show.
use Prim.Native.Nat.{◌<◌}
use native.Mathlib.Omega.{arith}
use mathlib.Core.Path.{refl}
use lib.ListN.{length}
use borrow.Author.Rules.{rules}
use Rattle.rules.specs.Writer.{joined}
use Rattle.rules.proofs.Tests.{clash}
use Rattle.fields.proofs.Widths.{sized_is}
use Rattle.records.specs.Coded.{row_of, rows_of}
use Rattle.writer.specs.Columns.{columns_to}
use Rattle.std.specs.Prelude.{None}
use Rattle.writer.proofs.Spelling.{adds_nothing}
use Rattle.writer.proofs.Tables.{few_rows, fields_stop, fields_step, fields_more, fields_end, fields_all}
use Rattle.writer.proofs.line.fields.Goals as goal

pub loop-j-init : goal.loop-j-init
unfolding joined columns_to
loop-j-init c = record { rest = refl; put = adds_nothing c.args.line.now 1 }

pub row_at-requires : goal.row_at-requires
row_at-requires c = let n = c.row_count-j-end.ensures.value in
    let h : c.loop-j.j < length (rows_of c.args.t) = omega arith in
    h

pub offset_bounds-vs-j : goal.offset_bounds-vs-j
offset_bounds-vs-j c = let n = c.row_count-j-end.ensures.value in
    let m = few_rows c.args.t in
    record { fits = omega arith }

pub bounds-vs-j : goal.bounds-vs-j
bounds-vs-j c = let n = c.row_count-j-end.ensures.value in
    let m = few_rows c.args.t in
    omega arith

pub field-requires : goal.field-requires
field-requires c = c.row_at.ensures.kept

pub returns-then-not-field : goal.returns-then-not-field
returns-then-not-field c = let at = c.loop-j in
    let n = c.row_count-j-end.ensures.value in
    let h : at.j < length (rows_of c.args.t) = omega arith in
    let q = c.row_at.ensures in
    let f = c.field.ensures in
    record {
      goes = fields_stop c.args.t c.args.vs (search rules) _ at.j _ at.invariant.rest h (row_of c.row_at.result) q.value _
          f.goes c.if-not-field.true;
      put = λ e. clash e;
    }

pub loop-j-preserved : goal.loop-j-preserved
loop-j-preserved c = let at = c.loop-j in
    let n = c.row_count-j-end.ensures.value in
    let h : at.j < length (rows_of c.args.t) = omega arith in
    let q = c.row_at.ensures in
    let f = c.field.ensures in
    let y = c.if-not-field.false in
    let o = (sized_is _ _ _ q.kept).1.0 in
    record {
      rest = fields_step c.args.t c.args.vs (search rules) _ at.j _ at.invariant.rest h (row_of c.row_at.result) q.value _ f.goes y;
      put = fields_more c.args.t c.args.vs (search rules) _ at.j _ at.invariant.rest h (row_of c.row_at.result) q.value o at.invariant.put (f.put y);
    }

pub returns : goal.returns
returns c = let at = c.loop-j in
    let n = c.row_count-j-end.ensures.value in
    record {
      goes = fields_end c.args.t c.args.vs (search rules) None at.j _ at.invariant.rest (omega arith);
      put = λ e. fields_all c.args.t c.args.vs (search rules) None at.j (omega arith) at.invariant.put;
    }
