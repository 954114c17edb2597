-- What `records::fits::fields_fit` leaves to show.
use Rattle.std.proofs.Common.{◌∙◌, arith}
use Rattle.fields.proofs.Widths.{sized_is}
use Rattle.records.specs.Coded.{rows_of}
use Rattle.records.proofs.Rows.{rows_end, rows_step, rows_stop}
use Rattle.records.proofs.fits.fields_fit.Goals as goal

pub row_fits-requires : goal.row_fits-requires
row_fits-requires c = c.row_at-w.ensures.kept

pub overflow_cast-w : goal.overflow_cast-w
overflow_cast-w c = let h = sized_is _ _ _ c.row_at-w.ensures.kept in omega arith

pub returns-then-not-row_fits : goal.returns-then-not-row_fits
returns-then-not-row_fits c = record {
  verdict = let n = c.row_count-j-end.ensures.value in
      c.at_line.ensures.verdict
      ∙ rows_stop _ _ _ _ (rows_of c.args.t) c.loop-j.j _ c.loop-j.invariant (omega arith) _ c.row_at-w.ensures.value _ c.row_fits.ensures.value
      c.if-not-row_fits.true;
}

pub loop-j-preserved : goal.loop-j-preserved
loop-j-preserved c = let n = c.row_count-j-end.ensures.value in
    rows_step _ _ _ _ (rows_of c.args.t) c.loop-j.j _ c.loop-j.invariant (omega arith) _ c.row_at-w.ensures.value _ c.row_fits.ensures.value
    c.if-not-row_fits.false

pub returns : goal.returns
returns c = record { verdict = let n = c.row_count-j-end.ensures.value in rows_end _ _ _ _ (rows_of c.args.t) c.loop-j.j _ c.loop-j.invariant (omega arith) }
