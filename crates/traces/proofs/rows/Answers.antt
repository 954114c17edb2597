-- What `traces::rows` leaves to show.
use Rattle.std.proofs.Common.{◌∙◌, sym}
use Rattle.std.proofs.lemmas.Result.{err_from_is_err_and}
use Rattle.sets.proofs.Verdicts.{set_accepted, set_refused}
use Rattle.traces.proofs.Sets.{in_set}
use Rattle.traces.proofs.Rowed.{rows_refused, rows_fine}
use Rattle.traces.proofs.rows.Goals as goal

pub returns-in_err-counts : goal.returns-in_err-counts
returns-in_err-counts c = let a = c.args in
    let w = set_refused a.how a.r.now a.s.now a.x.now _ c.in_err-counts.ensures.answer in
    let p = err_from_is_err_and c.from_residual.result c.from_residual.ensures.1 in
    record {
      answer = rw (p.1, p.2) c.in_err-counts.ensures.answer;
      written = sym (rows_refused _ _ _ a.first a.places.now _ w);
    }

pub fill-requires : goal.fill-requires
fill-requires c = let a = c.args in
    in_set a.how a.r.now a.s.now a.x.now (set_accepted a.how a.r.now a.s.now a.x.now _ _ _ _ _ c.in_ok-counts.ensures.answer)

pub returns : goal.returns
returns c = let a = c.args in
    let w = set_accepted a.how a.r.now a.s.now a.x.now _ _ _ _ _ c.in_ok-counts.ensures.answer in
    record {
      answer = c.in_ok-counts.ensures.answer;
      written = c.fill.ensures.written ∙ sym (rows_fine _ _ _ a.first a.places.now w);
    }
