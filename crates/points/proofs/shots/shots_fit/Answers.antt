-- What `points::shots::shots_fit` leaves to show.
use Rattle.std.proofs.Common.{◌∙◌, sym, arith}
use Rattle.std.proofs.lemmas.Result.{err_from_is_err_and}
use Rattle.rules.proofs.Steps.{before_broken, before_met, none_yet, one_more, stops_here}
use Rattle.lines.specs.Reading.{sheet_of}
use Rattle.keys.specs.Held.{shot_fits}
use Rattle.points.proofs.Stamps.{next_stamp, no_stamp}
use Rattle.points.proofs.Again.{not_again}
use Rattle.points.proofs.shots.shots_fit.Goals as goal

pub loop-k-init : goal.loop-k-init
loop-k-init c = record { before = sym (no_stamp _); again = c.requires.1; met = none_yet _ }

pub returns-in_err-rule11 : goal.returns-in_err-rule11
returns-in_err-rule11 c = record {
  verdict = let a = c.args in
      let p = err_from_is_err_and c.from_residual.result c.from_residual.ensures.1 in
      rw (p.1, p.2)
      (stops_here (shot_fits (sheet_of a.how a.s.now)) _ _ _ (omega arith) c.loop-k.invariant.met
      (before_broken _ _ _ c.in_err-rule11.ensures.verdict));
}

pub returns-in_err-rule12 : goal.returns-in_err-rule12
returns-in_err-rule12 c = record {
  verdict = let a = c.args in
      let p = err_from_is_err_and c.from_residual-in_err-rule12.result c.from_residual-in_err-rule12.ensures.1 in
      rw (p.1, p.2)
      (stops_here (shot_fits (sheet_of a.how a.s.now)) _ _ _ (omega arith) c.loop-k.invariant.met
      (c.in_err-rule12.ensures.verdict ∙ before_met _ _ c.in_ok-rule11.ensures.verdict));
}

pub loop-k-preserved : goal.loop-k-preserved
loop-k-preserved c = let at = c.loop-k.invariant in
    let n = c.line_count-k-end.ensures.value in
    let new = c.in_ok-rule12.ensures.verdict in
    record {
      before = rw (next_stamp (sheet_of c.args.how c.args.s.now) c.loop-k.k, ← at.before, ← c.stamp-t.ensures.value) c.or-last.ensures;
      again = (at.again.0, not_again _ c.requires.0 _ (omega arith) _ at.again new);
      met = one_more _ _ at.met (new ∙ before_met _ _ c.in_ok-rule11.ensures.verdict);
    }
