-- What `points::receivers::receivers_fit` leaves to show.
use Rattle.std.proofs.Common.{◌∙◌, sym, arith}
use Rattle.std.proofs.lemmas.Result.{err_from_is_err_and}
use Rattle.rules.specs.Order.{rule10}
use Rattle.rules.proofs.Steps.{none_yet, one_more, stops_here}
use Rattle.lines.specs.Reading.{sheet_of}
use Rattle.keys.proofs.Lines.{takes_point}
use Rattle.points.proofs.Above.{ten_other}
use Rattle.points.proofs.Last.{last_here, last_other, none_before}
use Rattle.points.proofs.receivers.receivers_fit.Goals as goal
use Rattle.points.proofs.receivers.receivers_fit.Goals.{then-takes+in_ok-receiver_fits, else-takes}

pub loop-k-init : goal.loop-k-init
loop-k-init c = record { before = sym (none_before _); met = none_yet _ }

pub returns-in_err-receiver_fits : goal.returns-in_err-receiver_fits
returns-in_err-receiver_fits c = record {
  verdict = let a = c.args in
      let p = err_from_is_err_and c.from_residual.result c.from_residual.ensures.1 in
      rw (p.1, p.2)
      (stops_here (rule10 (sheet_of a.how a.r.now)) _ _ _ (omega arith) c.loop-k.invariant.met c.in_err-receiver_fits.ensures.verdict);
}

pub loop-k-preserved : goal.loop-k-preserved
loop-k-preserved c = let at = c.loop-k.invariant in
    let n = c.line_count-k-end.ensures.value in
    let here = takes_point (sheet_of c.args.how c.args.r.now) c.loop-k.k (omega arith) in
    let t = sym (rw c.points-z.ensures.value at c.takes.ensures.value) in
    elim c.if-takes.branch [
      | then-takes+in_ok-receiver_fits w ↦ record {
        before = w.last-is ∙ sym (last_here _ _ (sym here ∙ t ∙ w.if-takes.true));
        met = one_more _ _ at.met w.in_ok-receiver_fits.ensures.verdict;
      }
      | else-takes w ↦ let off = sym here ∙ t ∙ w.if-takes.false in record {
        before = w.last-is ∙ at.before ∙ sym (last_other _ _ off);
        met = one_more _ _ at.met (ten_other _ _ off);
      }
    ]
