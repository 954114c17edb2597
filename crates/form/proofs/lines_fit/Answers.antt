-- What `form::lines_fit` leaves to show.
use Rattle.std.proofs.Common.{◌≡◌, ◌&&◌, ◌∙◌, sym, arith}
use Rattle.std.proofs.lemmas.Result.{err_from_is_err_and}
use Rattle.rules.specs.Lines.{is_header}
use Rattle.rules.specs.Form.{line_fits}
use Rattle.rules.proofs.Steps.{every_none, none_yet, one_more, stops_here}
use Rattle.lines.specs.Reading.{sheet_of}
use Rattle.form.specs.Steps.{headers_to}
use Rattle.form.proofs.Laws.{headers_next}
use Rattle.form.proofs.lines_fit.Goals as goal
use Rattle.form.proofs.lines_fit.Goals.{then-headers, else-headers}

pub loop-k-init : goal.loop-k-init
unfolding headers_to
loop-k-init c = record { headed = sym (every_none _); met = none_yet _ }

pub returns-in_err-line_fits : goal.returns-in_err-line_fits
returns-in_err-line_fits c = record {
  verdict = let a = c.args in
      let n = c.line_count-n.ensures.value in
      let p = err_from_is_err_and c.from_residual.result c.from_residual.ensures.1 in
      rw (p.1, p.2)
      (stops_here (line_fits a.i (sheet_of a.how a.f.now)) _ _ _ (omega arith) c.loop-k.invariant.met c.in_err-line_fits.ensures.verdict);
}

pub loop-k-preserved : goal.loop-k-preserved
loop-k-preserved c = let at = c.loop-k in
    let t : c.if-headers.headers ≡ (at.headers && is_header c.line_of-l.result) =
    elim c.if-headers.branch [
      | then-headers w ↦ rw w.if-headers.true (w.headers-is ∙ w.is_header-headers.ensures.value)
      | else-headers w ↦ rw w.if-headers.false (w.headers-is ∙ w.if-headers.false)
    ] in
    record {
      headed = headers_next (sheet_of c.args.how c.args.f.now) _ _ at.invariant.headed _ c.line_of-l.ensures.value _ t;
      met = one_more _ _ at.invariant.met c.in_ok-line_fits.ensures.verdict;
    }
