-- What `headers::rule8` leaves to show.
use Rattle.std.proofs.Common.{◌∙◌, arith}
use Rattle.std.proofs.lemmas.Result.{err_from_is_err_and}
use Rattle.rules.proofs.Steps.{stops_here}
use Rattle.lines.proofs.Sheets.{layout_is}
use Rattle.headers.proofs.Laws.{eight_of}
use Rattle.headers.proofs.rule8.Goals as goal

pub returns-in_err-line_names : goal.returns-in_err-line_names
returns-in_err-line_names c = record {
  verdict = let a = c.args in
      let n = c.heads-n.ensures.value in
      let p = err_from_is_err_and c.from_residual.result c.from_residual.ensures.1 in
      rw (p.1, p.2)
      (stops_here _ _ _ _ (omega arith) c.loop-k.invariant
      (c.in_err-line_names.ensures.verdict ∙ eight_of _ _ (layout_is a.how a.r.now) _ _ c.line_of-l.ensures.value));
}
