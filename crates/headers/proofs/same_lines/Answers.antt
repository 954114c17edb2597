-- What `headers::same_lines` leaves to show.
use Rattle.std.proofs.Common.{◌∙◌, arith}
use Rattle.std.proofs.lemmas.Result.{err_from_is_err_and}
use Rattle.rules.proofs.Steps.{stops_here}
use Rattle.headers.specs.Steps.{same_lines}
use Rattle.headers.proofs.Laws.{nine_row}
use Rattle.headers.proofs.same_lines.Goals as goal

pub returns-in_err-same_columns : goal.returns-in_err-same_columns
unfolding same_lines
returns-in_err-same_columns c = record {
  verdict = let p = err_from_is_err_and c.from_residual.result c.from_residual.ensures.1 in
      rw (p.1, p.2)
      (stops_here _ _ _ _ (omega arith) c.loop-k.invariant
      (c.in_err-same_columns.ensures.verdict ∙ nine_row _ _ _ _ _ _ c.line_of-l.ensures.value c.line_of-m.ensures.value));
}
