-- What `headers::rule9` leaves to show.
use Rattle.std.proofs.lemmas.Result.{err_from_is_err_and}
use Rattle.lines.specs.Reading.{sheet_of}
use Rattle.headers.proofs.Laws.{nine_stops}
use Rattle.headers.proofs.rule9.Goals as goal

pub returns-in_err-same_lines : goal.returns-in_err-same_lines
returns-in_err-same_lines c = record {
  verdict = let a = c.args in
      let p = err_from_is_err_and c.from_residual.result c.from_residual.ensures.1 in
      rw (p.1, p.2)
      (nine_stops (sheet_of a.how a.r.now) (sheet_of a.how a.f.now) _ _ _
      c.heads-a.ensures.value c.heads-b.ensures.value c.min-n.ensures a.i c.in_err-same_lines.ensures.verdict);
}
