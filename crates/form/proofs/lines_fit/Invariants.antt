-- What the loop of `form::lines_fit` keeps.
use Rattle.std.proofs.Common.{◌≡◌}
use Rattle.rules.specs.Plan.{fine, run, up_to}
use Rattle.rules.specs.Form.{line_fits}
use Rattle.lines.specs.Reading.{sheet_of}
use Rattle.form.specs.Steps.{headers_to}
use Rattle.form.proofs.lines_fit.Given as goal

abbrev pub invariant-loop-k : goal.invariant-loop-k
invariant-loop-k l = record {
  headed : l.headers ≡ headers_to (sheet_of l.how l.f) l.k;
  met : fine ≡ run (up_to l.k (line_fits l.i (sheet_of l.how l.f)));
}
