-- What the loop of `headers::same_lines` keeps.
use Rattle.std.proofs.Common.{◌≡◌}
use Rattle.rules.specs.Plan.{fine, run}
use Rattle.lines.specs.Reading.{sheet_of}
use Rattle.headers.specs.Steps.{same_lines}
use Rattle.headers.proofs.same_lines.Given as goal

abbrev pub invariant-loop-k : goal.invariant-loop-k
invariant-loop-k l = fine ≡ run (same_lines l.i (sheet_of l.how l.r) (sheet_of l.how l.f) l.k)
