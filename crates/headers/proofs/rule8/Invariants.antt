-- What the loop of `headers::rule8` keeps.
use Rattle.std.proofs.Common.{◌≡◌}
use Rattle.rules.specs.Plan.{fine, run, up_to}
use Rattle.rules.specs.Headers.{rule8}
use Rattle.lines.specs.Reading.{sheet_of}
use Rattle.headers.proofs.rule8.Given as goal

abbrev pub invariant-loop-k : goal.invariant-loop-k
invariant-loop-k l = fine ≡ run (up_to l.k (rule8 (sheet_of l.how l.r)))
