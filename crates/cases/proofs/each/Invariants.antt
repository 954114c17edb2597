-- What the loop of `cases::each` keeps.
use Rattle.std.proofs.Common.{◌≤◌, ◌+◌, ◌-◌, length}
use Rattle.cases.proofs.each.Given as goal

abbrev pub invariant-loop-n : goal.invariant-loop-n
invariant-loop-n g l = l.n ≤ length l.names + 1

abbrev pub decreases-loop-n : goal.decreases-loop-n
decreases-loop-n g l = length l.names + 1 - l.n
