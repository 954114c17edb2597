-- What the loop of `points::receivers::receivers_fit` keeps.
use Rattle.std.proofs.Common.{◌≡◌}
use Rattle.rules.specs.Plan.{fine, run, up_to}
use Rattle.rules.specs.Order.{rule10}
use Rattle.lines.specs.Reading.{sheet_of}
use Rattle.points.specs.Last.{last_point}
use Rattle.points.proofs.receivers.receivers_fit.Given as goal

abbrev pub invariant-loop-k : goal.invariant-loop-k
invariant-loop-k l = record {
  before : l.last ≡ last_point (sheet_of l.how l.r) l.k;
  met : fine ≡ run (up_to l.k (rule10 (sheet_of l.how l.r)));
}
