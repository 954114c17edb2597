-- What the loop of `shots::shots_named` keeps.
use mathlib.Core.Path.{◌≡◌}
use Rattle.rules.specs.Plan.{fine, run, up_to}
use Rattle.rules.specs.Order.{rule15}
use Rattle.lines.specs.Reading.{sheet_of}
use Rattle.shots.proofs.Named.{Passed}
use Rattle.shots.proofs.shots_named.Given as goal

abbrev pub invariant-loop-k : goal.invariant-loop-k
invariant-loop-k l = record {
  passed : Passed (sheet_of l.how l.s) (sheet_of l.how l.x) l.k l.j;
  met : fine ≡ run (up_to l.k (rule15 (sheet_of l.how l.s) (sheet_of l.how l.x)));
}
