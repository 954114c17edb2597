-- What the loop of `points::shots::shots_fit` keeps.
use Rattle.std.proofs.Common.{◌≡◌}
use Rattle.rules.specs.Plan.{fine, run, up_to}
use Rattle.lines.specs.Reading.{sheet_of}
use Rattle.keys.specs.Held.{shot_fits}
use Rattle.points.specs.Last.{last_stamp}
use Rattle.points.specs.Again.{IsAgain}
use Rattle.points.proofs.shots.shots_fit.Given as goal

abbrev pub invariant-loop-k : goal.invariant-loop-k
invariant-loop-k l = record {
  before : l.last ≡ last_stamp (sheet_of l.how l.s) l.k;
  again : IsAgain (sheet_of l.how l.s) l.k l.again;
  met : fine ≡ run (up_to l.k (shot_fits (sheet_of l.how l.s)));
}
