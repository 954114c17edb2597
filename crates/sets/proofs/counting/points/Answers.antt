-- What `sets::counting::points` leaves to show.
use mathlib.Core.Path.{◌∙◌}
use Rattle.rules.specs.Check.{points}
use Rattle.lines.specs.Reading.{sheet_of}
use Rattle.keys.proofs.Lines.{takes_point}
use Rattle.rules.proofs.Dead.{count_alike}
use Rattle.sets.proofs.counting.points.Goals as goal

pub returns : goal.returns
unfolding points
returns c = record {
  value = let a = c.args in
      (rw c.points.ensures.value at c.keyed.ensures.value) ∙ count_alike _ _ _ (takes_point (sheet_of a.how a.f.now));
}
