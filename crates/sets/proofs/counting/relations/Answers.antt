-- What `sets::counting::relations` leaves to show.
use mathlib.Core.Path.{◌∙◌}
use Rattle.rules.specs.Check.{relations}
use Rattle.lines.specs.Reading.{sheet_of}
use Rattle.keys.proofs.Lines.{takes_record}
use Rattle.rules.proofs.Dead.{count_alike}
use Rattle.sets.proofs.counting.relations.Goals as goal

pub returns : goal.returns
unfolding relations
returns c = record {
  value = let a = c.args in
      (rw c.records.ensures.value at c.keyed.ensures.value) ∙ count_alike _ _ _ (takes_record (sheet_of a.how a.x.now));
}
