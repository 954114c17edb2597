-- What `sets::counted` leaves to show.
use native.Mathlib.Omega.{arith}
use Rattle.keys.specs.declared.By.TheVariants.{Receivers}
use Rattle.sets.proofs.Across.{small_keys}
use Rattle.sets.proofs.Answers.{counted_is, accepted_set}
use Rattle.sets.proofs.counted.Goals as goal

pub points-receivers-requires : goal.points-receivers-requires
points-receivers-requires c = c.requires.0.known.receivers.few

pub points-shots-requires : goal.points-shots-requires
points-shots-requires c = c.requires.0.known.shots.few

pub relations-relations-requires : goal.relations-relations-requires
relations-relations-requires c = c.requires.0.known.relations.few

pub traces-traces-requires : goal.traces-traces-requires
traces-traces-requires c = c.requires.0.known.relations

pub dead_traces-dead_traces-requires : goal.dead_traces-dead_traces-requires
dead_traces-dead_traces-requires c = let p = c.requires in
    let few = p.0.known.receivers.few in
    (accepted_set _ _ _ p.0, (small_keys 1 _ p.0.known.receivers Receivers, (few, (omega (arith, few, p.1.0), omega (arith, few, p.1.1)))))

pub returns : goal.returns
returns c = record {
  counts = counted_is _ _ _ _ _ _ _ _ c.points-receivers.ensures.value c.points-shots.ensures.value c.relations-relations.ensures.value
      c.traces-traces.ensures.value c.dead_traces-dead_traces.ensures.value;
}
