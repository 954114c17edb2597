-- What `sets::relations_across` leaves to show.
use mathlib.Core.Path.{sym}
use lib.Seq.{length-take-le}
use Rattle.lines.proofs.Sheets.{rank_same}
use Rattle.keys.specs.declared.By.TheVariants.{Receivers, Records}
use Rattle.order.proofs.Taken.{order_taken}
use Rattle.sets.proofs.Across.{few_rows, small_keys}
use native.Mathlib.Omega.{arith}
use Rattle.sets.proofs.relations_across.Goals as goal

pub first_repeat-apart-requires : goal.first_repeat-apart-requires
first_repeat-apart-requires c = let p = c.requires in
    let few = p.0.relations.few in
    rw c.records.ensures.value (small_keys 3 _ p.0.relations Records, (few, (omega (arith, few, p.1.0), omega (arith, few, p.1.1))))

pub in_order-m-requires : goal.in_order-m-requires
in_order-m-requires c = let p = c.requires in
    let few = p.0.receivers.0.few in
    rw c.receivers.ensures.value (small_keys 1 _ p.0.receivers.0 Receivers, (few, (omega (arith, few, p.1.0), omega (arith, few, p.1.1))))

pub slice_bounds-relations_fit-end-2 : goal.slice_bounds-relations_fit-end-2
slice_bounds-relations_fit-end-2 c = sym (length-take-le _ _ c.in_order-m.ensures.order.room)

pub relations_fit-requires : goal.relations_fit-requires
relations_fit-requires c = let a = c.args in
    let p = c.requires in
    let i = c.in_order-m in
    let rows = rw c.receivers.ensures.value at i.ensures.order in
    record {
      receivers = p.0.receivers;
      rows = order_taken _ _ _ _ _ rows;
      shots = p.0.shots;
      relations = p.0.relations;
      alike = rank_same a.how a.r.now a.x.now;
      first = rw c.records.ensures.value at c.first_repeat-apart.ensures.value;
      room = omega (arith, few_rows 1 _ p.0.receivers.0 Receivers _ _ rows, p.1.1, c.first_repeat-apart.auto, i.auto);
    }
