-- What `dead::dead_traces` leaves to show.
use native.Mathlib.Omega.{arith}
use mathlib.Core.Path.{sym, ◌∙◌}
use Rattle.order.proofs.Taken.{order_taken}
use Rattle.dead.proofs.Running.{lines_by_lem}
use Rattle.dead.proofs.Killed.{none_dead}
use Rattle.dead.proofs.dead_traces.Goals as goal

pub returns-then-not-any_killed : goal.returns-then-not-any_killed
returns-then-not-any_killed c = record { value = none_dead _ _ c.requires.0 (sym c.any_killed.ensures.value ∙ c.if-not-any_killed.true) }

pub all_dead-requires : goal.all_dead-requires
all_dead-requires c = let p = c.requires.1.1 in
    let n = c.count_killed.ensures.written in
    let rows = order_taken _ _ _ _ _ (rw c.receivers.ensures.value at c.in_order-m.ensures.order) in
    record {
      set = c.requires.0;
      rows = rows;
      tally = record { lines = lines_by_lem _ _ _ _ _ rows p.0 (omega (arith, p.1.1, c.in_order-m.auto, n.1)); counted = n.0 };
    }
