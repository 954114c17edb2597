-- What `rows::fill` leaves to show.
use native.Mathlib.Omega.{arith}
use lib.ListN.{replicate}
use Rattle.lines.specs.Reading.{sheet_of}
use Rattle.order.proofs.Taken.{order_taken}
use Rattle.spread.proofs.Asked.{known_receivers}
use Rattle.spread.proofs.Rows.{all_room, sortable}
use Rattle.rows.proofs.fill.Goals as goal

pub in_order-m-requires : goal.in_order-m-requires
in_order-m-requires c = let a = c.args in
    rw c.receivers.ensures.value
    (sortable (sheet_of a.w.how a.r.now) (replicate 9999 0) (replicate 9999 0) (known_receivers _ _ c.requires) all_room all_room)

pub put_all-requires : goal.put_all-requires
put_all-requires c = let n = c.mark_killed.ensures.written in
    let rows = order_taken _ _ _ _ _ (rw c.receivers.ensures.value at c.in_order-m.ensures.order) in
    let f = c.requires.receivers.few in
    let m = all_room in
    record { set = c.requires; rows = rows; room = omega (arith, rows.few, c.in_order-m.auto, n.1); marked = n.0 }
