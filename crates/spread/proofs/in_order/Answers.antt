-- What `spread::in_order` leaves to show.
use Rattle.lines.specs.Reading.{sheet_of}
use Rattle.spread.proofs.Rows.{all_room, sortable}
use lib.ListN.{replicate}
use Rattle.spread.proofs.in_order.Goals as goal

pub in_order-requires : goal.in_order-requires
in_order-requires c = let a = c.args in
    rw c.receivers.ensures.value (sortable (sheet_of a.how a.r.now) a.o.now (replicate 9999 0) c.requires.0 c.requires.1 all_room)
