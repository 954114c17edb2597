-- What `sps::places::put_all` leaves to show.
use Rattle.std.proofs.Common.{arith}
use Rattle.sps.proofs.Placed.{from_all, place_more, places_put}
use Rattle.sps.proofs.places.put_all.Goals as goal

pub loop-i-init : goal.loop-i-init
loop-i-init c = from_all _ _

pub loop-i-preserved : goal.loop-i-preserved
loop-i-preserved c = place_more _ _ _ _ _ (omega arith) c.loop-i.invariant c.put.ensures.written

pub returns : goal.returns
returns c = record { written = places_put _ _ _ _ (omega arith) c.loop-i.invariant }
