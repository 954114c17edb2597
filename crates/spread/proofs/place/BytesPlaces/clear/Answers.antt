-- What `spread::place::Bytes::clear` leaves to show.
use Rattle.std.proofs.Common.{arith}
use Rattle.spread.proofs.Cleared.{bytes_cleared}
use Rattle.spread.proofs.place.BytesPlaces.clear.Goals as goal

pub returns : goal.returns
returns c = let h = c.requires in
    record { written = bytes_cleared c.args.h c.args.places.now _ (omega arith) (c.fill.ensures.after (λ y e. e)) }
