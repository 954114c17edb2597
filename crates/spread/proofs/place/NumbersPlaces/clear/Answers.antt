-- What `spread::place::Numbers::clear` leaves to show.
use Rattle.spread.proofs.Cleared.{cleared}
use Rattle.spread.proofs.place.NumbersPlaces.clear.Goals as goal

pub returns : goal.returns
returns c = record { written = cleared c.args.h c.args.places.now _ c.requires (c.fill.ensures.after (λ y e. e)) }
