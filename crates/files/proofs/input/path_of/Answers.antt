-- What `files::input::path_of` leaves to show.
use Rattle.std.proofs.Common.{length}
use Rattle.files.specs.Reads.{path}
use Rattle.files.proofs.input.path_of.Goals as goal

pub returns : goal.returns
unfolding path
returns c = let e = c.place.ensures.written in record { value = λ i. record { bytes = e i; size = length c.args.text.now } }
