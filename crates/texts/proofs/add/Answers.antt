-- What `texts::add` leaves to show.
use mathlib.Core.Path.{refl}
use lib.ListN.{length}
use Rattle.texts.proofs.Adding.{adds_part}
use Rattle.texts.proofs.add.Goals as goal

pub returns : goal.returns
returns c = record { added = rw c.copy_from_slice.ensures.after (adds_part c.args.out.now c.args.p.now c.args.n (length c.args.p.now) c.requires refl) }
