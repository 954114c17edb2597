-- What `texts::place` leaves to show.
use Rattle.std.proofs.lemmas.List.Edits.{paste_none}
use Rattle.texts.proofs.place.Goals as goal

pub loop-k-init : goal.loop-k-init
loop-k-init c = paste_none c.args.out.now 0 c.args.p.now
