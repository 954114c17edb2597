-- What `texts::fill` leaves to show.
use lib.ListN.{replicate, length-replicate}
use Rattle.texts.proofs.Adding.{adds_part, part_length}
use Rattle.texts.proofs.fill.Goals as goal

pub returns : goal.returns
returns c = record {
  added = rw (c.fill.ensures.after (λ y e. e), part_length c.args.out.now c.args.n c.args.k c.requires)
      (adds_part c.args.out.now (replicate c.args.k c.args.b) c.args.n c.args.k c.requires (length-replicate c.args.k c.args.b));
}
