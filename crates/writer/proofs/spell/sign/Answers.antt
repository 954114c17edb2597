-- What `writer::spell::sign` leaves to show.
use native.Mathlib.Omega.{arith}
use Rattle.writer.proofs.Spelling.{adds_nothing}
use Rattle.writer.proofs.spell.sign.Goals as goal

pub returns-then-minus : goal.returns-then-minus
returns-then-minus c = record {
  added = rw c.if-minus.true c.byte.ensures.added;
  small = omega (arith, c.byte.ensures.added.ends);
}

pub returns-else-minus : goal.returns-else-minus
returns-else-minus c = record {
  added = rw c.if-minus.false (adds_nothing c.args.out.now c.args.at);
  small = omega arith;
}
