-- What `writer::spell::coordinate` leaves to show.
use Rattle.writer.proofs.Spelling.{coordinate_short, coordinate_long}
use Rattle.writer.proofs.spell.coordinate.Goals as goal

pub returns-then-m-w : goal.returns-then-m-w
returns-then-m-w c = record {
  starts = let a = c.args in
      coordinate_short a.w a.minus a.n c.tenths-m.ensures.added c.if-m-w.true;
}

pub returns-else-m-w : goal.returns-else-m-w
returns-else-m-w c = record {
  starts = let a = c.args in
      coordinate_long a.w a.minus a.n c.tenths-m.ensures.added c.if-m-w.false c.whole.ensures.added;
}
