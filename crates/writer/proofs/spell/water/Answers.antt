-- What `writer::spell::water` leaves to show.
use Rattle.writer.proofs.Spelling.{water_tenths, water_metres}
use Rattle.writer.proofs.spell.water.Goals as goal

pub returns-then-n-le999 : goal.returns-then-n-le999
returns-then-n-le999 c = record { added = rw (water_tenths c.args.n c.if-n-le999.true) c.tenths.ensures.added }

pub returns-else-n-le999 : goal.returns-else-n-le999
returns-else-n-le999 c = record { added = rw (water_metres c.args.n c.if-n-le999.false) c.whole.ensures.added }
