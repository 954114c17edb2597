-- What `writer::spell::bytes` leaves to show.
use Rattle.std.proofs.Common.{◌<◌, ◌-◌, ◌/◌, arith}
use Rattle.texts.proofs.Adding.{then}
use Rattle.writer.proofs.Spelling.{bytes_one, bytes_more, small_one, small_more, bytes_long}
use Rattle.writer.proofs.spell.+bytes.Goals as goal

pub overflow_cast-v : goal.overflow_cast-v
overflow_cast-v t c = record { fits = small_one c.args.n c.args.v (omega arith) c.requires.1.1 }

pub byte-requires : goal.byte-requires
byte-requires t c = let h = c.requires in omega (arith, h.0, h.1.0)

pub returns-then-n-le1 : goal.returns-then-n-le1
returns-then-n-le1 t c = record { added = rw (bytes_one c.args.n c.args.v c.requires.0 (omega arith)) c.byte.ensures.added }

pub bytes-m-requires : goal.bytes-m-requires
bytes-m-requires t c =
    let h = c.requires in
    let g : 1 < c.args.n = omega arith in
    (omega arith, (omega arith, (omega (arith, h.1.0), small_more c.args.n c.args.v g h.1.1)))

pub byte-requires-2 : goal.byte-requires-2
byte-requires-2 t c =
    let h = c.requires in
    omega (arith, h.0, h.1.0, c.bytes-m.ensures.added.ends, c.bytes-m.auto.out, bytes_long (c.args.n - 1) (c.args.v / 256))

pub returns : goal.returns
returns t c = record {
  added = rw (bytes_more c.args.n c.args.v (omega arith)) (then c.bytes-m.ensures.added c.byte-2.ensures.added);
}
