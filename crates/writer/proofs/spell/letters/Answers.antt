-- What `writer::spell::letters` leaves to show.
use Prim.Native.Nat.{◌-◌}
use native.Mathlib.Omega.{arith}
use Rattle.texts.proofs.Adding.{then}
use Rattle.writer.proofs.Spelling.{text_short, text_long, bytes_long}
use Rattle.writer.proofs.spell.letters.Goals as goal

pub bytes-requires : goal.bytes-requires
bytes-requires c = let h = c.requires in
    (h.0.0, (omega arith, h.1.short (omega arith)))

pub returns-then-w-le8 : goal.returns-then-w-le8
returns-then-w-le8 c = record {
  added = let a = c.args in
      rw (text_short a.w a.m.hi a.m.lo c.if-w-le8.true) c.bytes.ensures.added;
}

pub bytes-at-requires : goal.bytes-at-requires
bytes-at-requires c = let h = c.requires in
    (omega arith, (omega arith, h.1.long (omega arith)))

pub bytes-requires-2 : goal.bytes-requires-2
bytes-requires-2 c = let a = c.args in
    (omega arith, (omega (arith, c.bytes-at.ensures.added.ends, bytes_long (a.w - 8) a.m.hi), omega arith))

pub returns : goal.returns
returns c = record {
  added = let a = c.args in
      rw (text_long a.w a.m.hi a.m.lo (omega arith)) (then c.bytes-at.ensures.added c.bytes-2.ensures.added);
}
