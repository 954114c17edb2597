-- What `lines::line_of` leaves to show.
use Rattle.std.proofs.Common.{arith}
use Rattle.lines.proofs.Sheets.{place, disc_row, tape_row}
use Rattle.lines.proofs.line_of.Goals as goal

pub overflow_mul-stride : goal.overflow_mul-stride
overflow_mul-stride c = let a = c.args in
    omega (arith, place a.how _ c.stride.ensures.value a.f.now a.k c.requires)

pub columns-l-requires : goal.columns-l-requires
columns-l-requires c = let a = c.args in
    omega (arith, place a.how _ c.stride.ensures.value a.f.now a.k c.requires)

pub returns-in-Disc : goal.returns-in-Disc
returns-in-Disc c = record {
  value = let a = c.args in
      disc_row a.how _ c.stride.ensures.value a.f.now c.in-Disc.is a.k _ c.columns-l.ensures.value;
}

pub returns-in-Tape : goal.returns-in-Tape
returns-in-Tape c = record {
  value = let a = c.args in
      tape_row a.how _ c.stride.ensures.value a.f.now c.in-Tape.is a.k _ _ c.columns-l.ensures.value c.translated.ensures.value;
}
