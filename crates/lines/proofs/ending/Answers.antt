-- What `lines::ending` leaves to show.
use Rattle.std.proofs.Common.{arith}
use Rattle.lines.proofs.Sheets.{width, disc_end, tape_end, tape_room}
use Rattle.lines.proofs.ending.Goals as goal

pub nonzero_div-n : goal.nonzero_div-n
nonzero_div-n c = omega (arith, width c.args.how _ c.stride.ensures.value)

pub first_eof-requires : goal.first_eof-requires
first_eof-requires c = let a = c.args in
    tape_room a.how _ c.stride.ensures.value a.f.now c.in-Tape.is

pub returns-in-Disc : goal.returns-in-Disc
returns-in-Disc c = record {
  value = let a = c.args in
      disc_end a.how _ c.stride.ensures.value a.f.now c.in-Disc.is;
}

pub returns-in-Tape : goal.returns-in-Tape
returns-in-Tape c = record {
  value = let a = c.args in
      tape_end a.how _ c.stride.ensures.value a.f.now c.in-Tape.is _ c.first_eof.ensures.value;
}
