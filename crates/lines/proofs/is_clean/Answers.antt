-- What `lines::is_clean` leaves to show.
use Rattle.std.proofs.Common.{arith, rules}
use Rattle.lines.proofs.CodePage.{no_gap_taken}
use Rattle.lines.proofs.Sheets.{disc_place, disc_clean, tape_place, tape_clean}
use Rattle.lines.proofs.is_clean.Goals as goal

pub overflow_mul-k : goal.overflow_mul-k
overflow_mul-k c = omega (arith, disc_place c.args.how c.in-Disc.is c.args.f.now c.args.k c.requires)

pub all_proper-requires : goal.all_proper-requires
all_proper-requires c = omega (arith, disc_place c.args.how c.in-Disc.is c.args.f.now c.args.k c.requires)

pub overflow_mul-k-in-Tape : goal.overflow_mul-k-in-Tape
overflow_mul-k-in-Tape c = omega (arith, tape_place c.args.how c.in-Tape.is c.args.f.now c.args.k c.requires)

pub columns-requires : goal.columns-requires
columns-requires c = omega (arith, tape_place c.args.how c.in-Tape.is c.args.f.now c.args.k c.requires)

pub returns-in-Disc : goal.returns-in-Disc
returns-in-Disc c = record {
  value = λ t.
      disc_clean c.args.how c.in-Disc.is c.args.f.now c.args.k c.requires (c.all_proper.ensures.value t);
}

pub returns-in-Tape : goal.returns-in-Tape
returns-in-Tape c = record {
  value = λ t.
      let l = c.columns in
      tape_clean c.args.how c.in-Tape.is c.args.f.now c.args.k c.requires l.result l.ensures.value
      (no_gap_taken l.result _ (search rules) c.translated.ensures.value (c.all_taken.ensures.value t));
}
