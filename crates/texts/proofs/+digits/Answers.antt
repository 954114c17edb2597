-- What `texts::digits` leaves to show.
use Rattle.std.proofs.Common.{◌≤◌, arith, length}
use Rattle.texts.proofs.Adding.{then}
use Rattle.rules.proofs.Figures.{decimal_small, decimal_more, room_small, room_more}
use Rattle.texts.proofs.+digits.Goals as goal

pub byte-requires : goal.byte-requires
byte-requires t c = room_small c.args.v c.args.n (length c.args.out.now) (omega arith) c.requires

pub returns-then-v-lt10 : goal.returns-then-v-lt10
returns-then-v-lt10 t c = record { added = rw (decimal_small c.args.v (omega arith)) c.byte.ensures.added }

pub digits-m-requires : goal.digits-m-requires
digits-m-requires t c =
    let h : 10 ≤ c.args.v = omega arith in
    (omega arith, omega (arith, room_more c.args.v c.args.n (length c.args.out.now) h c.requires))

pub byte-requires-2 : goal.byte-requires-2
byte-requires-2 t c =
    omega (arith, room_more c.args.v c.args.n (length c.args.out.now) (omega arith) c.requires, c.digits-m.ensures.added.ends, c.digits-m.auto.out)

pub returns : goal.returns
returns t c = record { added = rw (decimal_more c.args.v (omega arith)) (then c.digits-m.ensures.added c.byte-2.ensures.added) }
