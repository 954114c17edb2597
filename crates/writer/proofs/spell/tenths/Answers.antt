-- What `writer::spell::tenths` leaves to show.
use Prim.Native.Nat.{◌/◌}
use native.Mathlib.Omega.{arith}
use Rattle.rules.proofs.Figures.{twenty}
use Rattle.rules.specs.Spelled.{with_point}
use Rattle.texts.proofs.Adding.{then}
use Rattle.writer.proofs.spell.tenths.Goals as goal

pub digits-b-requires : goal.digits-b-requires
digits-b-requires c = omega (arith, twenty (c.args.n / 10) (omega arith), c.sign-a.ensures.small)

pub add-requires : goal.add-requires
add-requires c = omega (arith, twenty (c.args.n / 10) (omega arith), c.sign-a.ensures.small, c.digits-b.ensures.added.ends)

pub returns : goal.returns
unfolding with_point
returns c = record { added = then c.sign-a.ensures.added (then c.digits-b.ensures.added c.add.ensures.added) }
