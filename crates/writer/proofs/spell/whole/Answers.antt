-- What `writer::spell::whole` leaves to show.
use native.Mathlib.Omega.{arith}
use Rattle.rules.proofs.Figures.{twenty}
use Rattle.texts.proofs.Adding.{then}
use Rattle.writer.proofs.spell.whole.Goals as goal

pub digits-requires : goal.digits-requires
digits-requires c = omega (arith, twenty c.args.n (omega arith), c.sign-m.ensures.small)

pub returns : goal.returns
returns c = record { added = then c.sign-m.ensures.added c.digits.ensures.added }
