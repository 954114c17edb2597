-- What `texts::number` leaves to show.
use native.Mathlib.Omega.{arith}
use Rattle.texts.proofs.Adding.{then}
use Rattle.rules.proofs.Figures.{twenty}
use Rattle.texts.proofs.number.Goals as goal

pub digits-requires : goal.digits-requires
digits-requires c = let call = c.byte-m in
    omega (arith, twenty c.args.v (omega arith), call.ensures.added.ends, call.auto.out)

pub returns : goal.returns
returns c = let w = c.byte-m.ensures.added in
    let d = c.digits.ensures.added in
    record {
      added = then w d;
      small = omega (arith, twenty c.args.v (omega arith), w.ends, d.ends);
    }
