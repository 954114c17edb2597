-- What `fields::figures::number` leaves to show.
use native.Mathlib.Omega.{arith}
use Rattle.fields.proofs.LowHalves.{figures_end, figures_step, room_more, room_eight}
use Rattle.fields.proofs.figures.number.Goals as goal

pub loop-c-preserved : goal.loop-c-preserved
loop-c-preserved c = record {
  within = omega arith;
  room = room_more _ _ _ _ (omega arith) c.loop-c.invariant.room (omega (arith, c.low.ensures.value));
  read = figures_step _ _ _ (omega arith) _ _ c.loop-c.invariant.read (omega arith) _ c.low.ensures.value;
}

pub returns : goal.returns
returns c = let h = room_eight _ _ _ c.loop-c.invariant.room c.loop-c.invariant.within in
    record { value = figures_end _ _ _ (omega arith) _ _ c.loop-c.invariant.read (omega arith); small = omega arith }
