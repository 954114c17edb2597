-- What `sets::points_across` leaves to show.
use Rattle.std.proofs.Common.{arith}
use Rattle.keys.specs.declared.By.TheVariants.{Points}
use Rattle.sets.proofs.Across.{small_keys}
use Rattle.sets.proofs.points_across.Goals as goal

pub first_repeat-again-requires : goal.first_repeat-again-requires
first_repeat-again-requires c = let p = c.requires in
    let few = p.0.1.few in
    rw c.points.ensures.value (small_keys 2 _ p.0.1 Points, (few, (omega (arith, few, p.1.0), omega (arith, few, p.1.1))))

pub shots_fit-requires : goal.shots_fit-requires
shots_fit-requires c = (
  c.requires.0.1,
  (rw c.points.ensures.value at c.first_repeat-again.ensures.value, omega arith),
)
