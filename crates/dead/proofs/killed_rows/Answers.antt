-- What `dead::killed_rows` leaves to show.
use native.Mathlib.Omega.{arith}
use Rattle.dead.proofs.Line.{sized, between}
use Rattle.dead.proofs.killed_rows.Goals as goal

pub overflow_add-result-2 : goal.overflow_add-result-2
overflow_add-result-2 c = let p = c.requires in
    omega (arith, sized _ _ _ p.0 _ _ p.1 _ c.one_if_killed.ensures.value)

pub overflow_sub-result : goal.overflow_sub-result
overflow_sub-result c = let p = c.requires in
    omega (arith, between _ _ _ p.0 _ _ p.1 _ c.one_if_killed.ensures.value)

pub returns : goal.returns
returns c = record {
  value = let p = c.requires in
      omega (arith, between _ _ _ p.0 _ _ p.1 _ c.one_if_killed.ensures.value);
}
