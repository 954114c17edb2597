-- What `fields::names::pack` leaves to show.
use native.Mathlib.Omega.{arith}
use Rattle.fields.proofs.Walks.{byte_more, eight, packed_step}
use Rattle.fields.proofs.names.pack.Goals as goal

pub overflow_mul-v : goal.overflow_mul-v
overflow_mul-v c = let h = eight _ c.loop-c.invariant.small (omega arith) in omega arith

pub overflow_add-v : goal.overflow_add-v
overflow_add-v c = let h = eight _ c.loop-c.invariant.small (omega arith) in omega (arith, c.from.ensures)

pub loop-c-preserved : goal.loop-c-preserved
loop-c-preserved c = record {
  small = byte_more c.args.a _ (omega arith) c.loop-c.invariant.small (omega (arith, c.from.ensures));
  read = packed_step _ _ _ (omega arith) _ _ c.loop-c.invariant.read _ (omega arith) c.from.ensures;
}
