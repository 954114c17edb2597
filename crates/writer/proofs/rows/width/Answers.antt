-- What `writer::rows::width` leaves to show.
use native.Mathlib.Omega.{arith}
use Rattle.fields.proofs.Widths.{sized_is}
use Rattle.writer.proofs.rows.width.Goals as goal

pub overflow_add-result : goal.overflow_add-result
overflow_add-result c = let h = sized_is _ _ _ c.requires in record { fits = omega arith }

pub overflow_sub-result : goal.overflow_sub-result
overflow_sub-result c = let h = sized_is _ _ _ c.requires in omega arith
