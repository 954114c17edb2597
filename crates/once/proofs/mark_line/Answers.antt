-- What `once::mark_line` leaves to show.
use native.Mathlib.Omega.{arith}
use Rattle.once.proofs.Lines.{line_inside, line_put}
use Rattle.once.proofs.mark_line.Goals as goal

pub overflow_add-e : goal.overflow_add-e
overflow_add-e c = let h = line_inside _ _ _ _ _ c.requires _ _ c.first_row-e.ensures.value c.receivers_of.ensures.value in
    omega arith

pub mark-requires : goal.mark-requires
mark-requires c = let h = line_inside _ _ _ _ _ c.requires _ _ c.first_row-e.ensures.value c.receivers_of.ensures.value in
    omega (arith, c.requires.room)

pub returns : goal.returns
returns c = record { written = line_put _ _ _ _ _ c.requires _ _ c.first_row-e.ensures.value c.receivers_of.ensures.value _ _ c.mark.ensures.written }
