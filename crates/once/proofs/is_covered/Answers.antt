-- What `once::is_covered` leaves to show.
use native.Mathlib.Omega.{arith}
use Rattle.once.proofs.Lines.{line_inside, line_seen}
use Rattle.once.proofs.is_covered.Goals as goal

pub overflow_add-e : goal.overflow_add-e
overflow_add-e c = let h = line_inside _ _ _ _ _ c.requires _ _ c.first_row-e.ensures.value c.receivers_of.ensures.value in
    omega arith

pub is_marked-requires : goal.is_marked-requires
is_marked-requires c = let h = line_inside _ _ _ _ _ c.requires _ _ c.first_row-e.ensures.value c.receivers_of.ensures.value in
    omega (arith, c.requires.room)

pub returns : goal.returns
returns c = record { value = line_seen _ _ _ _ _ c.requires _ _ c.first_row-e.ensures.value c.receivers_of.ensures.value _ _ c.is_marked.ensures.value }
