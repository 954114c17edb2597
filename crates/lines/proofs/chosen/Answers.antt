-- What `lines::chosen` leaves to show.
use Rattle.std.proofs.Common.{arith}
use Rattle.lines.proofs.Laws.{chosen_disc, chosen_tape, chosen_none}
use Rattle.lines.proofs.chosen.Goals as goal

pub returns-in-1 : goal.returns-in-1
returns-in-1 c = record { value = chosen_disc _ c.in-1.is }

pub returns-in-2 : goal.returns-in-2
returns-in-2 c = record { value = chosen_tape _ c.in-2.is }

pub returns-in_default : goal.returns-in_default
returns-in_default c = record { value = chosen_none _ (λ z. omega arith) (λ z. omega arith) }
