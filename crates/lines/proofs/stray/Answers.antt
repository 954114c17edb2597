-- What `lines::stray` leaves to show.
use Rattle.std.proofs.Common.{sym, ap}
use Rattle.lines.specs.Paper.{unless_none}
use Rattle.lines.proofs.stray.Goals as goal

pub returns-then-is_clean : goal.returns-then-is_clean
returns-then-is_clean c = record { value = sym (ap unless_none (c.is_clean.ensures.value c.if-is_clean.true)) }

pub returns : goal.returns
returns c = record { value = c.first_stray.ensures.value }
