-- What `lines::char_of` leaves to show.
use Rattle.rules.specs.Disc.{disc}
use Rattle.rules.specs.Tape.{tape}
use Rattle.lines.proofs.char_of.Goals as goal

pub returns-in-Disc : goal.returns-in-Disc
unfolding disc
returns-in-Disc c = record { value = rw c.in-Disc.is }

pub returns-in-Tape : goal.returns-in-Tape
unfolding tape
returns-in-Tape c = record { value = rw c.in-Tape.is c.char_of.ensures.value }
