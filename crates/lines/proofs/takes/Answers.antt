-- What `lines::takes` leaves to show.
use Rattle.rules.specs.Disc.{disc}
use Rattle.rules.specs.Tape.{tape}
use Rattle.lines.proofs.CodePage.{taken_is}
use Rattle.lines.proofs.takes.Goals as goal

pub returns-in-Disc : goal.returns-in-Disc
unfolding disc
returns-in-Disc c = record { value = rw c.in-Disc.is c.byte_fits.ensures.value }

pub returns-in-Tape : goal.returns-in-Tape
unfolding tape
returns-in-Tape c = record { value = rw c.in-Tape.is (taken_is _ _ c.char_of.ensures.value) }
