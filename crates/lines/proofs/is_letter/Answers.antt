-- What `lines::is_letter` leaves to show.
use Rattle.rules.specs.Disc.{disc}
use Rattle.rules.specs.Tape.{tape}
use Rattle.lines.proofs.CodePage.{letter_told}
use Rattle.lines.proofs.is_letter.Goals as goal

pub returns-in-Disc : goal.returns-in-Disc
unfolding disc
returns-in-Disc c = record { value = rw c.in-Disc.is }

pub returns-in-Tape : goal.returns-in-Tape
unfolding tape
returns-in-Tape c = record {
  value = let p = c.requires in
      rw c.in-Tape.is (letter_told _ p.0 p.1 _ _ c.capital.ensures.value);
}
