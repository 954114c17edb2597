-- What `lines::line_count` leaves to show.
use Rattle.lines.proofs.Sheets.{disc_count, tape_count}
use Rattle.lines.proofs.line_count.Goals as goal

pub returns-in-Disc : goal.returns-in-Disc
returns-in-Disc c = record { value = let a = c.args in disc_count a.how c.in-Disc.is a.f.now }

pub returns-in-Tape : goal.returns-in-Tape
returns-in-Tape c = record { value = let a = c.args in tape_count a.how c.in-Tape.is a.f.now _ c.saturating_sub.ensures }
