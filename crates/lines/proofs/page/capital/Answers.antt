-- What `lines::page::capital` leaves to show.
use Rattle.lines.proofs.CodePage.{first_run, second_run, third_run}
use Rattle.lines.proofs.page.capital.Goals as goal

pub returns-then-c-lt74 : goal.returns-then-c-lt74
returns-then-c-lt74 c = record { value = let p = c.requires in first_run _ p.0 p.1 c.if-c-lt74.true }

pub returns-then-c-lt83 : goal.returns-then-c-lt83
returns-then-c-lt83 c = record { value = let p = c.requires in second_run _ p.0 p.1 c.if-c-lt74.false c.if-c-lt83.true }

pub returns : goal.returns
returns c = record { value = let p = c.requires in third_run _ p.0 p.1 c.if-c-lt74.false c.if-c-lt83.false }
