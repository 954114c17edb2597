-- What `lines::page::look` leaves to show.
use Rattle.std.proofs.Common.{rules}
use Rattle.lines.proofs.page.look.Goals as goal

pub returns : goal.returns
returns c = record { value = c.requires _ (search rules) }
