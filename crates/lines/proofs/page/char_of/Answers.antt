-- What `lines::page::char_of` leaves to show.
use Rattle.std.proofs.Common.{rules}
use Rattle.lines.proofs.CodePage.{chars_at}
use Rattle.lines.proofs.page.char_of.Goals as goal

pub returns : goal.returns
returns c = record { value = chars_at _ (search rules) }
