-- What `lines::eof::says_eof` leaves to show.
use Rattle.std.proofs.Common.{◌∙◌, arith}
use Rattle.lines.proofs.Laws.{ends_is}
use Rattle.lines.proofs.eof.says_eof.Goals as goal

pub returns : goal.returns
returns c = record { value = c.eq.ensures ∙ ends_is _ _ c.requires _ (omega arith) }
