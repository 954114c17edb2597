-- What `headers::has_type` leaves to show.
use Rattle.std.proofs.Common.{rules, tests}
use Rattle.rules.proofs.Ranges.{some_from_any}
use Rattle.headers.specs.Steps.{has_type}
use Rattle.lines.proofs.Sheets.{layout_is}
use Rattle.headers.proofs.Laws.{type_here}
use Rattle.headers.proofs.has_type.Goals as goal

pub returns : goal.returns
unfolding has_type
returns c = record { value = some_from_any _ _ c.any.ensures.ran (cc) (λ x b q k. search (rules, tests, type_here, layout_is)) }
