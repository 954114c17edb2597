-- What `codes::tables::opens` leaves to show.
use Rattle.std.proofs.Common.{rules, tests}
use Rattle.rules.proofs.Ranges.{some_from_any}
use Rattle.codes.proofs.tables.opens.Goals as goal

pub returns : goal.returns
returns c = record { value = some_from_any _ _ c.any.ensures.ran (cc) (λ x b q k. search (rules, tests)) }
