-- What `once::pairs_apart` leaves to show.
use Rattle.std.proofs.Common.{rules, tests}
use Rattle.rules.proofs.Ranges.{every_from_all}
use Rattle.once.specs.Covered.{apart}
use Rattle.once.proofs.pairs_apart.Goals as goal

pub returns : goal.returns
unfolding apart
returns c = record { value = every_from_all _ _ _ c.all.ensures.ran (cc) (λ x b q k. search (rules, tests)) }
