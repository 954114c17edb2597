-- What `order::repeat::first` leaves to show.
use native.Mathlib.Omega.{arith}
use Rattle.order.proofs.Firsts.{is_first}
use Rattle.order.proofs.Ranks.{few_lines}
use Rattle.order.proofs.repeat.first.Goals as goal

pub returns : goal.returns
returns c = record {
  value = let inv = c.loop-e.invariant in
      is_first _ _ c.args.o.now _ c.requires.small.0 (few_lines _ c.requires.small.1) c.requires.in_order _
      (λ d h. inv.low d (omega arith)) inv.inside inv.seen;
}
