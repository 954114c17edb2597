-- What `order::repeat::lesser` leaves to show.
use Rattle.std.proofs.Common.{◌∙◌, sym, arith}
use Rattle.order.proofs.Firsts.{lesser_this}
use Rattle.order.proofs.Ranks.{few_lines}
use Rattle.order.proofs.repeat.lesser.Goals as goal

pub returns-then-same : goal.returns-then-same
returns-then-same c = record {
  value = let r = c.requires in (
    omega arith,
    (
      (λ _ _. omega arith),
      (λ _.
          lesser_this _ _ _ c.args.e c.args.m r.small.0 (few_lines _ r.small.1.0) r.in_order.0 r.small.1.1
          (sym c.linked.ensures.value ∙ c.if-not-linked.true) (sym c.same.ensures.value ∙ c.if-same.true)),
    ),
  );
}
