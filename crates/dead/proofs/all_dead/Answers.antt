-- What `dead::all_dead` leaves to show.
use native.Mathlib.Omega.{arith}
use mathlib.Core.Path.{ap, sym, ◌∙◌}
use Prim.Native.Nat.{ℕ, ◌+◌}
use Rattle.rules.proofs.Steps.{sum_none, sum_more}
use Rattle.order.proofs.Ranks.{few_lines}
use Rattle.dead.proofs.all_dead.Goals as goal

pub loop-k-init : goal.loop-k-init
loop-k-init c = record { small = omega arith; sum = sym (sum_none _) }

pub overflow_add-all : goal.overflow_add-all
overflow_add-all c = let p = c.requires in
    let n = c.line_count-k-end.ensures.value in
    omega (arith, few_lines _ p.set.relations.few, c.loop-k.invariant.small, c.line_dead-all.ensures.small)

pub loop-k-preserved : goal.loop-k-preserved
loop-k-preserved c = let at = c.loop-k in
    record {
      small = omega (arith, at.invariant.small, c.line_dead-all.ensures.small);
      sum = ap (λ (t : ℕ). at.all + t) c.line_dead-all.ensures.value ∙ sum_more _ _ _ at.invariant.sum;
    }
