-- What `sets::counting::traces` leaves to show.
use Rattle.std.proofs.Common.{ℕ, ◌+◌, sym, ap, ◌∙◌, arith}
use Rattle.rules.specs.Check.{all_traces}
use Rattle.rules.specs.Places.{sum}
use Rattle.rules.specs.TraceRows.{traces_at}
use Rattle.rules.proofs.Steps.{sum_more, sum_none}
use Rattle.lines.specs.Reading.{sheet_of}
use Rattle.order.proofs.Ranks.{few_lines}
use Rattle.sets.proofs.counting.traces.Goals as goal

pub loop-k-init : goal.loop-k-init
loop-k-init c = record { few = omega arith; counted = sym (sum_none _) }

pub line_traces-m-requires : goal.line_traces-m-requires
line_traces-m-requires c = let n = c.line_count-k-end.ensures.value in
    (c.requires, omega arith)

pub overflow_add-m : goal.overflow_add-m
overflow_add-m c = let n = c.line_count-k-end.ensures.value in
    omega (arith, few_lines _ c.requires.few, c.loop-k.invariant.few, c.line_traces-m.ensures.small)

pub loop-k-preserved : goal.loop-k-preserved
loop-k-preserved c = let at = c.loop-k in
    record {
      few = omega (arith, at.invariant.few, c.line_traces-m.ensures.small);
      counted = ap (λ (t : ℕ). at.m + t) c.line_traces-m.ensures.value ∙ sum_more _ _ _ at.invariant.counted;
    }

pub returns : goal.returns
unfolding all_traces
returns c = record {
  value = let at = c.loop-k in
      let a = c.args in
      let n = c.line_count-k-end.ensures.value in
      at.invariant.counted ∙ ap (λ (k : ℕ). sum k (traces_at (sheet_of a.how a.x.now))) (omega arith);
}
