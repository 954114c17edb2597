-- What `shots::past` leaves to show.
use mathlib.Core.Bool.{not}
use mathlib.Core.Path.{ap, sym, ◌∙◌}
use native.Mathlib.Omega.{arith}
use Rattle.rules.proofs.Tests.{clash}
use Rattle.shots.specs.Places.{past_of}
use Rattle.shots.proofs.Places.{from_first, from_none, past_more}
use Rattle.shots.proofs.past.Goals as goal

pub loop-i-init : goal.loop-i-init
loop-i-init c = λ m l g. absurd (omega arith)

pub returns-then-not-names : goal.returns-then-not-names
unfolding past_of
returns-then-not-names c = record {
  value = let at = c.loop-i in
      let n = c.line_count-n.ensures.value in
      from_first _ _ _ at.i (omega arith) (omega arith) (rw (← c.names.ensures.value) (ap not c.if-not-names.true)) at.invariant;
}

pub loop-i-preserved : goal.loop-i-preserved
loop-i-preserved c = let at = c.loop-i in
    past_more _ _ at.i at.invariant (λ t. clash (sym (ap not c.if-not-names.false) ∙ ap not c.names.ensures.value ∙ t))

pub returns : goal.returns
unfolding past_of
returns c = record {
  value = let at = c.loop-i in
      let n = c.line_count-n.ensures.value in
      n ∙ from_none _ _ _ (λ m l g. at.invariant m l (omega arith));
}
