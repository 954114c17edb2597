-- What `shots::onward` leaves to show.
use mathlib.Core.Path.{sym, ◌∙◌}
use native.Mathlib.Omega.{arith}
use Rattle.rules.proofs.Tests.{clash}
use Rattle.shots.specs.Places.{onward}
use Rattle.shots.proofs.Held.{held_at}
use Rattle.shots.proofs.Places.{from_first, from_none, past_more, found_in, none_in}
use Rattle.shots.proofs.onward.Goals as goal

pub loop-j-init : goal.loop-j-init
loop-j-init c = λ i l g. absurd (omega arith)

pub returns-then-holds_shot : goal.returns-then-holds_shot
unfolding onward
returns-then-holds_shot c = record {
  value = let a = c.args in
      let p = c.requires in
      let at = c.loop-j in
      let n = c.line_count-j-end.ensures.value in
      let e = c.holds_shot.ensures.value ∙ held_at a.how a.s.now a.x.now p.0.0 p.0.1 a.k p.1 _ c.shot_key-y.ensures.value at.j (omega arith) in
      found_in _ _ at.j (from_first _ _ _ at.j (omega arith) (omega arith) (sym e ∙ c.if-holds_shot.true) at.invariant) (omega arith);
}

pub loop-j-preserved : goal.loop-j-preserved
loop-j-preserved c = let a = c.args in
    let p = c.requires in
    let at = c.loop-j in
    let n = c.line_count-j-end.ensures.value in
    let e = c.holds_shot.ensures.value ∙ held_at a.how a.s.now a.x.now p.0.0 p.0.1 a.k p.1 _ c.shot_key-y.ensures.value at.j (omega arith) in
    past_more _ _ at.j at.invariant (λ t. clash (sym c.if-holds_shot.false ∙ e ∙ t))

pub returns : goal.returns
unfolding onward
returns c = record {
  value = let at = c.loop-j in
      let n = c.line_count-j-end.ensures.value in
      none_in _ _ (from_none _ _ _ (λ i l g. at.invariant i l (omega arith)));
}
