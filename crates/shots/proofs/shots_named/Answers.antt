-- What `shots::shots_named` leaves to show.
use Rattle.rules.proofs.Steps.{none_yet, one_more, stops_here}
use Rattle.lines.proofs.Sheets.{rank_same}
use Rattle.form.proofs.Known.{formed}
use Rattle.shots.proofs.Held.{line_small}
use Rattle.shots.proofs.Named.{at_first, step_other, step_named, step_unnamed}
use mathlib.Core.Path.{◌∙◌}
use native.Mathlib.Omega.{arith}
use Rattle.shots.proofs.shots_named.Goals.{then-is_live+else-i-j, else-is_live}
use Rattle.shots.proofs.shots_named.Goals as goal

pub loop-k-init : goal.loop-k-init
loop-k-init c = let p = c.requires in
    record { passed = at_first _ _ p.shots (formed 3 _ p.relations).rule4 p.met _ c.heads-j.ensures.value; met = none_yet _ }

pub at_line-requires : goal.at_line-requires
at_line-requires c = let n = c.line_count-k-end.ensures.value in line_small _ c.requires.shots.0.few (omega arith)

pub returns-then-i-j : goal.returns-then-i-j
returns-then-i-j c = record {
  verdict = let a = c.args in
      let at = c.loop-k in
      let n = c.line_count-k-end.ensures.value in
      c.at_line.ensures.verdict
      ∙ stops_here _ at.k _ _ (omega arith) at.invariant.met
      (step_unnamed _ _ c.requires (rank_same a.how a.s.now a.x.now) at.k at.j (omega arith) at.invariant.passed _ c.is_live.ensures.value
      c.if-is_live.true _ (rw c.points-z.ensures.value at c.key_of.ensures.value) _ c.past-i.ensures.value c.if-i-j.true);
}

pub loop-k-preserved : goal.loop-k-preserved
loop-k-preserved c = let a = c.args in
    let at = c.loop-k in
    let n = c.line_count-k-end.ensures.value in
    elim c.if-is_live.branch [
      | then-is_live+else-i-j w ↦
          let v = step_named _ _ c.requires (rank_same a.how a.s.now a.x.now) at.k at.j (omega arith) at.invariant.passed _ c.is_live.ensures.value
          w.if-is_live.true _ (rw c.points-z.ensures.value at w.key_of.ensures.value) _ w.past-i.ensures.value w.if-i-j.false in
          record { passed = rw w.j-is v.1; met = one_more _ at.k at.invariant.met v.0 }
      | else-is_live w ↦
          let v = step_other _ _ c.requires (rank_same a.how a.s.now a.x.now) at.k at.j (omega arith) at.invariant.passed _ c.is_live.ensures.value
          w.if-is_live.false in
          record { passed = rw w.j-is v.1; met = one_more _ at.k at.invariant.met v.0 }
    ]
