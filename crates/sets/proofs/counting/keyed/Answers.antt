-- What `sets::counting::keyed` leaves to show.
use Rattle.std.proofs.Common.{sym, ◌∙◌, arith}
use Rattle.rules.proofs.Steps.{count_no, count_none, count_yes}
use Rattle.sets.proofs.counting.keyed.Goals.{then-takes, else-takes}
use Rattle.sets.proofs.counting.keyed.Goals as goal

pub loop-k-init : goal.loop-k-init
loop-k-init c = record { few = omega arith; counted = sym (count_none _) }

pub loop-k-preserved : goal.loop-k-preserved
loop-k-preserved c = let at = c.loop-k in
    let t = c.takes.ensures.value in
    elim c.if-takes.branch [
      | then-takes w ↦ record {
        few = omega (arith, w.m-is);
        counted = w.m-is ∙ count_yes _ _ _ at.invariant.counted (sym t ∙ w.if-takes.true);
      }
      | else-takes w ↦ record {
        few = omega (arith, w.m-is);
        counted = w.m-is ∙ count_no _ _ _ at.invariant.counted (sym t ∙ w.if-takes.false);
      }
    ]
