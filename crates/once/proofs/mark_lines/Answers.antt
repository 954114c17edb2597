-- What `once::mark_lines` leaves to show.
use mathlib.Core.Path.{◌≡◌, refl, ◌∙◌}
use native.Mathlib.Omega.{arith}
use Rattle.once.proofs.Marking.{marked_none, marked_more}
use Rattle.once.proofs.mark_lines.Goals as goal

pub loop-i-init : goal.loop-i-init
loop-i-init c = record { size = refl; marked = marked_none _ _ _ _ _ c.requires.1 }

pub loop-i-preserved : goal.loop-i-preserved
loop-i-preserved c = let at = c.loop-i in
    let m = c.mark_line.ensures.written in
    record {
      size = m.size ∙ at.invariant.size;
      marked = marked_more _ _ _ _ _ _ at.i _ c.mark_of-v.ensures.value (omega arith) at.invariant.marked m;
    }

pub returns-2 : goal.returns-2
returns-2 c = let at = c.loop-i in
    let m = c.mark_line.ensures.written in
    let e : at.i ≡ c.args.k = omega arith in
    record {
      written = let w = marked_more _ _ _ _ _ _ at.i _ c.mark_of-v.ensures.value (omega arith) at.invariant.marked m in rw (← e) w;
      size = m.size ∙ at.invariant.size;
    }
