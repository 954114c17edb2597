-- What `dead::count_killed` leaves to show.
use native.Mathlib.Omega.{arith}
use mathlib.Core.Path.{refl, sym}
use lib.ListN.{length-set}
use Rattle.rules.proofs.Steps.{count_none}
use Rattle.rules.specs.Sheet.{most_lines}
use Rattle.lines.specs.Reading.{sheet_of}
use Rattle.dead.proofs.Running.{counted_on, few_counted, row_passed}
use Rattle.dead.proofs.count_killed.Goals as goal

pub loop-j-init : goal.loop-j-init
loop-j-init c = record { size = refl; sum = sym (count_none _); passed = λ i h. absurd (omega arith) }

pub overflow_add-n : goal.overflow_add-n
unfolding most_lines
overflow_add-n c = let at = c.loop-j in
    let m = few_counted _ c.args.o.now at.t at.j _ _ at.invariant.sum c.one_if_killed-n.ensures.value in
    omega (arith, c.requires.few)

pub loop-j-preserved : goal.loop-j-preserved
loop-j-preserved c = let at = c.loop-j in
    let R = sheet_of c.args.how c.args.r.now in
    let o = c.args.o.now in
    let f = c.one_if_killed-n.ensures.value in
    let v = at.invariant in
    record {
      size = simp length-set v.size;
      sum = counted_on R o at.t at.j _ _ v.sum f;
      passed = row_passed R o at.t at.j _ _ v.sum f (omega (arith, c.requires.room, v.size)) v.passed;
    }
