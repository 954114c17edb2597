-- What `rows::part::put` leaves to show.
use Rattle.std.proofs.Common.{ℕ, ◌+◌, ◌-◌, ◌<◌, refl, sym, subst, arith}
use Rattle.rules.specs.Sheet.{most_lines}
use Rattle.order.specs.Sorted.{nth}
use Rattle.rows.proofs.Parted.{component_low, part_none, part_more}
use Rattle.rows.proofs.part.put.Goals as goal

pub loop-i-init : goal.loop-i-init
loop-i-init c v y = part_none _ _ _ _ _ _ _ _ _ (omega arith)

pub overflow_cast-last : goal.overflow_cast-last
overflow_cast-last c =
    let w = c.requires.led (c.args.p.channel + (c.loop-i.i - c.args.p.place)) (omega arith) (omega arith) in
    let low = component_low _ _ _ _ w c.requires.few in
    omega (arith, low, c.component.ensures.value w.reach w.coded)

pub overflow_add-last : goal.overflow_add-last
overflow_add-last c =
    let w = c.requires.led (c.args.p.channel + (c.loop-i.i - c.args.p.place)) (omega arith) (omega arith) in
    let low = component_low _ _ _ _ w c.requires.few in
    let mark = c.requires.mark c.row_to-j.result c.row_to-j.ensures.inside in
    omega (arith, low, mark, c.component.ensures.value w.reach w.coded)

pub overflow_add-o : goal.overflow_add-o
unfolding most_lines
overflow_add-o c =
    let w = c.requires.led (c.args.p.channel + (c.loop-i.i - c.args.p.place)) (omega arith) (omega arith) in
    let line : nth c.args.o.now c.row_to-j.result < most_lines =
    subst (λ (i : ℕ). nth c.args.o.now i < most_lines) (sym (c.row_to-j.ensures.value w.reach w.coded)) w.few in
    omega (arith, line)

pub loop-i-preserved : goal.loop-i-preserved
loop-i-preserved c v y =
    let at = c.loop-i in
    let g = c.requires.room in
    part_more _ _ _ _ v _ c.args.p.place _ at.i _ _ _ (omega arith) refl (omega arith) (at.invariant v y) _ _ (c.row_to-j.ensures.value v y)
    (c.component.ensures.value v y) c.put.ensures.written
