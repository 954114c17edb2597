-- What `dead::line_dead` leaves to show.
use lib.Dec.{lit≤}
use mathlib.Core.Path.{◌∙◌}
use Rattle.dead.proofs.Step.{step_at, span_at}
use Rattle.dead.proofs.Line.{not_relation, relation_line_lem, inside_rows, product, product_small}
use Rattle.dead.proofs.line_dead.Goals as goal

pub returns-then-not-takes : goal.returns-then-not-takes
returns-then-not-takes c = record {
  value = not_relation _ _ c.requires.1 _ (rw c.records.ensures.value at c.takes.ensures.value) _ c.if-not-takes.true;
  small = lit≤ tt;
}

pub first_row-e-requires : goal.first_row-e-requires
first_row-e-requires c = let p = c.requires in
    let w = p.0.set in
    ((w.receivers, p.0.rows), (w.relations, relation_line_lem _ _ p.1 _ (rw c.records.ensures.value at c.takes.ensures.value) c.if-not-takes.false))

pub killed_rows-requires : goal.killed_rows-requires
killed_rows-requires c = let p = c.requires in
    let w = p.0.set.relations in
    let h = relation_line_lem _ _ p.1 _ (rw c.records.ensures.value at c.takes.ensures.value) c.if-not-takes.false in
    let far = span_at c.args.how _ w _ h _ c.own_of-l.ensures.value _ _ _ c.number.ensures.value c.number-2.ensures.value c.abs_diff-d.ensures in
    (p.0.tally, inside_rows _ _ _ _ p.0 _ h _ c.first_row-e.ensures.value _ far)

pub returns : goal.returns
returns c = let p = c.requires in
    let w = p.0.set.relations in
    let h = relation_line_lem _ _ p.1 _ (rw c.records.ensures.value at c.takes.ensures.value) c.if-not-takes.false in
    let l = c.own_of-l.ensures.value in
    let far = span_at c.args.how _ w _ h _ l _ _ _ c.number.ensures.value c.number-2.ensures.value c.abs_diff-d.ensures in
    let n = c.from.ensures ∙ c.killed_rows.ensures.value in
    let s = c.index.ensures.value ∙ step_at c.args.how _ w _ h _ l in
    record {
      value = product _ _ _ _ p.0 _ h _ c.first_row-e.ensures.value _ far _ n _ s;
      small = product_small _ _ _ _ p.0 _ h _ c.first_row-e.ensures.value _ far _ n _ s c.index.ensures.small;
    }
