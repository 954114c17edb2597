-- What `receivers::all_there` leaves to show.
use Rattle.std.proofs.Common.{◌∙◌, arith}
use borrow.Author.Tests.{le-ltb}
use Rattle.receivers.proofs.There.{first_below, too_few, last_tells}
use Rattle.receivers.proofs.Numbers.{key_is, lowest_read, highest_read}
use Rattle.receivers.proofs.all_there.Goals as goal

pub overflow_sub-o : goal.overflow_sub-o
overflow_sub-o c = let p = c.requires in
    omega (arith, p.first, first_below _ _ p.receivers p.rows _ _ p.relations p.alike p.line)

pub returns-then-d-o : goal.returns-then-d-o
returns-then-d-o c = record {
  value = let a = c.args in
      let p = c.requires in
      let own = c.own_of-l.ensures.value in
      let from = c.number-from.ensures.value in
      let to = c.number-to.ensures.value in
      last_tells _ _ p.receivers p.rows _ _ p.relations p.alike p.line _ p.first _ _
      (c.min.ensures ∙ lowest_read a.how a.x.now p.relations _ p.line _ own _ _ from to)
      (c.max-high.ensures ∙ highest_read a.how a.x.now p.relations _ p.line _ own _ _ from to)
      (λ e. omega arith) c.if-d-o.true _
      (key_is _ _ _ _ _ c.receiver_key.ensures.value) _ c.is_row.ensures.value;
}

pub returns-else-d-o : goal.returns-else-d-o
returns-else-d-o c = record {
  value = let a = c.args in
      let p = c.requires in
      let own = c.own_of-l.ensures.value in
      let from = c.number-from.ensures.value in
      let to = c.number-to.ensures.value in
      le-ltb _ _ c.if-d-o.false
      ∙ too_few _ _ p.receivers p.rows _ _ p.relations p.alike p.line _ p.first _ _
      (c.min.ensures ∙ lowest_read a.how a.x.now p.relations _ p.line _ own _ _ from to)
      (c.max-high.ensures ∙ highest_read a.how a.x.now p.relations _ p.line _ own _ _ from to) c.if-d-o.false;
}
