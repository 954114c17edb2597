-- What `sets::counting::line_traces` leaves to show.
use mathlib.Core.Path.{◌∙◌}
use lib.Dec.{lit≤}
use Rattle.keys.proofs.Read.{from_at, upto_at}
use Rattle.sets.proofs.Tally.{no_traces, relation_line_lem, some_traces}
use Rattle.sets.proofs.counting.line_traces.Goals as goal

pub returns-then-not-takes : goal.returns-then-not-takes
returns-then-not-takes c = let p = c.requires in
    record {
      value = no_traces _ _ p.1 _ (rw c.records-z.ensures.value at c.takes.ensures.value) c.if-not-takes.true;
      small = lit≤ tt;
    }

pub returns : goal.returns
returns c = record {
  value = let a = c.args in
      let p = c.requires in
      let q = rw c.records-z.ensures.value at c.takes.ensures.value in
      let y = c.if-not-takes.false in
      let r = relation_line_lem _ _ p.1 _ q y in
      (some_traces _ _ p.1 _ q y p.0 _ _ _
      (c.number.ensures.value ∙ from_at a.how a.x.now p.0 _ r _ c.own_of-l.ensures.value)
      (c.number-2.ensures.value ∙ upto_at a.how a.x.now p.0 _ r _ c.own_of-l.ensures.value) c.channels.ensures.value).0;
  small = let a = c.args in
      let p = c.requires in
      let q = rw c.records-z.ensures.value at c.takes.ensures.value in
      let y = c.if-not-takes.false in
      let r = relation_line_lem _ _ p.1 _ q y in
      (some_traces _ _ p.1 _ q y p.0 _ _ _
      (c.number.ensures.value ∙ from_at a.how a.x.now p.0 _ r _ c.own_of-l.ensures.value)
      (c.number-2.ensures.value ∙ upto_at a.how a.x.now p.0 _ r _ c.own_of-l.ensures.value) c.channels.ensures.value).1;
}
