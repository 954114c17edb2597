-- What `traces::traced` leaves to show.
use Rattle.lines.specs.Reading.{sheet_of}
use Rattle.rules.specs.Relations.{reach_at}
use Rattle.spread.proofs.Asked.{reads}
use Rattle.traces.proofs.Sets.{component_small, leads_inside, leads_small, leads_there, line_small, may_lead}
use native.Mathlib.Omega.{arith}
use Rattle.traces.proofs.traced.Goals as goal

pub leads-requires : goal.leads-requires
leads-requires c = let a = c.args in
    let p = c.requires in
    let e = reads a.how a.x.now a.k _ _ c.line_of.ensures.value c.reach_of-q.ensures.value in
    may_lead (sheet_of a.how a.r.now) (sheet_of a.how a.x.now) p.0 a.k a.channel p.1.0 p.1.1 _ e

pub overflow_cast-leads : goal.overflow_cast-leads
overflow_cast-leads c = let a = c.args in
    let p = c.requires in
    let e = reads a.how a.x.now a.k _ _ c.line_of.ensures.value c.reach_of-q.ensures.value in
    let s = leads_small (sheet_of a.how a.r.now) (sheet_of a.how a.x.now) p.0 a.k a.channel p.1.0 p.1.1 _ e in
    let z = c.leads.ensures.value (reach_at (sheet_of a.how a.x.now) a.k) e in
    omega arith

pub overflow_cast-result : goal.overflow_cast-result
overflow_cast-result c = let a = c.args in
    let p = c.requires in
    let e = reads a.how a.x.now a.k _ _ c.line_of.ensures.value c.reach_of-q.ensures.value in
    let s = line_small (sheet_of a.how a.r.now) (sheet_of a.how a.x.now) p.0 a.k a.channel p.1.0 p.1.1 _ e
    c.leads.result in
    let z = c.receiver_line-j.ensures.value in
    omega arith

pub overflow_add-result : goal.overflow_add-result
overflow_add-result c = let a = c.args in
    let p = c.requires in
    let e = reads a.how a.x.now a.k _ _ c.line_of.ensures.value c.reach_of-q.ensures.value in
    let s = line_small (sheet_of a.how a.r.now) (sheet_of a.how a.x.now) p.0 a.k a.channel p.1.0 p.1.1 _ e
    c.leads.result in
    let z = c.receiver_line-j.ensures.value in
    omega arith

pub component-requires : goal.component-requires
component-requires c = let a = c.args in
    let p = c.requires in
    let e = reads a.how a.x.now a.k _ _ c.line_of.ensures.value c.reach_of-q.ensures.value in
    may_lead (sheet_of a.how a.r.now) (sheet_of a.how a.x.now) p.0 a.k a.channel p.1.0 p.1.1 _ e

pub overflow_cast-result-2 : goal.overflow_cast-result-2
overflow_cast-result-2 c = let a = c.args in
    let X = sheet_of a.how a.x.now in
    let p = c.requires in
    let e = reads a.how a.x.now a.k _ _ c.line_of.ensures.value c.reach_of-q.ensures.value in
    let s = component_small (sheet_of a.how a.r.now) X p.0 a.k a.channel p.1.0 p.1.1 _ e in
    let z = c.component.ensures.value (reach_at X a.k) e in
    omega arith

pub killed-requires : goal.killed-requires
killed-requires c = let a = c.args in
    let X = sheet_of a.how a.x.now in
    let p = c.requires in
    let e = reads a.how a.x.now a.k _ _ c.line_of.ensures.value c.reach_of-q.ensures.value in
    leads_inside (sheet_of a.how a.r.now) X p.0 a.k a.channel p.1.0 p.1.1 _ e _ _
    (c.leads.ensures.value (reach_at X a.k) e) c.receiver_line-j.ensures.value

pub returns : goal.returns
returns c = record {
  answer = let a = c.args in
      let X = sheet_of a.how a.x.now in
      let p = c.requires in
      let e = reads a.how a.x.now a.k _ _ c.line_of.ensures.value c.reach_of-q.ensures.value in
      leads_there (sheet_of a.how a.r.now) X p.0 a.k a.channel p.1.0 p.1.1 _ e _ _ _ _
      (c.leads.ensures.value (reach_at X a.k) e) (c.component.ensures.value (reach_at X a.k) e) c.receiver_line-j.ensures.value
      c.killed.ensures.value;
}
