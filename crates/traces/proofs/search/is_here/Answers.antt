-- What `traces::search::is_here` leaves to show.
use Rattle.std.proofs.Common.{◌∙◌}
use Rattle.lines.specs.Reading.{sheet_of}
use Rattle.rules.specs.Relations.{reach_at}
use Rattle.spread.proofs.Asked.{reads}
use Rattle.traces.proofs.Lines.{passes_off, passes_on, relation_is}
use Rattle.traces.specs.Steps.{finds}
use Rattle.traces.proofs.search.is_here.Goals as goal

pub returns-else-is_of : goal.returns-else-is_of
returns-else-is_of c = record {
  value = let a = c.args in
      c.if-is_of.false
      ∙ passes_off (sheet_of a.how a.x.now) a.w (finds (sheet_of a.how a.r.now) a.what) a.k _ c.is_of.ensures.value c.if-is_of.false;
}

pub reaches-requires : goal.reaches-requires
reaches-requires c = let a = c.args in
    let p = c.requires in (
      rw c.in-Component.is at p.0,
      (
        p.1.0,
        (
          p.1.1,
          relation_is (sheet_of a.how a.x.now) a.w (finds (sheet_of a.how a.r.now) a.what) a.k _ c.is_of.ensures.value
              c.if-is_of.true,
        ),
      ),
    )

pub returns-in-Channel : goal.returns-in-Channel
returns-in-Channel c = record {
  value = let a = c.args in
      let X = sheet_of a.how a.x.now in
      passes_on X a.w (finds (sheet_of a.how a.r.now) a.what) a.k _ c.is_of.ensures.value c.if-is_of.true _
      (rw c.in-Channel.is
      (c.carries.ensures.value (reach_at X a.k) (reads a.how a.x.now a.k _ _ c.line_of.ensures.value c.reach_of.ensures.value)));
}

pub returns-in-Component : goal.returns-in-Component
returns-in-Component c = record {
  value = let a = c.args in
      passes_on (sheet_of a.how a.x.now) a.w (finds (sheet_of a.how a.r.now) a.what) a.k _ c.is_of.ensures.value
      c.if-is_of.true _ (rw c.in-Component.is c.reaches.ensures.value);
}
