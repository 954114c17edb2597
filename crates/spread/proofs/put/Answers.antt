-- What `spread::put` leaves to show.
use Rattle.std.proofs.Common.{◌≡◌, ◌+◌, refl, ap, ◌∙◌, arith}
use Rattle.rules.specs.Sheet.{most_lines}
use Rattle.rules.specs.Spread.{place}
use Rattle.lines.specs.Reading.{sheet_of}
use Rattle.spread.specs.Puts.{numbers}
use Rattle.spread.proofs.Asked.{known_receivers, reads}
use Rattle.spread.proofs.Taken.{none_between, taken_one, taken_size}
use Rattle.spread.proofs.Reached.{walk, all_put}
use Rattle.spread.proofs.put.Goals as goal

pub first_row-e-requires : goal.first_row-e-requires
first_row-e-requires g c = let p = c.requires in
    ((known_receivers _ _ p.0.0, p.0.1), (p.0.0.relations, p.1.0))

pub loop-c-init : goal.loop-c-init
loop-c-init g c = let a = c.args in
    let p = c.requires in
    let e = reads a.how a.x.now a.k _ _ c.line_of.ensures.value c.reach_of-q.ensures.value in record {
      walk = walk (sheet_of a.how a.r.now) (sheet_of a.how a.x.now) p.0.0 a.k p.1.0 _ e a.o.now p.0.1 _ c.first_row-e.ensures.value _ _
          p.1.1.0 p.1.1.1;
      lines = none_between g.P.Places.puts g.met.P.Places.laws.places _ _ _ _;
      components = none_between place numbers.places _ _ _ _;
    }

pub overflow_cast-line_to : goal.overflow_cast-line_to
unfolding most_lines
overflow_cast-line_to g c = omega (arith, c.line_to.ensures.few)

pub put-requires : goal.put-requires
put-requires g c = let at = c.loop-c in
    let w = at.invariant.walk.known.first in
    let l = at.invariant.walk.lines in
    let n = ap g.P.Places.room at.invariant.lines ∙ taken_size g.P.Places.puts g.P.Places.room g.met.P.Places.laws.size _ _ _ _ in
    omega arith

pub overflow_cast-components : goal.overflow_cast-components
overflow_cast-components g c = let at = c.loop-c in
    let w = at.invariant.walk in
    let m = w.small at.c (omega arith) c.loop-c-test.true in
    let n = c.component.ensures.value _ w.coded in
    omega arith

pub bounds-components-c : goal.bounds-components-c
bounds-components-c g c = let at = c.loop-c in
    let w = at.invariant.walk.known.first in
    let l = at.invariant.walk.components in
    let n = at.auto.components in
    omega arith

pub loop-c-preserved : goal.loop-c-preserved
loop-c-preserved g c = let at = c.loop-c in
    let w = at.invariant.walk in
    let f = w.known.first in
    let l = w.lines in
    let m = w.components in record {
      walk = w;
      lines = c.put.ensures.written
          ∙ taken_one g.P.Places.puts g.met.P.Places.laws.places _ _ _ at.c _ _ (omega arith) refl (omega arith) (omega arith) _ _
          at.invariant.lines _ (c.line_to.ensures.value _ w.coded ∙ w.line at.c (omega arith) c.loop-c-test.true);
      components = taken_one place numbers.places _ _ _ at.c _ _ (omega arith) refl (omega arith) (omega arith) _ _
          at.invariant.components _ (c.component.ensures.value _ w.coded);
    }

pub returns : goal.returns
returns g c = let a = c.args in
    let p = c.requires in
    let R = sheet_of a.how a.r.now in
    let X = sheet_of a.how a.x.now in
    let at = c.loop-c in
    let w = at.invariant.walk in
    let h = w.known.channels in
    let z : at.c ≡ c.reach_of-q.result.upto + 1 = omega arith in record {
      lines = all_put R X p.0.0 a.k p.1.0 _ w.coded g.P.Places.puts g.met.P.Places.laws.places _ _ _ z _ _ at.invariant.lines;
      components = all_put R X p.0.0 a.k p.1.0 _ w.coded place numbers.places _ _ _ z _ _ at.invariant.components;
    }
