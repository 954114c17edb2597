-- What `lines::first_stray` leaves to show.
use Rattle.std.proofs.Common.{ap, ◌∙◌, add-zero, arith}
use Rattle.lines.specs.Paper.{unless_none}
use native.Mathlib.Nat.{sub-zero}
use Rattle.lines.specs.Reading.{medium_of}
use Rattle.lines.proofs.Laws.{stray_end, stray_stop, stray_step, some_of}
use Rattle.lines.proofs.Sheets.{place, stray_from_lem}
use Rattle.lines.proofs.first_stray.Goals as goal

pub overflow_mul-at : goal.overflow_mul-at
overflow_mul-at c = let a = c.args in
    omega (arith, place a.how _ c.stride-w.ensures.value a.f.now a.k c.requires)

pub loop-c-init : goal.loop-c-init
loop-c-init c = rw (add-zero, sub-zero)

pub overflow_add-at : goal.overflow_add-at
overflow_add-at c = let a = c.args in
    omega (arith, place a.how _ c.stride-w.ensures.value a.f.now a.k c.requires)

pub bounds-f-at : goal.bounds-f-at
bounds-f-at c = let a = c.args in
    omega (arith, place a.how _ c.stride-w.ensures.value a.f.now a.k c.requires)

pub overflow_cast-result : goal.overflow_cast-result
overflow_cast-result c = let a = c.args in
    omega (arith, place a.how _ c.stride-w.ensures.value a.f.now a.k c.requires)

pub overflow_add-result : goal.overflow_add-result
overflow_add-result c = let a = c.args in
    omega (arith, place a.how _ c.stride-w.ensures.value a.f.now a.k c.requires)

pub returns-then-not-takes : goal.returns-then-not-takes
returns-then-not-takes c = record {
  value = let at = c.loop-c in
      let a = c.args in
      let s = c.stride-w.ensures.value in
      let l = place a.how _ s a.f.now a.k c.requires in
      some_of _ _ (omega arith)
      (stray_stop (medium_of a.how).takes a.f.now _ _ at.c _ at.invariant (omega arith) l.1 _ c.takes.ensures.value c.if-not-takes.true
      ∙ stray_from_lem a.how _ s a.f.now a.k);
}

pub loop-c-preserved : goal.loop-c-preserved
loop-c-preserved c = let at = c.loop-c in
    let a = c.args in
    let l = place a.how _ c.stride-w.ensures.value a.f.now a.k c.requires in
    stray_step (medium_of a.how).takes a.f.now _ _ at.c _ at.invariant (omega arith) l.1 _ c.takes.ensures.value c.if-not-takes.false

pub returns : goal.returns
returns c = record {
  value = let at = c.loop-c in
      let a = c.args in
      ap unless_none
      (stray_end (medium_of a.how).takes a.f.now _ _ at.c _ at.invariant (omega arith) ∙ stray_from_lem a.how _ c.stride-w.ensures.value
      a.f.now a.k);
}
