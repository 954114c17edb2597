-- What `lines::end_fits` leaves to show.
use Rattle.std.proofs.Common.{◌∙◌, arith}
use Rattle.lines.specs.Reading.{sheet_of}
use Rattle.lines.proofs.Sheets.{width, all_by, closing_by}
use Rattle.lines.proofs.Laws.{end_bounds, end_met, end_broken}
use Rattle.lines.proofs.end_fits.Goals as goal

pub nonzero_div-n : goal.nonzero_div-n
nonzero_div-n c = omega (arith, width c.args.how _ c.stride.ensures.value)

pub overflow_add-e : goal.overflow_add-e
overflow_add-e c = omega (arith, end_bounds _ _ c.stride.ensures.value _ _ c.closing.ensures.value _ c.ending-e.ensures.value c.requires)

pub returns-then-e-closing : goal.returns-then-e-closing
returns-then-e-closing c = record {
  verdict = let a = c.args in
      end_met _ (sheet_of a.how a.f.now) _ (all_by a.how _ c.stride.ensures.value a.f.now) _ _ c.ending-e.ensures.value
      (closing_by a.how _ c.stride.ensures.value a.f.now _ c.closing.ensures.value) c.if-e-closing.true;
}

pub overflow_add-e-then-e-n : goal.overflow_add-e-then-e-n
overflow_add-e-then-e-n c = omega (arith, end_bounds _ _ c.stride.ensures.value _ _ c.closing.ensures.value _ c.ending-e.ensures.value c.requires)

pub at_line-requires : goal.at_line-requires
at_line-requires c = omega (arith, end_bounds _ _ c.stride.ensures.value _ _ c.closing.ensures.value _ c.ending-e.ensures.value c.requires)

pub returns-then-e-n : goal.returns-then-e-n
returns-then-e-n c = record {
  verdict = let a = c.args in
      let b = end_bounds _ _ c.stride.ensures.value _ _ c.closing.ensures.value _ c.ending-e.ensures.value c.requires in
      c.at_line.ensures.verdict
      ∙ end_broken _ (sheet_of a.how a.f.now) _ (all_by a.how _ c.stride.ensures.value a.f.now) _ _ c.ending-e.ensures.value
      (closing_by a.how _ c.stride.ensures.value a.f.now _ c.closing.ensures.value) c.if-e-closing.false _ (omega arith);
}

pub at_line-requires-2 : goal.at_line-requires-2
at_line-requires-2 c = omega (arith, end_bounds _ _ c.stride.ensures.value _ _ c.closing.ensures.value _ c.ending-e.ensures.value c.requires)

pub returns : goal.returns
returns c = record {
  verdict = let a = c.args in
      let b = end_bounds _ _ c.stride.ensures.value _ _ c.closing.ensures.value _ c.ending-e.ensures.value c.requires in
      c.at_line-2.ensures.verdict
      ∙ end_broken _ (sheet_of a.how a.f.now) _ (all_by a.how _ c.stride.ensures.value a.f.now) _ _ c.ending-e.ensures.value
      (closing_by a.how _ c.stride.ensures.value a.f.now _ c.closing.ensures.value) c.if-e-closing.false _ (omega arith);
}
