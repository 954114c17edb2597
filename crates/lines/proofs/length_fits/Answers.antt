-- What `lines::length_fits` leaves to show.
use Rattle.std.proofs.Common.{sym, ◌∙◌, arith}
use Rattle.rules.specs.Sheet.{most_lines}
use Rattle.lines.specs.Reading.{sheet_of}
use Rattle.lines.proofs.Laws.{one_broken, two_broken, two_met}
use Rattle.lines.proofs.Sheets.{width, all_by, left_by}
use Rattle.lines.proofs.length_fits.Goals as goal

pub nonzero_div-n : goal.nonzero_div-n
nonzero_div-n c = omega (arith, width c.args.how _ c.stride-w.ensures.value)

pub nonzero_rem-f : goal.nonzero_rem-f
nonzero_rem-f c = omega (arith, width c.args.how _ c.stride-w.ensures.value)

pub returns-then-f-w-ne0 : goal.returns-then-f-w-ne0
returns-then-f-w-ne0 c = record {
  verdict = let a = c.args in
      let s = c.stride-w.ensures.value in
      let l = left_by a.how _ s a.f.now in
      let m = c.min.ensures in
      c.at_line.ensures.verdict
      ∙ one_broken a.i (sheet_of a.how a.f.now) _ (all_by a.how _ s a.f.now) _ (λ z. c.if-f-w-ne0.true (l ∙ z)) (omega arith);
}

pub returns-then-n-gt-MOST_LINES : goal.returns-then-n-gt-MOST_LINES
returns-then-n-gt-MOST_LINES c = record {
  verdict = let a = c.args in
      let s = c.stride-w.ensures.value in
      let l = left_by a.how _ s a.f.now in
      c.at_line-then-n-gt-MOST_LINES.ensures.verdict
      ∙ two_broken a.i (sheet_of a.how a.f.now) _ (all_by a.how _ s a.f.now) (sym l ∙ c.if-f-w-ne0.false) (omega arith);
}

pub end_fits-requires : goal.end_fits-requires
unfolding most_lines
end_fits-requires c = let a = c.args in
    let n = all_by a.how _ c.stride-w.ensures.value a.f.now in
    omega arith

pub returns : goal.returns
returns c = record {
  verdict = let a = c.args in
      let s = c.stride-w.ensures.value in
      let l = left_by a.how _ s a.f.now in
      two_met a.i (sheet_of a.how a.f.now) _ (all_by a.how _ s a.f.now) (sym l ∙ c.if-f-w-ne0.false) (omega arith) _
      c.end_fits.ensures.verdict;
}
