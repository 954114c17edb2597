-- What `form::line_fits` leaves to show.
use Rattle.std.proofs.Common.{refl, sym, ◌∙◌, rules}
use Rattle.std.proofs.lemmas.Result.{err_from_is_err_and}
use Rattle.rules.specs.Sheet.{most_lines}
use Rattle.rules.proofs.Steps.{before_met, before_broken}
use Rattle.lines.proofs.Laws.{given, not_given}
use Rattle.lines.proofs.Sheets.{layout_is}
use Rattle.form.proofs.Laws.{line_clean, line_stray}
use Rattle.form.proofs.line_fits.Goals as goal

pub at_line-requires : goal.at_line-requires
unfolding most_lines
at_line-requires c = search rules

pub returns-in-Some : goal.returns-in-Some
returns-in-Some c = record {
  verdict = let g = given _ _ _ c.stray.ensures.value c.in-Some.is in
      c.at_line.ensures.verdict ∙ line_stray _ _ _ _ g.0 g.1;
}

pub returns-in_err-rule4 : goal.returns-in_err-rule4
returns-in_err-rule4 c = record {
  verdict = let a = c.args in
      let p = err_from_is_err_and c.from_residual.result c.from_residual.ensures.1 in
      rw (p.1, p.2)
      (line_clean _ _ _ _ (sym (not_given _ _ c.stray.ensures.value c.in_default.is)) refl _ (layout_is a.how a.f.now) _
      c.requires.l_value.0 _ c.requires.l_value.1 _
      (before_broken _ _ _ c.in_err-rule4.ensures.verdict));
}

pub returns : goal.returns
returns c = record {
  verdict = let a = c.args in
      line_clean _ _ _ _ (sym (not_given _ _ c.stray.ensures.value c.in_default.is)) refl _ (layout_is a.how a.f.now) _
      c.requires.l_value.0 _ c.requires.l_value.1 _
      (c.fields_fit.ensures.verdict ∙ before_met _ _ c.in_ok-rule4.ensures.verdict);
}
