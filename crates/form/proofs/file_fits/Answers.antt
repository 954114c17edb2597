-- What `form::file_fits` leaves to show.
use Rattle.std.proofs.Common.{◌∙◌}
use Rattle.std.proofs.lemmas.Result.{err_from_is_err_and}
use Rattle.rules.specs.Form.{form}
use Rattle.rules.proofs.Steps.{before_met, before_broken}
use Rattle.form.proofs.Laws.{few_lines, three_grouped}
use Rattle.form.proofs.file_fits.Goals as goal

pub returns-in_err-length_fits : goal.returns-in_err-length_fits
unfolding form
returns-in_err-length_fits c = record {
  verdict = let p = err_from_is_err_and c.from_residual.result c.from_residual.ensures.1 in
      rw (p.1, p.2) (before_broken _ _ _ c.in_err-length_fits.ensures.verdict ∙ three_grouped _ _ _ _);
}

pub lines_fit-requires : goal.lines_fit-requires
lines_fit-requires c = few_lines _ _ c.in_ok-length_fits.ensures.verdict

pub returns : goal.returns
unfolding form
returns c = record { verdict = c.lines_fit.ensures.verdict ∙ before_met _ _ c.in_ok-length_fits.ensures.verdict ∙ three_grouped _ _ _ _ }
