-- What `files::judged` leaves to show.
use Rattle.std.proofs.Common.{◌∙◌}
use Rattle.std.proofs.lemmas.Result.{err_from_is_err_and}
use Rattle.files.proofs.Forms.{first_refused, then_refused, last_refused, as_crossed}
use Rattle.files.proofs.judged.Goals as goal

pub returns-in_err-form : goal.returns-in_err-form
returns-in_err-form c = let p = err_from_is_err_and c.from_residual.result c.from_residual.ensures.1 in
    record { answer = rw (p.1, p.2) (first_refused _ c.disc-how.ensures.value _ _ _ _ c.in_err-form.ensures.answer) }

pub returns-in_err-form-2 : goal.returns-in_err-form-2
returns-in_err-form-2 c = let p = err_from_is_err_and c.from_residual-in_err-form-2.result c.from_residual-in_err-form-2.ensures.1 in
    record { answer = rw (p.1, p.2) (then_refused _ c.disc-how.ensures.value _ _ _ c.in_ok-form.ensures.answer _ c.in_err-form-2.ensures.answer) }

pub returns-in_err-form-3 : goal.returns-in_err-form-3
returns-in_err-form-3 c = let p = err_from_is_err_and c.from_residual-in_err-form-3.result c.from_residual-in_err-form-3.ensures.1 in
    record {
      answer = rw (p.1, p.2) (last_refused _ c.disc-how.ensures.value _ _ _ c.in_ok-form.ensures.answer c.in_ok-form-2.ensures.answer _
          c.in_err-form-3.ensures.answer);
    }

pub returns : goal.returns
returns c = record { answer = c.cross.ensures.answer ∙ as_crossed _ c.disc-how.ensures.value _ _ _ }
