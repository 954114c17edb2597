-- What `sets::cross` leaves to show.
use Rattle.std.proofs.lemmas.Result.{err_from_is_err_and}
use Rattle.sets.proofs.Answers.{judged_across, known_set, refused_codes, refused_forms, refused_heads}
use Rattle.lines.proofs.Sheets.{rank_same}
use Rattle.sets.proofs.cross.Goals as goal

pub returns-in_err-forms : goal.returns-in_err-forms
returns-in_err-forms c = record {
  answer = let p = err_from_is_err_and c.from_residual.result c.from_residual.ensures.1 in
      rw (p.1, p.2) (refused_forms _ _ _ _ c.in_err-forms.ensures.verdict);
}

pub headers_fit-requires : goal.headers_fit-requires
headers_fit-requires c = let a = c.args in
    let k = known_set a.how a.r.now a.s.now a.x.now c.in_ok-forms.ensures.verdict in
    record {
      r_bound = k.receivers.few;
      s_bound = k.shots.few;
      x_bound = k.relations.few;
    }

pub returns-in_err-headers_fit : goal.returns-in_err-headers_fit
returns-in_err-headers_fit c = record {
  answer = let p = err_from_is_err_and c.from_residual-in_err-headers_fit.result c.from_residual-in_err-headers_fit.ensures.1 in
      rw (p.1, p.2) (refused_heads _ _ _ c.in_ok-forms.ensures.verdict _ c.in_err-headers_fit.ensures.verdict);
}

pub codes_fit-requires : goal.codes_fit-requires
codes_fit-requires c = let a = c.args in
    let k = known_set a.how a.r.now a.s.now a.x.now c.in_ok-forms.ensures.verdict in
    (k.receivers, (k.shots, k.relations))

pub returns-in_err-codes_fit : goal.returns-in_err-codes_fit
returns-in_err-codes_fit c = record {
  answer = let p = err_from_is_err_and c.from_residual-in_err-codes_fit.result c.from_residual-in_err-codes_fit.ensures.1 in
      rw (p.1, p.2)
      (refused_codes _ _ _ c.in_ok-forms.ensures.verdict c.in_ok-headers_fit.ensures.verdict _ c.in_err-codes_fit.ensures.verdict);
}

pub answer_across-requires : goal.answer_across-requires
answer_across-requires c = let a = c.args in
    let m = c.in_ok-forms.ensures.verdict in
    record {
      known = known_set a.how a.r.now a.s.now a.x.now m;
      forms = m;
      heads = c.in_ok-headers_fit.ensures.verdict;
      codes = c.in_ok-codes_fit.ensures.verdict;
      alike = rank_same a.how a.r.now a.x.now;
    }

pub returns : goal.returns
returns c = record {
  answer = judged_across _ _ _ c.in_ok-forms.ensures.verdict c.in_ok-headers_fit.ensures.verdict _ c.in_ok-codes_fit.ensures.verdict
      c.answer_across.ensures.answer;
}
