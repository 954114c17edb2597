-- What `codes::codes_fit` leaves to show.
use Rattle.std.proofs.Common.{refl, ◌∙◌}
use Rattle.std.proofs.lemmas.Result.{err_from_is_err_and}
use lib.Dec.{lit≤}
use Rattle.rules.specs.Codes.{codes_fit}
use Rattle.rules.proofs.Steps.{before_met, before_broken}
use Rattle.codes.proofs.Used.{all_used}
use Rattle.codes.proofs.codes_fit.Goals as goal

pub returns-in_err-rule24 : goal.returns-in_err-rule24
unfolding codes_fit
returns-in_err-rule24 c = record {
  verdict = let p = err_from_is_err_and c.from_residual.result c.from_residual.ensures.1 in
      rw (p.1, p.2) (before_broken _ _ _ c.in_err-rule24.ensures.verdict);
}

pub returns-in_err-rule25 : goal.returns-in_err-rule25
unfolding codes_fit
returns-in_err-rule25 c = record {
  verdict = let a = c.args in
      let v = c.in_ok-rule24.ensures in
      let w = v.written refl in
      let p = err_from_is_err_and c.from_residual-in_err-rule25.result c.from_residual-in_err-rule25.ensures.1 in
      rw (p.1, p.2)
      (before_broken _ _ _ (c.in_err-rule25.ensures.verdict ∙ all_used a.how a.r.now a.r.now _ w 1 (lit≤ tt, lit≤ tt))
      ∙ before_met _ _ v.verdict);
}

pub returns-in_err-rule25-2 : goal.returns-in_err-rule25-2
unfolding codes_fit
returns-in_err-rule25-2 c = record {
  verdict = let a = c.args in
      let v = c.in_ok-rule24.ensures in
      let w = v.written refl in
      let p = err_from_is_err_and c.from_residual-in_err-rule25-2.result c.from_residual-in_err-rule25-2.ensures.1 in
      rw (p.1, p.2)
      (before_broken _ _ _ (c.in_err-rule25-2.ensures.verdict ∙ all_used a.how a.r.now a.s.now _ w 2 (lit≤ tt, lit≤ tt))
      ∙ before_met _ _ (c.in_ok-rule25.ensures.verdict ∙ all_used a.how a.r.now a.r.now _ w 1 (lit≤ tt, lit≤ tt)) ∙ before_met _ _ v.verdict);
}

pub returns : goal.returns
unfolding codes_fit
returns c = record {
  verdict = let a = c.args in
      let v = c.in_ok-rule24.ensures in
      let w = v.written refl in
      c.rule25-3.ensures.verdict ∙ all_used a.how a.r.now a.x.now _ w 3 (lit≤ tt, lit≤ tt)
      ∙ before_met _ _ (c.in_ok-rule25-2.ensures.verdict ∙ all_used a.how a.r.now a.s.now _ w 2 (lit≤ tt, lit≤ tt))
      ∙ before_met _ _ (c.in_ok-rule25.ensures.verdict ∙ all_used a.how a.r.now a.r.now _ w 1 (lit≤ tt, lit≤ tt)) ∙ before_met _ _ v.verdict;
}
