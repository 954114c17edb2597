-- What `form::numbers_fit` leaves to show.
use Rattle.form.proofs.Laws.{six_header, six_other, six_relation}
use Rattle.form.proofs.numbers_fit.Goals as goal
use Rattle.form.proofs.numbers_fit.Goals.{then-i-ne3-via-then-i-ne3, then-i-ne3-via-else-i-ne3+then-is_header}

pub returns-then-i-ne3 : goal.returns-then-i-ne3
returns-then-i-ne3 c = record {
  verdict = elim c.then-i-ne3.branch [
    | then-i-ne3-via-then-i-ne3 w ↦ six_other _ _ _ _ w.if-i-ne3.true
    | then-i-ne3-via-else-i-ne3+then-is_header w ↦ six_header _ _ _ _ _ w.is_header.ensures.value w.if-is_header.true
  ];
}

pub returns : goal.returns
returns c = record { verdict = six_relation _ _ _ _ _ c.is_header.ensures.value c.if-is_header.false c.if-i-ne3.false _ c.rule6.ensures.verdict }
