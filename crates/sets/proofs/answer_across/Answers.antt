-- What `sets::answer_across` leaves to show.
use Rattle.std.proofs.Common.{◌∙◌, arith}
use Rattle.std.proofs.lemmas.Result.{err_from_is_err_and}
use Rattle.sets.proofs.Across.{whole_arrays}
use Rattle.sets.proofs.Answers.{accepts, refuses, all_met}
use Rattle.sets.proofs.answer_across.Goals as goal

pub verdict_across-requires : goal.verdict_across-requires
verdict_across-requires c = (c.requires.known, whole_arrays)

pub returns-in_err-verdict_across : goal.returns-in_err-verdict_across
returns-in_err-verdict_across c = record {
  answer = let p = err_from_is_err_and c.from_residual.result c.from_residual.ensures.1 in
      rw (p.1, p.2) (refuses _ _ _ c.in_err-verdict_across.ensures.verdict);
}

pub counted-requires : goal.counted-requires
counted-requires c = let p = c.requires in
    let v = c.verdict_across in (
      record {
        known = p.known;
        fine = all_met _ _ _ p.forms p.heads p.codes c.in_ok-verdict_across.ensures.verdict;
        alike = p.alike;
      },
      (omega (arith, whole_arrays.0, v.auto), omega (arith, whole_arrays.1, v.auto)),
    )

pub returns : goal.returns
returns c = record { answer = c.counted.ensures.counts ∙ accepts _ _ c.in_ok-verdict_across.ensures.verdict }
