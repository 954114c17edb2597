-- What `sets::verdict_across` leaves to show.
use Rattle.std.proofs.Common.{◌∙◌, arith}
use Rattle.std.proofs.lemmas.Result.{err_from_is_err_and}
use Rattle.rules.proofs.Steps.{before_met, before_broken}
use Rattle.sets.proofs.Across.{in_order, shots_in_order, whole}
use Rattle.sets.proofs.verdict_across.Goals as goal

pub returns-in_err-points_across : goal.returns-in_err-points_across
returns-in_err-points_across c = record {
  verdict = let p = err_from_is_err_and c.from_residual.result c.from_residual.ensures.1 in
      rw (p.1, p.2) (before_broken _ _ _ c.in_err-points_across.ensures.verdict ∙ whole _ _ _);
}

pub relations_across-requires : goal.relations_across-requires
relations_across-requires c = let p = c.requires in (
  in_order _ _ _ p.0 c.in_ok-points_across.ensures.verdict,
  (omega (arith, p.1.0), omega (arith, p.1.1)),
)

pub returns-in_err-relations_across : goal.returns-in_err-relations_across
returns-in_err-relations_across c = record {
  verdict = let p = err_from_is_err_and c.from_residual-in_err-relations_across.result c.from_residual-in_err-relations_across.ensures.1 in
      rw (p.1, p.2)
      (before_broken _ _ _ c.in_err-relations_across.ensures.verdict ∙ before_met _ _ c.in_ok-points_across.ensures.verdict ∙ whole _ _ _);
}

pub shots_named-requires : goal.shots_named-requires
shots_named-requires c = let o = in_order _ _ _ c.requires.0 c.in_ok-points_across.ensures.verdict in
    shots_in_order _ _ _ o c.in_ok-relations_across.ensures.verdict

pub returns : goal.returns
returns c = record {
  verdict = c.shots_named.ensures.verdict ∙ before_met _ _ c.in_ok-relations_across.ensures.verdict
      ∙ before_met _ _ c.in_ok-points_across.ensures.verdict ∙ whole _ _ _;
}
