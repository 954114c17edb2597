-- The contracts of this crate leave one outcome: any two verdicts that meet one of them are the same.
use mathlib.Core.Path.{refl, sym, ◌∙◌}
use Rattle.outcome.specs.One.{One}
use Rattle.lines.proofs.One.{verdict_one}
use Rattle.points.specs.contracts.receivers.receivers_fit as receivers_fit
use Rattle.points.proofs.receivers.receivers_fit.Reads as receivers_fit_reads
use Rattle.points.specs.contracts.shots.shots_fit as shots_fit
use Rattle.points.proofs.shots.shots_fit.Reads as shots_fit_reads

pub receivers_fit_one : One receivers_fit.ended receivers_fit_reads.Post
receivers_fit_one κs a v v' w w' p p' = (verdict_one v v' (p ∙ sym p'), refl)

pub shots_fit_one : One shots_fit.ended shots_fit_reads.Post
shots_fit_one κs a v v' w w' p p' = (verdict_one v v' (p ∙ sym p'), refl)
