-- The contracts of this crate leave one outcome: any two results that meet one of them are the same.
use mathlib.Core.Path.{refl, sym, ◌∙◌}
use Rattle.outcome.specs.One.{One, alike}
use Rattle.lines.proofs.One.{verdict_one}
use Rattle.shots.specs.contracts.onward as onward
use Rattle.shots.proofs.onward.Reads as onward_reads
use Rattle.shots.specs.contracts.missing as missing
use Rattle.shots.proofs.missing.Reads as missing_reads
use Rattle.shots.specs.contracts.shots_named as shots_named
use Rattle.shots.proofs.shots_named.Reads as shots_named_reads

pub onward_one : One onward.ended onward_reads.Post
onward_one κs a v v' w w' = alike

pub missing_one : One missing.ended missing_reads.Post
missing_one κs a v v' w w' p p' = (verdict_one v v' (p ∙ sym p'), refl)

pub shots_named_one : One shots_named.ended shots_named_reads.Post
shots_named_one κs a v v' w w' p p' = (verdict_one v v' (p ∙ sym p'), refl)
