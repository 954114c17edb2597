-- The contracts of this crate leave one outcome: any two verdicts, lines or answers that meet one of them are the same.
use mathlib.Core.Path.{refl, sym, ◌∙◌}
use Rattle.outcome.specs.One.{One, alike}
use Rattle.lines.proofs.One.{verdict_one}
use Rattle.mates.specs.contracts.goes_on as goes_on
use Rattle.mates.proofs.goes_on.Reads as goes_on_reads
use Rattle.mates.specs.contracts.starts as starts
use Rattle.mates.proofs.starts.Reads as starts_reads
use Rattle.mates.specs.contracts.record_fits as record_fits
use Rattle.mates.proofs.record_fits.Reads as record_fits_reads

pub goes_on_one : One goes_on.ended goes_on_reads.Post
goes_on_one κs a v v' w w' = alike

pub starts_one : One starts.ended starts_reads.Post
starts_one κs a v v' w w' = alike

pub record_fits_one : One record_fits.ended record_fits_reads.Post
record_fits_one κs a v v' w w' p p' = (verdict_one v v' (p ∙ sym p'), refl)
