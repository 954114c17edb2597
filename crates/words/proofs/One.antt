-- The contracts of this crate leave one outcome: any two answers, and contents of the lent buffer, that meet one are the same.
use mathlib.Core.Path.{refl, sym, ◌∙◌}
use Rattle.outcome.specs.One.{One, both}
use Rattle.words.specs.contracts.verdict as verdict
use Rattle.words.proofs.verdict.Reads as verdict_reads
use Rattle.words.specs.contracts.no_file as no_file
use Rattle.words.proofs.no_file.Reads as no_file_reads
use Rattle.words.specs.contracts.too_long as too_long
use Rattle.words.proofs.too_long.Reads as too_long_reads

pub verdict_one : One verdict.ended verdict_reads.Post
verdict_one κs a v v' w w' p p' = (p.0 ∙ sym p'.0, both refl (both (p.1.0 ∙ sym p'.1.0) refl))

pub no_file_one : One no_file.ended no_file_reads.Post
no_file_one κs a v v' w w' p p' = (p.0 ∙ sym p'.0, both refl (both (p.1 ∙ sym p'.1) refl))

pub too_long_one : One too_long.ended too_long_reads.Post
too_long_one κs a v v' w w' p p' = (p.0 ∙ sym p'.0, both refl (both (p.1 ∙ sym p'.1) refl))
