-- The contracts of this crate leave one outcome: any two results that meet one of them are the same.
use mathlib.Core.Path.{refl, sym, ◌∙◌}
use Rattle.outcome.specs.One.{One, alike}
use Rattle.lines.proofs.One.{verdict_one}
use Rattle.headers.specs.contracts.heads as heads
use Rattle.headers.proofs.heads.Reads as heads_reads
use Rattle.headers.specs.contracts.text.names_projection as names_projection
use Rattle.headers.proofs.text.names_projection.Reads as names_projection_reads
use Rattle.headers.specs.contracts.rule7 as rule7
use Rattle.headers.proofs.rule7.Reads as rule7_reads
use Rattle.headers.specs.contracts.rule8 as rule8
use Rattle.headers.proofs.rule8.Reads as rule8_reads
use Rattle.headers.specs.contracts.rule9 as rule9
use Rattle.headers.proofs.rule9.Reads as rule9_reads
use Rattle.headers.specs.contracts.headers_fit as headers_fit
use Rattle.headers.proofs.headers_fit.Reads as headers_fit_reads

pub heads_one : One heads.ended heads_reads.Post
heads_one κs a v v' w w' = alike

pub names_projection_one : One names_projection.ended names_projection_reads.Post
names_projection_one κs a v v' w w' = alike

pub rule7_one : One rule7.ended rule7_reads.Post
rule7_one κs a v v' w w' p p' = (verdict_one v v' (p ∙ sym p'), refl)

pub rule8_one : One rule8.ended rule8_reads.Post
rule8_one κs a v v' w w' p p' = (verdict_one v v' (p ∙ sym p'), refl)

pub rule9_one : One rule9.ended rule9_reads.Post
rule9_one κs a v v' w w' p p' = (verdict_one v v' (p ∙ sym p'), refl)

pub headers_fit_one : One headers_fit.ended headers_fit_reads.Post
headers_fit_one κs a v v' w w' p p' = (verdict_one v v' (p ∙ sym p'), refl)
