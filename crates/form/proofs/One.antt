-- The contracts of this crate leave one outcome: any two verdicts that meet one of them are the same.
use mathlib.Core.Path.{◌≡◌, refl, sym, ◌∙◌}
use Rattle.outcome.specs.One.{One}
use Rattle.lines.proofs.One.{verdict_one}
use Rattle.std.specs.Prelude.{Ok, Err}
use Rattle.lines.specs.Paper.{Verdict, paper}
use Rattle.form.specs.Paper.{answered}
use Rattle.form.specs.contracts.fields_fit as fields_fit
use Rattle.form.proofs.fields_fit.Reads as fields_fit_reads
use Rattle.form.specs.contracts.data_fits as data_fits
use Rattle.form.proofs.data_fits.Reads as data_fits_reads
use Rattle.form.specs.contracts.file_fits as file_fits
use Rattle.form.proofs.file_fits.Reads as file_fits_reads
use Rattle.form.specs.contracts.form as form
use Rattle.form.proofs.form.Reads as form_reads

pub fields_fit_one : One fields_fit.ended fields_fit_reads.Post
fields_fit_one κs a v v' w w' p p' = (verdict_one v v' (p ∙ sym p'), refl)

pub data_fits_one : One data_fits.ended data_fits_reads.Post
data_fits_one κs a v v' w w' p p' = (verdict_one v v' (p ∙ sym p'), refl)

pub file_fits_one : One file_fits.ended file_fits_reads.Post
file_fits_one κs a v v' w w' p p' = (verdict_one v v' (p ∙ sym p'), refl)

-- an answer on one file is that verdict's
paper_of : (a b : Verdict) → answered a ≡ answered b → paper a ≡ paper b
paper_of (Ok u) (Ok v) e = refl
paper_of (Ok u) (Err d) e = cc
paper_of (Err d) (Ok u) e = cc
paper_of (Err d) (Err d') e = cc

pub answered_one : (a b : Verdict) → answered a ≡ answered b → a ≡ b
answered_one a b e = verdict_one a b (paper_of a b e)

pub form_one : One form.ended form_reads.Post
form_one κs a v v' w w' p p' = (answered_one v v' (p ∙ sym p'), refl)
