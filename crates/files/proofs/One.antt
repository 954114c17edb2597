-- The contracts of `report`, and of the functions that decide what is read, leave one outcome. Those of `load` and `tell`, which read
-- files, cannot: nothing speaks of what is read.
use mathlib.Core.Path.{refl, sym, ◌∙◌}
use Rattle.outcome.specs.One.{One, both}
use Rattle.files.specs.contracts.input.next as next
use Rattle.files.proofs.input.next.Reads as next_reads
use Rattle.files.specs.contracts.input.path_of as path_of
use Rattle.files.proofs.input.path_of.Reads as path_of_reads
use Rattle.files.specs.contracts.input.Loaded.input as input
use Rattle.files.proofs.input.Loaded.input.Reads as input_reads
use Rattle.files.specs.contracts.input.size as size
use Rattle.files.proofs.input.size.Reads as size_reads
use Rattle.files.specs.contracts.report as report
use Rattle.files.proofs.report.Reads as report_reads

pub next_one : One next.ended next_reads.Post
next_one κs a v v' w w' p p' = (p ∙ sym p', refl)

pub path_of_one : One path_of.ended path_of_reads.Post
path_of_one κs a v v' w w' p p' = (p ∙ sym p', refl)

pub input_one : One input.ended input_reads.Post
input_one κs a v v' w w' p p' = (p ∙ sym p', refl)

pub size_one : One size.ended size_reads.Post
size_one κs a v v' w w' p p' = (p ∙ sym p', refl)

pub report_one : One report.ended report_reads.Post
report_one κs a v v' w w' p p' = (
  p.0 ∙ sym p'.0,
  both refl (both refl (both refl (both refl (both refl (both refl (both (p.1.0 ∙ sym p'.1.0) refl)))))),
)
