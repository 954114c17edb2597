-- The contracts of this crate leave one outcome: any two results, and contents of the lent slices, that meet one are the same.
use mathlib.Core.Path.{refl, sym, ◌∙◌}
use Rattle.outcome.specs.One.{One, both, alike}
use Rattle.probe.specs.contracts.probe_show as probe_show
use Rattle.probe.proofs.probe_show.Reads as probe_show_reads
use Rattle.probe.specs.contracts.probe_line as probe_line
use Rattle.probe.proofs.probe_line.Reads as probe_line_reads
use Rattle.probe.specs.contracts.probe_form as probe_form
use Rattle.probe.proofs.probe_form.Reads as probe_form_reads
use Rattle.probe.specs.contracts.probe_point as probe_point
use Rattle.probe.proofs.probe_point.Reads as probe_point_reads
use Rattle.probe.specs.contracts.probe_relation as probe_relation
use Rattle.probe.proofs.probe_relation.Reads as probe_relation_reads

pub probe_show_one : One probe_show.ended probe_show_reads.Post
probe_show_one κs a v v' w w' p p' = (p.0 ∙ sym p'.0, both refl (both refl (both refl (both refl (both (p.1 ∙ sym p'.1) refl)))))

pub probe_line_one : One probe_line.ended probe_line_reads.Post
probe_line_one κs a v v' w w' = alike

pub probe_form_one : One probe_form.ended probe_form_reads.Post
probe_form_one κs a v v' w w' = alike

pub probe_point_one : One probe_point.ended probe_point_reads.Post
probe_point_one κs a v v' w w' p p' = (refl, both refl (both (p ∙ sym p') refl))

pub probe_relation_one : One probe_relation.ended probe_relation_reads.Post
probe_relation_one κs a v v' w w' p p' = (refl, both refl (both (p ∙ sym p') refl))
