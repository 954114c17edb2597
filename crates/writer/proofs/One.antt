-- The contracts of this crate leave one outcome: any two answers, and contents of the lent slice, that meet one are the same. Of a value's
-- text and of a line that is made, which stand in arrays of the call, only what is put over is said; of the values what they mean.
use Prim.Native.Nat.{ℕ}
use mathlib.Core.Path.{◌≡◌, refl, ap, sym, ◌∙◌}
use mathlib.Core.List.{List}
use Rattle.rules.specs.Plan.{Verdict as PaperVerdict}
use Rattle.rules.specs.Writer.{into}
use Rattle.outcome.specs.One.{One, alike, both}
use Rattle.lines.proofs.One.{verdict_one}
use Rattle.writer.specs.contracts.rows.width as width
use Rattle.writer.proofs.rows.width.Reads as width_reads
use Rattle.writer.specs.contracts.allowed.allows as allows
use Rattle.writer.proofs.allowed.allows.Reads as allows_reads
use Rattle.writer.specs.contracts.write_point as write_point
use Rattle.writer.proofs.write_point.Reads as write_point_reads
use Rattle.writer.specs.contracts.write_relation as write_relation
use Rattle.writer.proofs.write_relation.Reads as write_relation_reads
use Rattle.writer.specs.contracts.write_point_numbers as write_point_numbers
use Rattle.writer.proofs.write_point_numbers.Reads as write_point_numbers_reads
use Rattle.writer.specs.contracts.write_relation_numbers as write_relation_numbers
use Rattle.writer.proofs.write_relation_numbers.Reads as write_relation_numbers_reads

pub width_one : One width.ended width_reads.Post
width_one κs a v v' w w' = alike

pub allows_one : One allows.ended allows_reads.Post
allows_one κs a v v' w w' = alike

same_bytes : {v v' : PaperVerdict} {p p' : List ℕ} (l o : List ℕ) → v ≡ v' → p ≡ into v l o → p' ≡ into v' l o → p ≡ p'
same_bytes l o e q r = q ∙ ap (λ (v : PaperVerdict). into v l o) e ∙ sym r

pub write_point_one : One write_point.ended write_point_reads.Post
write_point_one κs a v v' w w' p p' =
    let e = p.0 ∙ sym p'.0 in
    (verdict_one v v' e, both refl (both refl (both (same_bytes _ _ e p.1 p'.1) refl)))

pub write_relation_one : One write_relation.ended write_relation_reads.Post
write_relation_one κs a v v' w w' p p' =
    let e = p.0 ∙ sym p'.0 in
    (verdict_one v v' e, both refl (both (same_bytes _ _ e p.1 p'.1) refl))

pub write_point_numbers_one : One write_point_numbers.ended write_point_numbers_reads.Post
write_point_numbers_one κs a v v' w w' p p' =
    let e = p.0 ∙ sym p'.0 in
    (verdict_one v v' e, both refl (both refl (both (same_bytes _ _ e p.1 p'.1) refl)))

pub write_relation_numbers_one : One write_relation_numbers.ended write_relation_numbers_reads.Post
write_relation_numbers_one κs a v v' w w' p p' =
    let e = p.0 ∙ sym p'.0 in
    (verdict_one v v' e, both refl (both (same_bytes _ _ e p.1 p'.1) refl))
