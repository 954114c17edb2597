-- The contracts of this crate leave one outcome: any two contents of the lent slice that meet one of them are the same.
use mathlib.Core.Path.{refl, sym, ◌∙◌}
use Rattle.outcome.specs.One.{One, both}
use Rattle.records.proofs.Reaches.{one_value}
use Rattle.rows.specs.contracts.fill as fill
use Rattle.rows.proofs.fill.Reads as fill_reads
use Rattle.rows.specs.contracts.part.put as part_put
use Rattle.rows.proofs.part.put.Reads as part_put_reads
use Rattle.rows.specs.contracts.row.put as row_put
use Rattle.rows.proofs.row.put.Reads as row_put_reads

pub fill_one : One fill.ended fill_reads.Post
fill_one κs a v v' w w' p p' = (refl, both refl (both refl (both refl (both (p ∙ sym p') refl))))

pub part_put_one : One part_put.ended part_put_reads.Post
part_put_one κs a v v' w w' p p' =
    (refl, both refl (both refl (both refl (both refl (both refl (both (one_value a.0 _ _ _ p p') refl))))))

pub row_put_one : One row_put.ended row_put_reads.Post
row_put_one κs a v v' w w' p p' = (refl, both refl (both refl (both refl (both refl (both refl (both (p ∙ sym p') refl))))))
