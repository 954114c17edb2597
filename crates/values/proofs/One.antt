-- The contracts of this crate leave one outcome: any two results that meet one of them are the same.
use Prim.Native.Nat.{ℕ}
use native.Mathlib.Omega.{arith}
use mathlib.Core.Path.{◌≡◌, refl, ap}
use Rattle.outcome.specs.One.{One, alike}
use Rattle.std.specs.Prelude.{Result, Ok, Err}
use Rattle.rules.specs.Plan.{Refusal as PaperRefusal, Verdict, fine, refused}
use Rattle.lines.specs.declared.Refusal.{Refusal}
use Rattle.lines.proofs.One.{told_one}
use Rattle.values.specs.Reads.{Reads}
use Rattle.values.specs.contracts.read_point as read_point
use Rattle.values.proofs.read_point.Reads as read_point_reads
use Rattle.values.specs.contracts.read_relation as read_relation
use Rattle.values.proofs.read_relation.Reads as read_relation_reads
use Rattle.values.specs.contracts.places.state_number as state_number
use Rattle.values.proofs.places.state_number.Reads as state_number_reads
use Rattle.values.specs.contracts.places.point_places as point_places_lem
use Rattle.values.proofs.places.point_places.Reads as point_places_reads
use Rattle.values.specs.contracts.places.relation_places as relation_places_lem
use Rattle.values.proofs.places.relation_places.Reads as relation_places_reads

never : {w : Verdict} {d : PaperRefusal} {A : Type 0} → w ≡ fine → w ≡ refused d → A
never p q = absurd (let z : ◌≡◌ {A = ℕ} 0 1 = cc in omega arith)

reads_one : {A : Type 0} (r s : Result A Refusal) (v : Verdict) (p : A) → Reads r v p → Reads s v p → r ≡ s
reads_one (Ok q) (Ok q') v p (e, y) (e', y') = cc
reads_one (Ok q) (Err d) v p (e, y) e' = never e e'
reads_one (Err d) (Ok q) v p e (e', y) = never e' e
reads_one (Err d) (Err d') v p e e' = ap Err (told_one d d' (cc))

pub read_point_one : One read_point.ended read_point_reads.Post
read_point_one κs a v v' w w' p p' = (reads_one v v' _ _ p p', refl)

pub read_relation_one : One read_relation.ended read_relation_reads.Post
read_relation_one κs a v v' w w' p p' = (reads_one v v' _ _ p p', refl)

pub state_number_one : One state_number.ended state_number_reads.Post
state_number_one κs a v v' w w' = alike

pub point_places_one : One point_places_lem.ended point_places_reads.Post
point_places_one κs a v v' w w' = alike

pub relation_places_one : One relation_places_lem.ended relation_places_reads.Post
relation_places_one κs a v v' w w' = alike
