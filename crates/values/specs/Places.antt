-- The code's values as sixteen numbers: those of `Carried`, of names and codes that are numbers already.
--   held_number h, state_number s       = a field that may be blank, and a state
--   point_numbers p, relation_numbers v = all values
use Rattle.std.specs.Prelude.{ℕ, ℤ, List, [], ◌∷◌, Option, Some, None}
use Rattle.rules.specs.Carried.{as_place, absent_place}
use Rattle.records.specs.declared.point.Point.{Point}
use Rattle.records.specs.declared.state.State.{State}
use Rattle.records.specs.declared.state.State.TheVariants.{Live, Killed, Marker}
use Rattle.records.specs.declared.relation.Relation.{Relation}

abbrev pub held_number : Option ℤ → ℕ
held_number None = absent_place
held_number (Some n) = as_place n

abbrev pub state_number : State → ℕ
state_number Live = 0
state_number Killed = 1
state_number Marker = 2

unfoldable pub point_numbers : Point → List ℕ
point_numbers p =
    p.name.hi ∷ p.name.lo ∷ p.number ∷ p.index ∷ p.code ∷ state_number p.state
    ∷ held_number p.fixed ∷ as_place p.depth ∷ as_place p.datum ∷ held_number p.uphole ∷ held_number p.water
    ∷ as_place p.easting ∷ as_place p.northing ∷ as_place p.elevation ∷ p.day ∷ p.time ∷ []

unfoldable pub relation_numbers : Relation → List ℕ
relation_numbers v =
    let q = v.reach in
    q.tape ∷ q.number ∷ v.increment ∷ v.instrument
    ∷ v.source.hi ∷ v.source.lo ∷ v.shot ∷ v.shot_index
    ∷ q.from ∷ q.upto ∷ q.step
    ∷ q.receiver.hi ∷ q.receiver.lo ∷ q.from_receiver ∷ q.to_receiver ∷ q.receiver_index ∷ []
