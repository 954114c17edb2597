-- The numbers of the code's values are the places of the paper's.
--   packed_number                  = bytes as one number
--   point_places_lem, relation_places_lem  = of a point and of a relation
use Prim.Native.Nat.{ℕ, ◌+◌, ◌*◌}
use mathlib.Core.Path.{◌≡◌, refl}
use mathlib.Core.List.{List, [], ◌∷◌}
use lib.ListN.{take, drop}
use lib.IntN.{ℤ, pos, negsuc}
use mir.Syntax.{w64}
use mir.Val.{of_z}
use mir.ValLaws.{to_z-of_z}
use native.Mathlib.Omega.{arith}
use Rattle.rules.specs.Names.{Name, text}
use Rattle.rules.specs.Points.{Held, absent, held, State, live, killed, marker, Point}
use Rattle.rules.specs.Relations.{Relation}
use Rattle.rules.specs.Carried.{as_place, number_after, held_place, state_place, name_high, name_low, point_places, relation_places}
use Rattle.fields.specs.Packed.{packed_after, name_of}
use Rattle.records.specs.Coded.{held_paper, coded_state, coded_point, coded_relation}
use Rattle.values.specs.Places.{held_number, state_number, point_numbers, relation_numbers}

-- a signed number in 64 bits
pub as_place_is : (z : ℤ) → as_place z ≡ of_z w64 z
unfolding as_place
as_place_is (pos n) = refl
as_place_is (negsuc n) = omega arith

pub ruleset signed = (as_place_is, to_z-of_z)

packed_number : (v : ℕ) (bs : List ℕ) → packed_after v bs ≡ number_after v bs
unfolding packed_after number_after
packed_number v [] = refl
packed_number v (b ∷ bs) = packed_number (256 * v + b) bs

high : (n : Name) → (name_of n).hi ≡ name_high n
high (text bs) = packed_number 0 (take 8 bs)

low : (n : Name) → (name_of n).lo ≡ name_low n
low (text bs) = packed_number 0 (drop 8 bs)

held_place_lem : (h : Held) → held_number (held_paper h) ≡ held_place h
held_place_lem absent = refl
held_place_lem (held n) = refl

pub state_place_lem : (s : State) → state_number (coded_state s) ≡ state_place s
state_place_lem live = refl
state_place_lem killed = refl
state_place_lem marker = refl

pub point_places_lem : (p : Point) → point_numbers (coded_point p) ≡ point_places p
unfolding point_numbers point_places
point_places_lem p =
    rw (
      high p.name,
      low p.name,
      packed_number 0 p.code,
      state_place_lem p.state,
      held_place_lem p.static,
      held_place_lem p.uphole,
      held_place_lem p.water,
    )

pub relation_places_lem : (v : Relation) → relation_numbers (coded_relation v) ≡ relation_places v
unfolding relation_numbers relation_places
relation_places_lem v =
    let q = v.reach in
    rw (packed_number 0 q.tape, high v.source, low v.source, high q.receiver, low q.receiver)
