-- A point and a relation are their values: what is read field by field is the record that is read, and no two records have the same values.
--   point_values_lem, relation_values_lem = the values of a line's record are what its fields hold
--   one_point, one_relation       = records of one list of values are one
use Prim.Native.Nat.{ℕ}
use mathlib.Core.Path.{◌≡◌, refl, sym, ap, ◌∙◌}
use mathlib.Core.Bool.{Bool, true, false}
use mathlib.Core.List.{List, []}
use lib.IntN.{ℤ, pos, nat_abs}
use lib.ListN.{get_or}
use Rattle.rules.specs.Places.{pick}
use Rattle.rules.specs.Numbers.{Number, malformed, plus, minus, whole, size, value}
use Rattle.rules.specs.Names.{Name, text as named}
use Rattle.rules.specs.Layout.{Layout, at}
use Rattle.rules.specs.Points.{State, Held, absent, held, holds, Point, point, name_of, number_of, index_at}
use Rattle.rules.specs.Relations.{Relation, relation, reach}
use Rattle.rules.specs.Rows.{point_rows, relation_rows}
use Rattle.rules.specs.Values.{Value, text, number, nothing, read_as, read_rows, name_value, held_value, point_values, relation_values}
use Rattle.rules.proofs.Numbers.{whole_plus}

held_reads : (t : Bool) (n : ℤ) → held_value (pick t absent (held n)) ≡ pick t nothing (number n)
unfolding pick
held_reads true n = refl
held_reads false n = refl

size_value : (v : Number) → ((n : ℕ) → v ≡ minus n → ⊥) → value v ≡ pos (size v)
unfolding value size
size_value malformed f = refl
size_value (plus n) f = refl
size_value (minus n) f = absurd (f n refl)

pub point_values_lem : (L : Layout) (i : ℕ) (l : List ℕ) → point_values (point L l) ≡ read_rows l (point_rows L i)
unfolding point_values point read_rows point_rows read_as name_of number_of index_at holds
point_values_lem L i l = simp (held_reads, size_value (whole (at l L.uphole)) (whole_plus (at l L.uphole)))

pub relation_values_lem : (L : Layout) (l : List ℕ) → relation_values (relation L l) ≡ read_rows l (relation_rows L)
unfolding relation_values relation reach read_rows relation_rows read_as name_of number_of index_at
relation_values_lem L l = refl

-- a record from its values
abbrev as_name : Value → Name
as_name (text bs) = named bs
as_name (number n) = named []
as_name nothing = named []

abbrev as_bytes : Value → List ℕ
as_bytes (text bs) = bs
as_bytes (number n) = []
as_bytes nothing = []

abbrev as_integer : Value → ℤ
as_integer (number n) = n
as_integer (text bs) = pos 0
as_integer nothing = pos 0

abbrev as_natural : Value → ℕ
as_natural v = nat_abs (as_integer v)

abbrev as_held : Value → Held
as_held (number n) = held n
as_held (text bs) = absent
as_held nothing = absent

name_back : (n : Name) → as_name (name_value n) ≡ n
name_back (named bs) = refl

held_back : (h : Held) → as_held (held_value h) ≡ h
held_back absent = refl
held_back (held n) = refl

unfoldable point_of : List Value → State → Point
point_of vs s =
    let v : ℕ → Value = λ n. get_or vs n nothing in
    record {
      name = as_name (v 0);
      number = as_natural (v 1);
      index = as_natural (v 2);
      code = as_bytes (v 3);
      state = s;
      static = as_held (v 4);
      depth = as_integer (v 5);
      datum = as_integer (v 6);
      uphole = as_held (v 7);
      water = as_held (v 8);
      easting = as_integer (v 9);
      northing = as_integer (v 10);
      elevation = as_integer (v 11);
      day = as_natural (v 12);
      time = as_natural (v 13);
    }

point_of_lem : (p : Point) → point_of (point_values p) p.state ≡ p
unfolding point_of point_values
point_of_lem p = rw (name_back p.name, held_back p.static, held_back p.uphole, held_back p.water)

unfoldable relation_of : List Value → Relation
relation_of vs =
    let v : ℕ → Value = λ n. get_or vs n nothing in
    record {
      increment = as_natural (v 2);
      instrument = as_natural (v 3);
      source = as_name (v 4);
      shot = as_natural (v 5);
      shot_index = as_natural (v 6);
      reach =
          record {
            tape = as_bytes (v 0);
            number = as_natural (v 1);
            from = as_natural (v 7);
            upto = as_natural (v 8);
            step = as_natural (v 9);
            receiver = as_name (v 10);
            from_receiver = as_natural (v 11);
            to_receiver = as_natural (v 12);
            receiver_index = as_natural (v 13);
          };
    }

relation_of_lem : (r : Relation) → relation_of (relation_values r) ≡ r
unfolding relation_of relation_values
relation_of_lem r = rw (name_back r.source, name_back r.reach.receiver)

pub code_of : (p : Point) (vs : List Value) → point_values p ≡ vs → p.code ≡ as_bytes (get_or vs 3 nothing)
unfolding point_values
code_of p vs e = ap (λ (vs : List Value). as_bytes (get_or vs 3 nothing)) e

-- so no two have the same values
pub one_point : (p q : Point) → point_values p ≡ point_values q → p.state ≡ q.state → p ≡ q
one_point p q e s = sym (point_of_lem p) ∙ rw (e, s) (point_of_lem q)

pub one_relation : (r v : Relation) → relation_values r ≡ relation_values v → r ≡ v
one_relation r v e = sym (relation_of_lem r) ∙ rw e (relation_of_lem v)
