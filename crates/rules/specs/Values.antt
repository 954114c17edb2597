-- What a field holds, by its kind.
--   text bs, number n, nothing = a name, a tape or a code; a number, decimals in tenths; a field that is absent
--   read_as k bs                = what the bytes of a field hold
--   read_rows l ws              = what the fields of a table hold, in its order
--   point_values p              = the values of a point in the order of its table
--   relation_values v           = those of a relation
use Rattle.std.specs.Prelude.{ℕ, List, [], ◌∷◌, ℤ, pos}
use Rattle.rules.specs.Places.{pick}
use Rattle.rules.specs.Text.{col, blank}
use Rattle.rules.specs.Numbers.{whole, signed, tenths, size, value}
use Rattle.rules.specs.Kinds.{Kind, starts_non_blank, digits_only, whole_number, signed_number, decimal_number, signed_decimal, coordinate}
use Rattle.rules.specs.Kinds.{index, code, water_depth, time, may_be_blank, index_of, water}
use Rattle.rules.specs.Names.{Name, text as named}
use Rattle.rules.specs.Layout.{at}
use Rattle.rules.specs.Points.{Held, absent, held, Point}
use Rattle.rules.specs.Relations.{Relation}
use Rattle.rules.specs.Rows.{Row}

pub data Value : Type 0 where
  text : List ℕ → Value
  number : ℤ → Value
  nothing : Value

unfoldable pub read_as : Kind → List ℕ → Value
read_as starts_non_blank bs = text bs
read_as digits_only bs = text bs
read_as (code i) bs = text bs
read_as index bs = number (pos (index_of (col bs 1)))
read_as time bs = number (pos (size (whole bs)))
read_as (whole_number m n) bs = number (pos (size (whole bs)))
read_as (signed_number m n) bs = number (value (signed bs))
read_as (decimal_number n) bs = number (value (tenths whole bs))
read_as (signed_decimal m n) bs = number (value (tenths signed bs))
read_as coordinate bs = number (value (tenths signed bs))
read_as water_depth bs = number (value (water bs))
read_as (may_be_blank k) bs = let v = read_as k bs in pick (blank bs) nothing v

unfoldable pub read_rows : List ℕ → List Row → List Value
read_rows l [] = []
read_rows l (w ∷ ws) = read_as w.kind (at l w.columns) ∷ read_rows l ws

abbrev pub name_value : Name → Value
name_value (named bs) = text bs

abbrev pub held_value : Held → Value
held_value absent = nothing
held_value (held n) = number n

unfoldable pub point_values : Point → List Value
point_values p =
    name_value p.name
    ∷ number (pos p.number)
    ∷ number (pos p.index)
    ∷ text p.code
    ∷ held_value p.static
    ∷ number p.depth
    ∷ number p.datum
    ∷ held_value p.uphole
    ∷ held_value p.water
    ∷ number p.easting
    ∷ number p.northing
    ∷ number p.elevation
    ∷ number (pos p.day)
    ∷ number (pos p.time) ∷ []

unfoldable pub relation_values : Relation → List Value
relation_values v =
    let q = v.reach in
    text q.tape
    ∷ number (pos q.number)
    ∷ number (pos v.increment)
    ∷ number (pos v.instrument)
    ∷ name_value v.source
    ∷ number (pos v.shot)
    ∷ number (pos v.shot_index)
    ∷ number (pos q.from)
    ∷ number (pos q.upto)
    ∷ number (pos q.step)
    ∷ name_value q.receiver
    ∷ number (pos q.from_receiver)
    ∷ number (pos q.to_receiver)
    ∷ number (pos q.receiver_index) ∷ []
