-- Values as a C host has them: a point or a relation is sixteen numbers of 64 bits.
--   as_number bs       = bytes as one number, high byte first; a name is two of them, a tape and a code one
--   bytes_of n v       = a number as n bytes, high byte first; the first holds all that is left of it
--   as_place n         = a signed number in 64 bits: one below 0 counts down from 2^64
--   of_place v         = and back
--   absent_place       = an absent value: -2^63
--   point_places p     = name (two), point number, index, code, state, static, depth, datum, uphole, water depth, easting, northing, elevation, day, time
--   relation_places v  = tape, field record, record increment, instrument, source name (two), point and index, from and to channel, channel increment,
--                       receiver name (two), from and to receiver, receiver index
--   point_given v, relation_given v = the values in such places, in the order of the tables
--   reach_given v      = what a relation in such places covers
--   state_given n      = 0 live, 1 killed, any other a marker
use Rattle.std.specs.Prelude.{ℕ, zero, suc, ◌+◌, ◌-◌, ◌*◌, ◌/◌, ◌%◌, ◌^◌, List, [], ◌∷◌, ◌++◌, eqb, ltb, ℤ, pos, negsuc, take, drop}
use Rattle.rules.specs.Places.{pick}
use Rattle.rules.specs.Names.{Name, text as named}
use Rattle.rules.specs.Points.{Held, absent, held, State, live, killed, marker, Point}
use Rattle.rules.specs.Relations.{Reach, Relation}
use Rattle.rules.specs.Values.{Value, text, number, nothing}

unfoldable pub number_after : ℕ → List ℕ → ℕ
number_after v [] = v
number_after v (b ∷ bs) = number_after (256 * v + b) bs

abbrev pub as_number : List ℕ → ℕ
as_number bs = number_after 0 bs

unfoldable pub bytes_of : ℕ → ℕ → List ℕ
bytes_of zero v = []
bytes_of (suc zero) v = v ∷ []
bytes_of (suc (suc n)) v = bytes_of (suc n) (v / 256) ++ (v % 256 ∷ [])

unfoldable pub as_place : ℤ → ℕ
as_place (pos n) = n
as_place (negsuc n) = 2 ^ 64 - 1 - n

unfoldable pub of_place : ℕ → ℤ
of_place v = pick (ltb v (2 ^ 63)) (pos v) (negsuc (2 ^ 64 - 1 - v))

abbrev pub absent_place : ℕ
absent_place = 2 ^ 63

abbrev pub held_place : Held → ℕ
held_place absent = absent_place
held_place (held n) = as_place n

abbrev pub state_place : State → ℕ
state_place live = 0
state_place killed = 1
state_place marker = 2

abbrev pub name_high : Name → ℕ
name_high (named bs) = as_number (take 8 bs)

abbrev pub name_low : Name → ℕ
name_low (named bs) = as_number (drop 8 bs)

unfoldable pub point_places : Point → List ℕ
point_places p =
    name_high p.name ∷ name_low p.name ∷ p.number ∷ p.index ∷ as_number p.code ∷ state_place p.state
    ∷ held_place p.static ∷ as_place p.depth ∷ as_place p.datum ∷ held_place p.uphole ∷ held_place p.water
    ∷ as_place p.easting ∷ as_place p.northing ∷ as_place p.elevation ∷ p.day ∷ p.time ∷ []

unfoldable pub relation_places : Relation → List ℕ
relation_places v =
    let q = v.reach in
    as_number q.tape ∷ q.number ∷ v.increment ∷ v.instrument
    ∷ name_high v.source ∷ name_low v.source ∷ v.shot ∷ v.shot_index
    ∷ q.from ∷ q.upto ∷ q.step
    ∷ name_high q.receiver ∷ name_low q.receiver ∷ q.from_receiver ∷ q.to_receiver ∷ q.receiver_index ∷ []

abbrev pub count_given : ℕ → Value
count_given v = number (of_place v)

abbrev pub held_given : ℕ → Value
held_given v = pick (eqb v absent_place) nothing (number (of_place v))

abbrev pub name_given : ℕ → ℕ → Value
name_given high low = text (bytes_of 8 high ++ bytes_of 8 low)

abbrev pub state_given : ℕ → State
state_given n = pick (eqb n 0) live (pick (eqb n 1) killed marker)

unfoldable pub point_given : (ℕ → ℕ) → List Value
point_given v =
    name_given (v 0) (v 1) ∷ count_given (v 2) ∷ count_given (v 3) ∷ text (bytes_of 2 (v 4))
    ∷ held_given (v 6) ∷ count_given (v 7) ∷ count_given (v 8) ∷ held_given (v 9) ∷ held_given (v 10)
    ∷ count_given (v 11) ∷ count_given (v 12) ∷ count_given (v 13) ∷ count_given (v 14) ∷ count_given (v 15) ∷ []

unfoldable pub relation_given : (ℕ → ℕ) → List Value
relation_given v =
    text (bytes_of 6 (v 0)) ∷ count_given (v 1) ∷ count_given (v 2) ∷ count_given (v 3)
    ∷ name_given (v 4) (v 5) ∷ count_given (v 6) ∷ count_given (v 7)
    ∷ count_given (v 8) ∷ count_given (v 9) ∷ count_given (v 10)
    ∷ name_given (v 11) (v 12) ∷ count_given (v 13) ∷ count_given (v 14) ∷ count_given (v 15) ∷ []

unfoldable pub reach_given : (ℕ → ℕ) → Reach
reach_given v =
    record {
      tape = bytes_of 6 (v 0);
      number = v 1;
      from = v 8;
      upto = v 9;
      step = v 10;
      receiver = named (bytes_of 8 (v 11) ++ bytes_of 8 (v 12));
      from_receiver = v 13;
      to_receiver = v 14;
      receiver_index = v 15;
    }
