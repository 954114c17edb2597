-- The code's values as the paper's.
--   text_of w hi lo   = w columns of text from two numbers, the last 8 of them from the second
--   point_of p, relation_of q = the paper's values of the code's
--   value_of w v      = the value of a field of w columns
--   values_of ws vs   = those of the fields of a table
use Rattle.std.specs.Prelude.{ℕ, ◌-◌, List, [], ◌∷◌, ◌++◌, leb, ℤ, Option, Some, None}
use Rattle.rules.specs.Places.{pick}
use Rattle.rules.specs.Names.{Name as PaperName, text as named}
use Rattle.rules.specs.Points.{Held as PaperHeld, absent, held, State as PaperState, live, killed, marker, Point as PaperPoint}
use Rattle.rules.specs.Relations.{Reach as PaperReach, Relation as PaperRelation}
use Rattle.rules.specs.Rows.{Row}
use Rattle.rules.specs.Values.{Value as PaperValue, text, number, nothing}
use Rattle.rules.specs.Writer.{width_of}
use Rattle.rules.specs.Carried.{bytes_of}
use Rattle.fields.specs.declared.Name.{Name}
use Rattle.records.specs.declared.point.Point.{Point}
use Rattle.records.specs.declared.state.State.{State}
use Rattle.records.specs.declared.state.State.TheVariants.{Live, Killed, Marker}
use Rattle.records.specs.declared.relation.Reach.{Reach}
use Rattle.records.specs.declared.relation.Relation.{Relation}
use Rattle.writer.specs.declared.values.Value.{Value}
use Rattle.writer.specs.declared.values.Value.TheVariants.{Text, Number}

unfoldable pub text_of : ℕ → ℕ → ℕ → List ℕ
text_of w hi lo = pick (leb w 8) (bytes_of w lo) (bytes_of (w - 8) hi ++ bytes_of 8 lo)

abbrev pub name_in : Name → PaperName
name_in m = named (text_of 16 m.hi m.lo)

abbrev pub held_in : Option ℤ → PaperHeld
held_in None = absent
held_in (Some n) = held n

abbrev pub state_in : State → PaperState
state_in Live = live
state_in Killed = killed
state_in Marker = marker

unfoldable pub point_of : Point → PaperPoint
point_of p =
    record {
      name = name_in p.name;
      number = p.number;
      index = p.index;
      code = text_of 2 0 p.code;
      state = state_in p.state;
      static = held_in p.fixed;
      depth = p.depth;
      datum = p.datum;
      uphole = held_in p.uphole;
      water = held_in p.water;
      easting = p.easting;
      northing = p.northing;
      elevation = p.elevation;
      day = p.day;
      time = p.time;
    }

unfoldable pub reach_of : Reach → PaperReach
reach_of q =
    record {
      tape = text_of 6 0 q.tape;
      number = q.number;
      from = q.from;
      upto = q.upto;
      step = q.step;
      receiver = name_in q.receiver;
      from_receiver = q.from_receiver;
      to_receiver = q.to_receiver;
      receiver_index = q.receiver_index;
    }

unfoldable pub relation_of : Relation → PaperRelation
relation_of v =
    record {
      increment = v.increment;
      instrument = v.instrument;
      source = name_in v.source;
      shot = v.shot;
      shot_index = v.shot_index;
      reach = reach_of v.reach;
    }

abbrev pub value_of : ℕ → Option Value → PaperValue
value_of w (Some (Text m)) = text (text_of w m.hi m.lo)
value_of w (Some (Number n)) = number n
value_of w None = nothing

unfoldable pub values_of : List Row → List (Option Value) → List PaperValue
values_of [] vs = []
values_of (w ∷ ws) [] = []
values_of (w ∷ ws) (v ∷ vs) = value_of (width_of w.columns) v ∷ values_of ws vs
