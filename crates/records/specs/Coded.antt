-- The code's tables and values as the paper's.
--   coded ..     = a row of the code: its columns, its rule, whether it may be blank, whether a marker has it free
--   row_of w      = that row as the paper's
--   rows_of t     = the table t
--   no_row        = what stands beyond a table's end
--   row_fits m l w = the field of row w of line l obeys its rule, or is free in the marker that m says l is
--   coded_reach q, coded_relation v, coded_state s, coded_point v = the paper's values as the code holds them
use Rattle.std.specs.Prelude.{ℕ, ℤ, Bool, true, false, ◌&&◌, ◌||◌, List, Option, Some, None}
use Rattle.rules.specs.Layout.{sps93, at}
use Rattle.rules.specs.Kinds.{Kind, starts_non_blank, may_be_blank, fits}
use Rattle.rules.specs.Points.{Held as PaperHeld, absent, held, State as PaperState, live, killed, marker, Point as PaperPoint}
use Rattle.rules.specs.Relations.{Reach as PaperReach, Relation as PaperRelation}
use Rattle.fields.specs.Packed.{packed, name_of}
use Rattle.rules.specs.Rows.{Row as PaperRow, header_rows, point_rows, relation_rows}
use Rattle.fields.specs.Paper.{kind}
use Rattle.fields.specs.declared.Kind.{Kind as CodeKind}
use Rattle.records.specs.declared.point.Point.{Point as PointValues}
use Rattle.records.specs.declared.state.State.{State}
use Rattle.records.specs.declared.state.State.TheVariants.{Live, Killed, Marker}
use Rattle.records.specs.declared.relation.Reach.{Reach}
use Rattle.records.specs.declared.relation.Relation.{Relation as RelationValues}
use Rattle.records.specs.declared.table.Row.{Row}
use Rattle.records.specs.declared.table.Table.{Table}
use Rattle.records.specs.declared.table.Table.TheVariants.{Header, Point, Relation}

abbrev pub or_blank : Bool → Kind → Kind
or_blank true k = may_be_blank k
or_blank false k = k

abbrev pub coded : ℕ → ℕ → CodeKind → Bool → Bool → Row
coded a b k blank free = record { first = a; last = b; kind = k; blank = blank; free = free }

abbrev pub row_of : Row → PaperRow
row_of w =
    record {
      columns = record { first = w.first; last = w.last };
      kind = or_blank w.blank (kind w.kind);
      free_in_marker = w.free;
    }

unfoldable pub rows_of : Table → List PaperRow
rows_of Header = header_rows sps93
rows_of (Point i) = point_rows sps93 i
rows_of Relation = relation_rows sps93

abbrev pub no_row : PaperRow
no_row = record { columns = record { first = 0; last = 0 }; kind = starts_non_blank; free_in_marker = false }

unfoldable pub row_fits : Bool → List ℕ → PaperRow → Bool
row_fits m l w = (w.free_in_marker && m) || fits w.kind (at l w.columns)

abbrev pub coded_reach : PaperReach → Reach
coded_reach q =
    record {
      tape = packed q.tape;
      number = q.number;
      from = q.from;
      upto = q.upto;
      step = q.step;
      receiver = name_of q.receiver;
      from_receiver = q.from_receiver;
      to_receiver = q.to_receiver;
      receiver_index = q.receiver_index;
    }

abbrev pub coded_relation : PaperRelation → RelationValues
coded_relation v =
    record {
      increment = v.increment;
      instrument = v.instrument;
      source = name_of v.source;
      shot = v.shot;
      shot_index = v.shot_index;
      reach = coded_reach v.reach;
    }

abbrev pub held_of : Bool → ℤ → Option ℤ
held_of true v = None
held_of false v = Some v

abbrev pub held_paper : PaperHeld → Option ℤ
held_paper absent = None
held_paper (held v) = Some v

abbrev pub coded_state : PaperState → State
coded_state live = Live
coded_state killed = Killed
coded_state marker = Marker

abbrev pub coded_point : PaperPoint → PointValues
coded_point v =
    record {
      name = name_of v.name;
      number = v.number;
      index = v.index;
      code = packed v.code;
      state = coded_state v.state;
      fixed = held_paper v.static;
      depth = v.depth;
      datum = v.datum;
      uphole = held_paper v.uphole;
      water = held_paper v.water;
      easting = v.easting;
      northing = v.northing;
      elevation = v.elevation;
      day = v.day;
      time = v.time;
    }
