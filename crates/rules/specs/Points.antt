-- The values of a point line.
--   absent, held v    = a field that may be blank
--   State             = live, killed (KL), or a marker (PM)
--   state_of c         = that of a code
--   Point             = the values, decimals as signed whole tenths
--   point_at f k       = those of line k
--   is_at n p i v      = the point of that name, number and index
--   same_point v w     = the same name, number and index
--   is_killed v        = a killed point
use Rattle.std.specs.Prelude.{ℕ, Bool, true, false, ◌&&◌, List, eqb, ℤ}
use Rattle.rules.specs.Places.{pick}
use Rattle.rules.specs.Text.{col, same, blank, bytes}
use Rattle.rules.specs.Numbers.{Number, whole, signed, tenths, size, value}
use Rattle.rules.specs.Kinds.{index_of, water}
use Rattle.rules.specs.Names.{Name, text, same_name}
use Rattle.rules.specs.Layout.{Layout, Span, at}
use Rattle.rules.specs.Sheet.{Sheet}

pub data Held : Type 0 where
  absent : Held
  held : ℤ → Held

unfoldable pub holds : (List ℕ → Number) → List ℕ → Held
holds read bs = pick (blank bs) absent (held (value (read bs)))

pub data State : Type 0 where
  live : State
  killed : State
  marker : State

unfoldable pub state_of : List ℕ → State
state_of c = pick (same c (bytes "PM")) marker (pick (same c (bytes "KL")) killed live)

pub record Point : Type 0 where
  pub name : Name
  pub number : ℕ
  pub index : ℕ
  pub code : List ℕ
  pub state : State
  pub static : Held
  pub depth : ℤ
  pub datum : ℤ
  pub uphole : Held
  pub water : Held
  pub easting : ℤ
  pub northing : ℤ
  pub elevation : ℤ
  pub day : ℕ
  pub time : ℕ

-- a line name, a point number and an index, wherever they stand
unfoldable pub name_of : List ℕ → Span → Name
name_of l s = text (at l s)

unfoldable pub number_of : List ℕ → Span → ℕ
number_of l s = size (whole (at l s))

unfoldable pub index_at : List ℕ → Span → ℕ
index_at l s = index_of (col (at l s) 1)

unfoldable pub point : Layout → List ℕ → Point
point L l =
    record {
      name = name_of l L.name;
      number = number_of l L.point;
      index = index_at l L.index;
      code = at l L.code;
      state = state_of (at l L.code);
      static = holds signed (at l L.static);
      depth = value (tenths whole (at l L.depth));
      datum = value (signed (at l L.datum));
      uphole = holds whole (at l L.uphole);
      water = holds water (at l L.water);
      easting = value (tenths signed (at l L.easting));
      northing = value (tenths signed (at l L.northing));
      elevation = value (tenths signed (at l L.elevation));
      day = number_of l L.day;
      time = number_of l L.time;
    }

unfoldable pub point_at : Sheet → ℕ → Point
point_at f k = point f.layout (f.row k)

unfoldable pub is_at : Name → ℕ → ℕ → Point → Bool
is_at n p i v = same_name v.name n && (eqb v.number p && eqb v.index i)

unfoldable pub same_point : Point → Point → Bool
same_point v w = is_at w.name w.number w.index v

abbrev pub is_dead : State → Bool
is_dead live = false
is_dead killed = true
is_dead marker = false

unfoldable pub is_killed : Point → Bool
is_killed v = is_dead v.state
