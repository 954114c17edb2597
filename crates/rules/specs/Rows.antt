-- The tables of "Lines and columns": one row a field, its columns and its rule, in the paper's order.
--   row s k          = the field of those columns obeys that rule
--   free s k         = the same, but a marker has it free
--   header_rows L     = the fields of a header line
--   point_rows L i    = those of a point line of file i
--   relation_rows L   = those of a relation line
use Rattle.std.specs.Prelude.{ℕ, Bool, true, false, List, [], ◌∷◌}
use Rattle.rules.specs.Layout.{Layout, Span}
use Rattle.rules.specs.Kinds.{Kind, starts_non_blank, digits_only, whole_number, signed_number, decimal_number, signed_decimal, coordinate}
use Rattle.rules.specs.Kinds.{index, code, water_depth, time, may_be_blank}

pub record Row : Type 0 where
  pub columns : Span
  pub kind : Kind
  pub free_in_marker : Bool

abbrev pub row : Span → Kind → Row
row s k = record { columns = s; kind = k; free_in_marker = false }

abbrev pub free : Span → Kind → Row
free s k = record { columns = s; kind = k; free_in_marker = true }

unfoldable pub header_rows : Layout → List Row
header_rows L =
    row L.header_type digits_only
    ∷ row L.header_more (may_be_blank digits_only) ∷ []

unfoldable pub point_rows : Layout → ℕ → List Row
point_rows L i =
    row L.name starts_non_blank
    ∷ free L.point (whole_number 0 L.most_point)
    ∷ row L.index index
    ∷ row L.code (code i)
    ∷ free L.static (may_be_blank (signed_number 999 999))
    ∷ free L.depth (decimal_number 999)
    ∷ free L.datum (signed_number 999 9999)
    ∷ free L.uphole (may_be_blank (whole_number 0 99))
    ∷ free L.water (may_be_blank water_depth)
    ∷ row L.easting coordinate
    ∷ row L.northing coordinate
    ∷ row L.elevation (signed_decimal 9999 99999)
    ∷ free L.day (whole_number 1 999)
    ∷ free L.time time ∷ []

unfoldable pub relation_rows : Layout → List Row
relation_rows L =
    row L.tape starts_non_blank
    ∷ row L.number (whole_number 0 L.most_record)
    ∷ row L.increment index
    ∷ row L.instrument index
    ∷ row L.source starts_non_blank
    ∷ row L.shot (whole_number 0 L.most_point)
    ∷ row L.shot_index index
    ∷ row L.from (whole_number 1 L.most_channel)
    ∷ row L.upto (whole_number 1 L.most_channel)
    ∷ row L.step index
    ∷ row L.receiver starts_non_blank
    ∷ row L.from_receiver (whole_number 0 L.most_point)
    ∷ row L.to_receiver (whole_number 0 L.most_point)
    ∷ row L.receiver_index index ∷ []
