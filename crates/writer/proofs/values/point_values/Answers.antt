-- What `writer::values::point_values` leaves to show.
use mathlib.Core.Path.{◌≡◌}
use mathlib.Core.List.{[], ◌∷◌}
use mir.Syntax.{w64}
use mir.Val.{to_z, of_z}
use mir.ValLaws.{to_z-of_z}
use borrow.Author.Rules.{rules}
use Rattle.rules.specs.Layout.{sps93}
use Rattle.rules.specs.Rows.{point_rows}
use Rattle.rules.specs.Values.{text, number, point_values}
use Rattle.writer.specs.Coded.{text_of, point_of, values_of}
use Rattle.writer.proofs.values.point_values.Goals as goal

pub returns : goal.returns
unfolding values_of point_rows sps93 point_values point_of
returns c = record {
  value = let a = c.args.p in
      let depth : to_z w64 (of_z w64 a.depth) ≡ a.depth = to_z-of_z w64 a.depth (search rules) in
      let datum : to_z w64 (of_z w64 a.datum) ≡ a.datum = to_z-of_z w64 a.datum (search rules) in
      let easting : to_z w64 (of_z w64 a.easting) ≡ a.easting = to_z-of_z w64 a.easting (search rules) in
      let northing : to_z w64 (of_z w64 a.northing) ≡ a.northing = to_z-of_z w64 a.northing (search rules) in
      let elevation : to_z w64 (of_z w64 a.elevation) ≡ a.elevation = to_z-of_z w64 a.elevation (search rules) in
      λ i k.
      text (text_of 16 a.name.hi a.name.lo)
      ∷ c.count.ensures.value 8 k
      ∷ c.count-2.ensures.value 1 k
      ∷ c.short.ensures.value 2 k
      ∷ c.held.ensures.value 4 k
      ∷ number (depth k)
      ∷ number (datum k)
      ∷ c.held-2.ensures.value 2 k
      ∷ c.held-3.ensures.value 4 k
      ∷ number (easting k)
      ∷ number (northing k)
      ∷ number (elevation k)
      ∷ c.count-3.ensures.value 3 k
      ∷ c.count-4.ensures.value 6 k ∷ [];
}
