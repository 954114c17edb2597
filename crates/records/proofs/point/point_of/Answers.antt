-- What `records::point::point_of` leaves to show.
use Prim.Native.Nat.{ℕ}
use mathlib.Core.List.{List}
use mir.Syntax.{w64}
use mir.ValLaws.{to_z-of_z}
use Rattle.records.proofs.Values.{held_is}
use Rattle.records.specs.Coded.{held_of, coded_state}
use Rattle.rules.specs.Kinds.{water}
use Rattle.rules.specs.Layout.{at, sps93}
use Rattle.rules.specs.Numbers.{Number, signed, value, whole}
use Rattle.rules.specs.Disc.{disc}
use Rattle.rules.specs.Names.{ranked}
use Rattle.rules.specs.Points.{holds, index_at, name_of, number_of, state_of, point}
use Rattle.lines.specs.declared.Reading.{Reading}
use Rattle.lines.specs.Reading.{medium_of}
use Rattle.lines.proofs.Sheets.{ranked_own}
use Rattle.rules.specs.Text.{blank, cols}
use mathlib.Core.Path.{◌∙◌, ap}
use Rattle.records.proofs.point.point_of.Goals as goal

pub returns : goal.returns
unfolding point sps93 number_of index_at name_of at holds disc
returns c = record {
  value = let l = c.args.l.now in
      let p_name = c.name.ensures.value in
      let p_number = c.number_at.ensures.value in
      let p_index = c.index_at.ensures.value in
      let p_code = c.pack.ensures.value in
      let p_state = (c.state_in.ensures.value
      ∙ ap (λ (how : Reading). coded_state (state_of (at (ranked (medium_of how).char_of l) sps93.code)))
      c.disc.ensures.value
      ∙ ap (λ (m : List ℕ). coded_state (state_of (at m sps93.code))) (ranked_own l)) in
      let p_fixed = (c.held_at.ensures.value ∙ ap (λ (n : Number). held_of (blank (cols l 29 32)) (value n))
      c.signed.ensures.value ∙ held_is (blank (cols l 29 32)) (value (signed (cols l 29 32)))) in
      let p_depth = (to_z-of_z w64 c.value.result (record { sfits = c.value.type_inv })
      ∙ c.value.ensures.value ∙ ap value c.decimal.ensures.value) in
      let p_datum = (to_z-of_z w64 c.value-2.result (record { sfits = c.value-2.type_inv }) ∙ c.value-2.ensures.value ∙ ap value c.signed-2.ensures.value) in
      let p_uphole = (c.held_at-2.ensures.value ∙ ap (λ (n : Number). held_of (blank (cols l 41 42)) (value n))
      c.whole.ensures.value ∙ held_is (blank (cols l 41 42)) (value (whole (cols l 41 42)))) in
      let p_water = (c.held_at-3.ensures.value ∙ ap (λ (n : Number). held_of (blank (cols l 43 46)) (value n)) c.water.ensures.value
      ∙ held_is (blank (cols l 43 46)) (value (water (cols l 43 46)))) in
      let p_easting = (to_z-of_z w64 c.value-3.result
      (record { sfits = c.value-3.type_inv })
      ∙ c.value-3.ensures.value
      ∙ ap value c.signed_decimal.ensures.value) in
      let p_northing = (to_z-of_z w64 c.value-4.result
      (record { sfits = c.value-4.type_inv }) ∙ c.value-4.ensures.value
      ∙ ap value c.signed_decimal-2.ensures.value) in
      let p_elevation = (to_z-of_z w64 c.value-5.result (record { sfits = c.value-5.type_inv })
      ∙ c.value-5.ensures.value ∙ ap value c.signed_decimal-3.ensures.value) in
      let p_day = c.number_at-2.ensures.value in
      let p_time = c.number_at-3.ensures.value in
      λ i.
      record {
        name = p_name i;
        number = p_number i;
        index = p_index i;
        code = p_code i;
        state = p_state i;
        fixed = p_fixed i;
        depth = p_depth i;
        datum = p_datum i;
        uphole = p_uphole i;
        water = p_water i;
        easting = p_easting i;
        northing = p_northing i;
        elevation = p_elevation i;
        day = p_day i;
        time = p_time i;
      };
}
