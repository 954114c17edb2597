-- "The (p) cases form a single proved table over the rules as defined": each row marked (p), on set A built from its description; then tapes,
-- coordinates without a point, and lines laid out backwards.
use Prim.Native.Nat.{ℕ}
use Prim.Native.String.{String}
use mathlib.Core.Path.{◌≡◌, refl}
use mathlib.Core.Bool.{false}
use mathlib.Core.List.{List, [], ◌∷◌, ◌++◌}
use lib.IntN.{pos}
use Rattle.rules.specs.Places
use Rattle.rules.specs.Plan
use Rattle.rules.specs.Text
use Rattle.rules.specs.Numbers
use Rattle.rules.specs.Kinds
use Rattle.rules.specs.Layout
use Rattle.rules.specs.Sheet
use Rattle.rules.specs.Medium
use Rattle.rules.specs.Disc
use Rattle.rules.specs.Tape
use Rattle.rules.specs.Names
use Rattle.rules.specs.Lines
use Rattle.rules.specs.Points
use Rattle.rules.specs.Relations
use Rattle.rules.specs.Cover
use Rattle.rules.specs.Rows
use Rattle.rules.specs.Form
use Rattle.rules.specs.Headers
use Rattle.rules.specs.Codes
use Rattle.rules.specs.Reaches
use Rattle.rules.specs.Order
use Rattle.rules.specs.Check
use Rattle.rules.specs.Questions
use Rattle.rules.specs.Lookup
use Rattle.rules.specs.Tables
use Rattle.rules.specs.Spread
use Rattle.rules.specs.Hosts
use Rattle.rules.specs.Text.{bytes}
use Rattle.rules.specs.Disc.{file}
use Rattle.rules.specs.Plan.{№, file_r, file_x}
use Rattle.rules.specs.Check.{Answer, accepted, refusal, trace, no_trace, cross}
use Rattle.rules.specs.Lookup.{lookup}
use Rattle.rules.specs.Layout.{sps93}
use Rattle.rules.specs.Points.{point}
use Rattle.rules.specs.Medium.{sheet}
use Rattle.rules.specs.Tape.{tape}
use Rattle.small_sets.specs.SetA.{headers, put, point_line, r_of, x_of, r_a, s_a, x_a, line_a, relation_line, eof, tape_of}

abbrev cross_a : List ℕ → List ℕ → List ℕ → Answer
cross_a r s x = cross (file r) (file s) (file x)

abbrev lookup_a : List ℕ → ℕ → ℕ → Answer
lookup_a x n c = lookup (file r_a) (file s_a) (file x) (bytes "100   ") n c

abbrev x_three : List ℕ
x_three = x_of (relation_line "     501" "   1   93" "L1" "     101     103")

-- the same on tape, with records after the EOF of X
abbrev cross_tape : List ℕ → List ℕ → List ℕ → List ℕ → Answer
cross_tape r s x after = cross (sheet tape sps93 (tape_of r)) (sheet tape sps93 (tape_of s)) (sheet tape sps93 (tape_of x ++ after))

-- two names whose order differs between the codes
abbrev r_names : List ℕ
r_names = headers ++ (point_line "R" "1A" "     101" "G1" ++ point_line "R" "A1" "     102" "G1")

abbrev x_names : List ℕ
x_names = x_of (relation_line "     501" "   1   11" "1A" "     101     101")

-- one receiver, with another text from column c on
abbrev line_with : ℕ → String → List ℕ
line_with c t = put c (bytes t) (point_line "R" "L1" "     101" "G1")

-- set A's line laid out backwards
abbrev x_down : List ℕ
x_down = x_of (relation_line "     501" "   1   31" "L1" "     103     101")

abbrev cross_with : ℕ → String → Answer
cross_with c t = cross_a (headers ++ line_with c t) s_a (x_of (relation_line "     501" "   1   11" "L1" "     101     101"))

pub table :
    lookup_a x_a 11 2
    ∷ lookup_a x_a 12 2
    ∷ cross_a r_a s_a x_three
    ∷ lookup_a x_three 11 6
    ∷ cross_a r_a s_a (x_of (relation_line "     501" "   1   41" "L1" "     101     103"))
    ∷ cross_a r_a s_a (x_of (relation_line "     501" "   1   32" "L1" "     101     103"))
    ∷ cross_a r_a s_a (x_of (relation_line "     501" "   1   41" "L1" "     101     104"))
    ∷ cross_a (r_of "L1" "     101" "     103" "     102") s_a x_a
    ∷ cross_a (r_of "1   12" "     101" "     102" "     103") s_a
    (x_of (relation_line "     501" "   1   31" "11  2" "     101     103"))
    ∷ cross_a r_a s_a (x_of (relation_line "00000501" "   1   31" "L1" "     101     103"))
    ∷ cross_a r_a s_a (x_of (line_a ++ relation_line "     501" "   3   31" "L1" "     103     103"))
    ∷ cross_a r_a s_a (x_of (line_a ++ relation_line "     501" "   4   41" "L1" "     103     103"))
    ∷ cross_a r_names s_a x_names
    ∷ cross_tape r_a s_a x_a []
    ∷ cross_tape r_a s_a x_a eof
    ∷ cross_tape r_names s_a x_names []
    ∷ cross_with 47 "003262601"
    ∷ cross_with 33 "1000"
    ∷ lookup_a x_down 11 1
    ∷ cross_a r_a s_a (x_of (relation_line "     501" "   1   41" "L1" "     103     101"))
    ∷ cross_a r_a s_a (x_of (line_a ++ relation_line "     501" "   4   61" "L1" "     103     101")) ∷ []
    ≡ trace 26 1 false
    ∷ no_trace
    ∷ accepted 3 1 1 9 0
    ∷ trace 26 3 false
    ∷ refusal (№ 6 file_x 25 72)
    ∷ refusal (№ 6 file_x 25 47)
    ∷ refusal (№ 18 file_x 25 64)
    ∷ refusal (№ 10 file_r 27 2)
    ∷ refusal (№ 18 file_x 25 64)
    ∷ accepted 3 1 1 3 0
    ∷ refusal (№ 17 file_x 26 39)
    ∷ refusal (№ 19 file_x 26 64)
    ∷ accepted 2 1 1 1 0
    ∷ accepted 3 1 1 3 0
    ∷ refusal (№ 29 file_x 27 0)
    ∷ refusal (№ 10 file_r 26 2)
    ∷ accepted 1 1 1 1 0
    ∷ refusal (№ 5 file_r 25 33)
    ∷ trace 27 1 false
    ∷ refusal (№ 6 file_x 25 72)
    ∷ refusal (№ 19 file_x 26 64) ∷ []
unfolding Places.pick Places.every Places.some Places.least Places.count Places.sum Places.greatest Places.if_before Places.is_before Places.of_last
    Plan.◌or_else◌ Plan.first_of Plan.run Text.col Text.front Text.cols Text.same Text.less Text.blank Text.bytes Text.one_of Numbers.digit
    Numbers.digits_after Numbers.digits Numbers.whole Numbers.justified Numbers.negative Numbers.minus_or Numbers.signed Numbers.then Numbers.pointed
    Numbers.decimal Numbers.tenths Numbers.size Numbers.value Kinds.formed Kinds.between Kinds.within Kinds.all_digits Kinds.digit1 Kinds.index_of
    Kinds.family Kinds.is_code Kinds.water Kinds.is_time Kinds.fits Layout.sps93 Layout.at Sheet.most_lines Disc.printable Disc.byte_fits Form.stray_from
    Form.stray Form.ending Form.rule29 Medium.sheet Disc.disc Tape.page Tape.char_in Tape.place_of Tape.byte_in Tape.tape Names.same_name Names.ranked
    Names.less_name Lines.letter Lines.kind_of Lines.is_header Lines.is_marker Lines.is_data Lines.is_point Lines.heads Points.holds Points.name_of
    Points.number_of Points.index_at Points.state_of Points.point Points.point_at Points.is_at Points.same_point Points.is_killed Relations.reach
    Relations.relation Relations.reach_at Relations.relation_at
    Cover.traces Cover.carries Cover.receivers Cover.receiver_on Cover.on_to Cover.covers Cover.leads Cover.component Cover.channel_of Cover.meet
    Rows.header_rows Rows.point_rows Rows.relation_rows Form.rule1 Form.rule2 Form.rule3 Form.rule4 Form.fields_fit Form.rule5 Form.rule6 Form.line_fits
    Form.form Headers.two_digits Headers.is_type Headers.rule7 Headers.cut Headers.freed_before Headers.freed_after Headers.projection Headers.rule8
    Headers.same_columns Headers.rule9 Codes.tables_of Codes.three_digits Codes.opens Codes.names Codes.named Codes.line_naming Codes.named_before
    Codes.rule24 Codes.used_code Codes.rule25 Codes.codes_fit Tables.written Tables.code_asked Tables.table_line
    Reaches.reaches_of Reaches.of_record Reaches.mates Reaches.together Reaches.rises Reaches.once Reaches.search
    Order.above Order.earlier Order.rule10 Order.rule11 Order.rule12 Order.is_point_at Order.is_live Order.is_shot_of Order.line_of_point Order.shot_line
    Order.receiver_line Order.rule13
    Order.rule14 Order.names Order.rule15 Order.same_shot Order.rule16 Order.rule17 Order.receivers_there Order.rule18 Order.rule19 Check.relation_fits
    Check.rules Check.verdict Check.points Check.relations Check.all_traces Check.leads_to_killed Check.dead_of Check.dead_traces Check.answer Check.cross
    Questions.record_asked Questions.channel_asked
    Questions.line_asked Questions.component_asked Questions.rule20 Lookup.found Lookup.lookup Lookup.reaches Lookup.found_back Lookup.way_back
    Spread.highest_of Spread.line_of Spread.component_of Spread.turns Spread.rule21 Spread.spread_verdict Spread.spread Spread.unless_refused Spread.slice
    Hosts.packed Hosts.host_number Hosts.numbers_of
table = refl

-- "easting 003262601, meaning 326260.1"
pub bare_easting : (point sps93 (line_with 47 "003262601")).easting ≡ pos 3262601
unfolding Places.pick Text.col Text.front Text.cols Text.blank Text.bytes Numbers.digit Numbers.digits_after Numbers.digits Numbers.whole Numbers.justified
    Numbers.negative Numbers.minus_or Numbers.signed Numbers.then Numbers.pointed Numbers.decimal Numbers.tenths Numbers.size Numbers.value Kinds.between
    Kinds.index_of Kinds.water Layout.sps93 Layout.at Points.holds Points.name_of Points.number_of Points.index_at Points.state_of Points.point
bare_easting = refl
