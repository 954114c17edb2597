-- The rows that the requests on codes, killed points and single files add to the table, on set A and its changes.
use Prim.Native.Nat.{ℕ}
use Prim.Native.String.{String}
use mathlib.Core.Path.{◌≡◌, refl}
use mathlib.Core.Bool.{true, false}
use mathlib.Core.List.{List, [], ◌∷◌, ◌++◌}
use lib.ListN.{take}
use Rattle.rules.specs.Places
use Rattle.rules.specs.Plan
use Rattle.rules.specs.Text
use Rattle.rules.specs.Numbers
use Rattle.rules.specs.Kinds
use Rattle.rules.specs.Layout
use Rattle.rules.specs.Sheet
use Rattle.rules.specs.Medium
use Rattle.rules.specs.Disc
use Rattle.rules.specs.Tape
use Rattle.rules.specs.Names
use Rattle.rules.specs.Lines
use Rattle.rules.specs.Points
use Rattle.rules.specs.Relations
use Rattle.rules.specs.Cover
use Rattle.rules.specs.Rows
use Rattle.rules.specs.Form
use Rattle.rules.specs.Headers
use Rattle.rules.specs.Codes
use Rattle.rules.specs.Reaches
use Rattle.rules.specs.Order
use Rattle.rules.specs.Check
use Rattle.rules.specs.Questions
use Rattle.rules.specs.OneFile
use Rattle.rules.specs.Lookup
use Rattle.rules.specs.Tables
use Rattle.rules.specs.Spread
use Rattle.rules.specs.Hosts
use Rattle.rules.specs.Text.{bytes}
use Rattle.rules.specs.Disc.{file}
use Rattle.rules.specs.Plan.{№, file_r, file_s, file_x}
use Rattle.rules.specs.Check.{Answer, accepted, refusal, trace, channel, header_line, formed, cross}
use Rattle.rules.specs.OneFile.{file_form}
use Rattle.rules.specs.Lookup.{lookup, way_back}
use Rattle.rules.specs.Tables.{table_line}
use Rattle.small_sets.specs.SetA.{types, code_header, headers, put, point_line, x_of, r_a, s_a, x_a, relation_line}

abbrev cross_a : List ℕ → List ℕ → List ℕ → Answer
cross_a r s x = cross (file r) (file s) (file x)

abbrev x_three : List ℕ
x_three = x_of (relation_line "     501" "   1   93" "L1" "     101     103")

-- one receiver, shot and relation line with those codes and instrument, under the tables of 1 and V1 and some more
abbrev coded : String → String → String → List ℕ → Answer
coded g v i more =
    let h = types ++ (code_header 400 "1," ++ (code_header 700 "V1" ++ more)) in
    cross_a (h ++ point_line "R" "L1" "     101" g) (h ++ point_line "S" "L1" "     501" v)
    (h ++ put 13 (bytes i) (relation_line "     501" "   1   11" "L1" "     101     101"))

-- set A with receiver 102 killed
abbrev r_killed : List ℕ
r_killed = headers ++ (point_line "R" "L1" "     101" "G1" ++ (point_line "R" "L1" "     102" "KL" ++ point_line "R" "L1" "     103" "G1"))

abbrev lookup_k : ℕ → Answer
lookup_k c = lookup (file r_killed) (file s_a) (file x_three) (bytes "100   ") 11 c

pub table :
    coded "G2" "V1" "1" (code_header 600 "G1")
    ∷ coded "G1" "V2" "1" (code_header 600 "G1")
    ∷ coded "G1" "V1" "2" (code_header 600 "G1")
    ∷ coded "G1" "V1" "1" (code_header 600 "G1" ++ code_header 610 "G1")
    ∷ coded "G1" "V1" "2" (code_header 610 "G1" ++ code_header 560 "2,")
    ∷ coded "G1" "V1" "1" (code_header 601 "G1")
    ∷ coded "KL" "V1" " " (code_header 700 "G1")
    ∷ table_line (file r_a) (file s_a) (file x_a) 82 (bytes "G1")
    ∷ table_line (file r_a) (file s_a) (file x_a) 88 (bytes "2")
    ∷ table_line (file r_a) (file s_a) (file x_a) 83 (bytes "KL")
    ∷ cross_a r_killed s_a x_three
    ∷ lookup_k 6
    ∷ lookup_k 7
    ∷ way_back (file r_killed) (file s_a) (file x_three) (bytes "100   ") 11 26 3
    ∷ cross_a r_a (headers ++ point_line "S" "L1" "     501" "KL") x_a
    ∷ cross_a r_a (s_a ++ point_line "S" "L1" "     502" "KL") x_a
    ∷ file_form 82 (file r_a)
    ∷ file_form 88 (file x_a)
    ∷ file_form 82 (file x_a)
    ∷ file_form 83 (file (take 81 r_a))
    ∷ file_form 81 (file (take 81 r_a)) ∷ []
    ≡ refusal (№ 25 file_r 25 27)
    ∷ refusal (№ 25 file_s 25 27)
    ∷ refusal (№ 25 file_x 25 13)
    ∷ refusal (№ 24 file_r 25 33)
    ∷ accepted 1 1 1 1 0
    ∷ refusal (№ 25 file_r 25 27)
    ∷ accepted 1 1 1 1 1
    ∷ header_line 23
    ∷ header_line 0
    ∷ refusal (№ 20 0 0 0)
    ∷ accepted 3 1 1 9 3
    ∷ trace 26 3 true
    ∷ trace 27 1 false
    ∷ channel 6
    ∷ refusal (№ 13 file_x 25 14)
    ∷ accepted 3 2 1 3 0
    ∷ formed
    ∷ formed
    ∷ refusal (№ 4 file_r 25 1)
    ∷ refusal (№ 1 file_s 1 0)
    ∷ refusal (№ 20 0 0 0) ∷ []
unfolding Places.pick Places.every Places.some Places.least Places.count Places.sum Places.greatest Places.if_before Places.is_before Places.of_last
    Plan.◌or_else◌ Plan.first_of Plan.run Text.col Text.front Text.cols Text.same Text.less Text.blank Text.bytes Text.one_of Numbers.digit
    Numbers.digits_after Numbers.digits Numbers.whole Numbers.justified Numbers.negative Numbers.minus_or Numbers.signed Numbers.then Numbers.pointed
    Numbers.decimal Numbers.tenths Numbers.size Numbers.value Kinds.formed Kinds.between Kinds.within Kinds.all_digits Kinds.digit1 Kinds.index_of
    Kinds.family Kinds.is_code Kinds.water Kinds.is_time Kinds.fits Layout.sps93 Layout.at Sheet.most_lines Disc.printable Disc.byte_fits Form.stray_from
    Form.stray Form.ending Form.rule29 Medium.sheet Disc.disc Tape.page Tape.char_in Tape.place_of Tape.byte_in Tape.tape Names.same_name Names.ranked
    Names.less_name Lines.letter Lines.kind_of Lines.is_header Lines.is_marker Lines.is_data Lines.is_point Lines.heads Points.holds Points.name_of
    Points.number_of Points.index_at Points.state_of Points.point Points.point_at Points.is_at Points.same_point Points.is_killed Relations.reach
    Relations.relation Relations.reach_at Relations.relation_at
    Cover.traces Cover.carries Cover.receivers Cover.receiver_on Cover.on_to Cover.covers Cover.leads Cover.component Cover.channel_of Cover.meet
    Rows.header_rows Rows.point_rows Rows.relation_rows Form.rule1 Form.rule2 Form.rule3 Form.rule4 Form.fields_fit Form.rule5 Form.rule6 Form.line_fits
    Form.form Headers.two_digits Headers.is_type Headers.rule7 Headers.cut Headers.freed_before Headers.freed_after Headers.projection Headers.rule8
    Headers.same_columns Headers.rule9 Codes.tables_of Codes.three_digits Codes.opens Codes.names Codes.named Codes.line_naming Codes.named_before
    Codes.rule24 Codes.used_code Codes.rule25 Codes.codes_fit Tables.written Tables.code_asked Tables.table_line
    Reaches.reaches_of Reaches.of_record Reaches.mates Reaches.together Reaches.rises Reaches.once Reaches.search
    Order.above Order.earlier Order.rule10 Order.rule11 Order.rule12 Order.is_point_at Order.is_live Order.is_shot_of Order.line_of_point Order.shot_line
    Order.receiver_line Order.rule13
    Order.rule14 Order.names Order.rule15 Order.same_shot Order.rule16 Order.rule17 Order.receivers_there Order.rule18 Order.rule19 Check.relation_fits
    Check.rules Check.verdict Check.points Check.relations Check.all_traces Check.leads_to_killed Check.dead_of Check.dead_traces Check.answer Check.cross
    Questions.record_asked Questions.channel_asked
    Questions.line_asked Questions.component_asked Questions.rule20 OneFile.kind_asked OneFile.one_file OneFile.file_form Lookup.found Lookup.lookup
    Lookup.reaches Lookup.found_back Lookup.way_back
    Spread.highest_of Spread.line_of Spread.component_of Spread.turns Spread.rule21 Spread.spread_verdict Spread.spread Spread.unless_refused Spread.slice
    Hosts.packed Hosts.host_number Hosts.numbers_of
table = refl
