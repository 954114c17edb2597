-- The rows that the writer adds to the table: lines of set A and their changes as they come back when they are read and written.
use Prim.Native.Nat.{ℕ}
use Prim.Native.String.{String}
use mathlib.Core.Path.{◌≡◌, refl}
use mathlib.Core.List.{List, [], ◌∷◌}
use lib.ListN.{take}
use Rattle.rules.specs.Places
use Rattle.rules.specs.Plan
use Rattle.rules.specs.Text
use Rattle.rules.specs.Numbers
use Rattle.rules.specs.Kinds
use Rattle.rules.specs.Layout
use Rattle.rules.specs.Sheet
use Rattle.rules.specs.Medium
use Rattle.rules.specs.Disc
use Rattle.rules.specs.Tape
use Rattle.rules.specs.Names
use Rattle.rules.specs.Lines
use Rattle.rules.specs.Points
use Rattle.rules.specs.Relations
use Rattle.rules.specs.Cover
use Rattle.rules.specs.Rows
use Rattle.rules.specs.Form
use Rattle.rules.specs.Headers
use Rattle.rules.specs.Codes
use Rattle.rules.specs.Reaches
use Rattle.rules.specs.Order
use Rattle.rules.specs.Check
use Rattle.rules.specs.Questions
use Rattle.rules.specs.OneFile
use Rattle.rules.specs.Lookup
use Rattle.rules.specs.Tables
use Rattle.rules.specs.Spread
use Rattle.rules.specs.Hosts
use Rattle.rules.specs.Figures
use Rattle.rules.specs.Values
use Rattle.rules.specs.Spelled
use Rattle.rules.specs.Writer
use Rattle.rules.specs.Text.{bytes}
use Rattle.rules.specs.Plan.{№, Verdict, fine, refused, run}
use Rattle.rules.specs.Layout.{sps93}
use Rattle.rules.specs.Points.{point}
use Rattle.rules.specs.Relations.{relation}
use Rattle.rules.specs.Writer.{point_writes, relation_writes, writes, point_line as point_written, relation_line as relation_written}
use Rattle.small_sets.specs.SetA.{put, point_line, relation_line, line_a}

-- the first receiver of set A with another text from column c on, and what it is written as
abbrev line_with : ℕ → String → List ℕ
line_with c t = put c (bytes t) (point_line "R" "L1" "     101" "G1")

abbrev again : ℕ → String → List ℕ
again c t = point_written 1 (point sps93 (take 80 (line_with c t)))

-- the verdict on writing it as a line of that letter into n bytes
abbrev judged : ℕ → ℕ → String → ℕ → Verdict
judged b c t n = run (writes (point_writes b (point sps93 (take 80 (line_with c t)))) n)

abbrev relation_judged : List ℕ → Verdict
relation_judged l = run (writes (relation_writes (relation sps93 (take 80 l))) 82)

pub lines :
    again 26 "1"
    ∷ again 26 " "
    ∷ again 18 "00000101"
    ∷ again 47 "003262601"
    ∷ again 47 "123456789"
    ∷ again 47 "-12345678"
    ∷ again 66 "  -0.5"
    ∷ again 43 "  50"
    ∷ again 43 " 100"
    ∷ again 75 "000059"
    ∷ relation_written (relation sps93 (take 80 (put 8 (bytes "00119 ") line_a)))
    ∷ relation_written (relation sps93 (take 80 line_a)) ∷ []
    ≡ line_with 26 "1"
    ∷ line_with 26 "1"
    ∷ line_with 18 "     101"
    ∷ line_with 47 " 326260.1"
    ∷ line_with 47 "123456789"
    ∷ line_with 47 "-12345678"
    ∷ line_with 66 "  -0.5"
    ∷ line_with 43 "50.0"
    ∷ line_with 43 " 100"
    ∷ line_with 75 "000059"
    ∷ put 8 (bytes "  1191") line_a
    ∷ line_a ∷ []
unfolding Places.pick Places.every Places.some Places.least Places.count Places.sum Places.greatest Places.if_before Places.is_before Places.of_last
    Plan.◌or_else◌ Plan.first_of Plan.run Text.col Text.front Text.cols Text.same Text.less Text.blank Text.bytes Text.one_of Numbers.digit
    Numbers.digits_after Numbers.digits Numbers.whole Numbers.justified Numbers.negative Numbers.minus_or Numbers.signed Numbers.then Numbers.pointed
    Numbers.decimal Numbers.tenths Numbers.size Numbers.value Kinds.formed Kinds.between Kinds.within Kinds.all_digits Kinds.digit1 Kinds.index_of
    Kinds.family Kinds.is_code Kinds.water Kinds.is_time Kinds.fits Layout.sps93 Layout.at Sheet.most_lines Disc.printable Disc.byte_fits Form.stray_from
    Form.stray Form.ending Form.rule29 Medium.sheet Disc.disc Tape.page Tape.char_in Tape.place_of Tape.byte_in Tape.tape Names.same_name Names.ranked
    Names.less_name Lines.letter Lines.kind_of Lines.is_header Lines.is_marker Lines.is_data Lines.is_point Lines.heads Points.holds Points.name_of
    Points.number_of Points.index_at Points.state_of Points.point Points.point_at Points.is_at Points.same_point Points.is_killed Relations.reach
    Relations.relation Relations.reach_at Relations.relation_at
    Cover.traces Cover.carries Cover.receivers Cover.receiver_on Cover.on_to Cover.covers Cover.leads Cover.component Cover.channel_of Cover.meet
    Rows.header_rows Rows.point_rows Rows.relation_rows Form.rule1 Form.rule2 Form.rule3 Form.rule4 Form.fields_fit Form.rule5 Form.rule6 Form.line_fits
    Form.form Headers.two_digits Headers.is_type Headers.rule7 Headers.cut Headers.freed_before Headers.freed_after Headers.projection Headers.rule8
    Headers.same_columns Headers.rule9 Codes.tables_of Codes.three_digits Codes.opens Codes.names Codes.named Codes.line_naming Codes.named_before
    Codes.rule24 Codes.used_code Codes.rule25 Codes.codes_fit Tables.written Tables.code_asked Tables.table_line
    Reaches.reaches_of Reaches.of_record Reaches.mates Reaches.together Reaches.rises Reaches.once Reaches.search
    Order.above Order.earlier Order.rule10 Order.rule11 Order.rule12 Order.is_point_at Order.is_live Order.is_shot_of Order.line_of_point Order.shot_line
    Order.receiver_line Order.rule13
    Order.rule14 Order.names Order.rule15 Order.same_shot Order.rule16 Order.rule17 Order.receivers_there Order.rule18 Order.rule19 Check.relation_fits
    Check.rules Check.verdict Check.points Check.relations Check.all_traces Check.leads_to_killed Check.dead_of Check.dead_traces Check.answer Check.cross
    Questions.record_asked Questions.channel_asked
    Questions.line_asked Questions.component_asked Questions.rule20 OneFile.kind_asked OneFile.one_file OneFile.file_form Lookup.found Lookup.lookup
    Lookup.reaches Lookup.found_back Lookup.way_back
    Spread.highest_of Spread.line_of Spread.component_of Spread.turns Spread.rule21 Spread.spread_verdict Spread.spread Spread.unless_refused Spread.slice
    Hosts.packed Hosts.host_number Hosts.numbers_of
    Figures.figures Figures.decimal_of Values.read_as Values.point_values Values.relation_values Spelled.padded Spelled.with_point Spelled.by_sign
    Spelled.water_figures Spelled.spelled_as Spelled.spelled Spelled.spell Spelled.up_from Spelled.from_to Spelled.is_clock Spelled.is_depth Spelled.of_natural
    Spelled.allows_number Spelled.allows_text Spelled.allows_nothing Spelled.allows Spelled.columns_hold Spelled.goes_into Writer.joined Writer.writable
    Writer.line_of Writer.point_writes Writer.counted Writer.relation_writes Writer.writes
lines = refl

pub verdicts :
    judged 82 26 "1" 82
    ∷ judged 82 26 "1" 81
    ∷ judged 83 26 "1" 81
    ∷ judged 88 26 "1" 82
    ∷ judged 82 27 "PM" 82
    ∷ judged 82 27 "KL" 82
    ∷ relation_judged line_a
    ∷ relation_judged (relation_line "     501" "   1   41" "L1" "     101     103") ∷ []
    ≡ fine
    ∷ refused (№ 23 0 0 0)
    ∷ refused (№ 22 0 0 0)
    ∷ refused (№ 22 0 0 0)
    ∷ refused (№ 22 0 0 0)
    ∷ fine
    ∷ fine
    ∷ refused (№ 22 0 0 0) ∷ []
unfolding Places.pick Places.every Places.some Places.least Places.count Places.sum Places.greatest Places.if_before Places.is_before Places.of_last
    Plan.◌or_else◌ Plan.first_of Plan.run Text.col Text.front Text.cols Text.same Text.less Text.blank Text.bytes Text.one_of Numbers.digit
    Numbers.digits_after Numbers.digits Numbers.whole Numbers.justified Numbers.negative Numbers.minus_or Numbers.signed Numbers.then Numbers.pointed
    Numbers.decimal Numbers.tenths Numbers.size Numbers.value Kinds.formed Kinds.between Kinds.within Kinds.all_digits Kinds.digit1 Kinds.index_of
    Kinds.family Kinds.is_code Kinds.water Kinds.is_time Kinds.fits Layout.sps93 Layout.at Sheet.most_lines Disc.printable Disc.byte_fits Form.stray_from
    Form.stray Form.ending Form.rule29 Medium.sheet Disc.disc Tape.page Tape.char_in Tape.place_of Tape.byte_in Tape.tape Names.same_name Names.ranked
    Names.less_name Lines.letter Lines.kind_of Lines.is_header Lines.is_marker Lines.is_data Lines.is_point Lines.heads Points.holds Points.name_of
    Points.number_of Points.index_at Points.state_of Points.point Points.point_at Points.is_at Points.same_point Points.is_killed Relations.reach
    Relations.relation Relations.reach_at Relations.relation_at
    Cover.traces Cover.carries Cover.receivers Cover.receiver_on Cover.on_to Cover.covers Cover.leads Cover.component Cover.channel_of Cover.meet
    Rows.header_rows Rows.point_rows Rows.relation_rows Form.rule1 Form.rule2 Form.rule3 Form.rule4 Form.fields_fit Form.rule5 Form.rule6 Form.line_fits
    Form.form Headers.two_digits Headers.is_type Headers.rule7 Headers.cut Headers.freed_before Headers.freed_after Headers.projection Headers.rule8
    Headers.same_columns Headers.rule9 Codes.tables_of Codes.three_digits Codes.opens Codes.names Codes.named Codes.line_naming Codes.named_before
    Codes.rule24 Codes.used_code Codes.rule25 Codes.codes_fit Tables.written Tables.code_asked Tables.table_line
    Reaches.reaches_of Reaches.of_record Reaches.mates Reaches.together Reaches.rises Reaches.once Reaches.search
    Order.above Order.earlier Order.rule10 Order.rule11 Order.rule12 Order.is_point_at Order.is_live Order.is_shot_of Order.line_of_point Order.shot_line
    Order.receiver_line Order.rule13
    Order.rule14 Order.names Order.rule15 Order.same_shot Order.rule16 Order.rule17 Order.receivers_there Order.rule18 Order.rule19 Check.relation_fits
    Check.rules Check.verdict Check.points Check.relations Check.all_traces Check.leads_to_killed Check.dead_of Check.dead_traces Check.answer Check.cross
    Questions.record_asked Questions.channel_asked
    Questions.line_asked Questions.component_asked Questions.rule20 OneFile.kind_asked OneFile.one_file OneFile.file_form Lookup.found Lookup.lookup
    Lookup.reaches Lookup.found_back Lookup.way_back
    Spread.highest_of Spread.line_of Spread.component_of Spread.turns Spread.rule21 Spread.spread_verdict Spread.spread Spread.unless_refused Spread.slice
    Hosts.packed Hosts.host_number Hosts.numbers_of
    Figures.figures Figures.decimal_of Values.read_as Values.point_values Values.relation_values Spelled.padded Spelled.with_point Spelled.by_sign
    Spelled.water_figures Spelled.spelled_as Spelled.spelled Spelled.spell Spelled.up_from Spelled.from_to Spelled.is_clock Spelled.is_depth Spelled.of_natural
    Spelled.allows_number Spelled.allows_text Spelled.allows_nothing Spelled.allows Spelled.columns_hold Spelled.goes_into Writer.joined Writer.writable
    Writer.line_of Writer.point_writes Writer.counted Writer.relation_writes Writer.writes
verdicts = refl
