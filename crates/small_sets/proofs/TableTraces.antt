-- The rows of all traces that the table has, on set A with three components a receiver and receiver 102 killed: what a slice holds that held 170.
use Prim.Native.Nat.{ℕ}
use mathlib.Core.Path.{◌≡◌, refl}
use mathlib.Core.List.{List, [], ◌∷◌, ◌++◌}
use lib.ListN.{replicate}
use Rattle.rules.specs.Places
use Rattle.rules.specs.Plan
use Rattle.rules.specs.Text
use Rattle.rules.specs.Numbers
use Rattle.rules.specs.Kinds
use Rattle.rules.specs.Layout
use Rattle.rules.specs.Sheet
use Rattle.rules.specs.Medium
use Rattle.rules.specs.Disc
use Rattle.rules.specs.Tape
use Rattle.rules.specs.Names
use Rattle.rules.specs.Lines
use Rattle.rules.specs.Points
use Rattle.rules.specs.Relations
use Rattle.rules.specs.Cover
use Rattle.rules.specs.Rows
use Rattle.rules.specs.Form
use Rattle.rules.specs.Headers
use Rattle.rules.specs.Codes
use Rattle.rules.specs.Reaches
use Rattle.rules.specs.Order
use Rattle.rules.specs.Check
use Rattle.rules.specs.Questions
use Rattle.rules.specs.OneFile
use Rattle.rules.specs.Lookup
use Rattle.rules.specs.Tables
use Rattle.rules.specs.Spread
use Rattle.rules.specs.Hosts
use Rattle.rules.specs.TraceRows
use Rattle.rules.specs.Disc.{file}
use Rattle.rules.specs.TraceRows.{rows_over}
use Rattle.small_sets.specs.SetA.{headers, point_line, x_of, relation_line}

abbrev r_killed : List ℕ
r_killed = headers ++ (point_line "R" "L1" "     101" "G1" ++ (point_line "R" "L1" "     102" "KL" ++ point_line "R" "L1" "     103" "G1"))

-- the rows from trace i on in n bytes
abbrev rows_a : ℕ → ℕ → List ℕ
rows_a i n = rows_over (file r_killed) (file (x_of (relation_line "     501" "   1   93" "L1" "     101     103"))) i (replicate n 170)

pub table :
    rows_a 4 40 ∷ rows_a 8 20 ∷ rows_a 9 16 ∷ rows_a 0 15 ∷ []
    ≡ (25 ∷ 0 ∷ 0 ∷ 0 ∷ 5 ∷ 0 ∷ 0 ∷ 0 ∷ 26 ∷ 0 ∷ 0 ∷ 0 ∷ 2 ∷ 1 ∷ 0 ∷ 0 ∷ 25 ∷ 0 ∷ 0 ∷ 0 ∷ 6 ∷ 0 ∷ 0 ∷ 0 ∷ 26 ∷ 0 ∷ 0 ∷ 0 ∷ 3 ∷ 1 ∷ 0 ∷ 0 ∷ replicate 8 170)
    ∷ (25 ∷ 0 ∷ 0 ∷ 0 ∷ 9 ∷ 0 ∷ 0 ∷ 0 ∷ 27 ∷ 0 ∷ 0 ∷ 0 ∷ 3 ∷ 0 ∷ 0 ∷ 0 ∷ replicate 4 170)
    ∷ replicate 16 170
    ∷ replicate 15 170 ∷ []
unfolding Places.pick Places.every Places.some Places.least Places.count Places.sum Places.greatest Places.if_before Places.is_before Places.of_last
    Plan.◌or_else◌ Plan.first_of Plan.run Text.col Text.front Text.cols Text.same Text.less Text.blank Text.bytes Text.one_of Numbers.digit
    Numbers.digits_after Numbers.digits Numbers.whole Numbers.justified Numbers.negative Numbers.minus_or Numbers.signed Numbers.then Numbers.pointed
    Numbers.decimal Numbers.tenths Numbers.size Numbers.value Kinds.formed Kinds.between Kinds.within Kinds.all_digits Kinds.digit1 Kinds.index_of
    Kinds.family Kinds.is_code Kinds.water Kinds.is_time Kinds.fits Layout.sps93 Layout.at Sheet.most_lines Disc.printable Disc.byte_fits Form.stray_from
    Form.stray Form.ending Form.rule29 Medium.sheet Disc.disc Tape.page Tape.char_in Tape.place_of Tape.byte_in Tape.tape Names.same_name Names.ranked
    Names.less_name Lines.letter Lines.kind_of Lines.is_header Lines.is_marker Lines.is_data Lines.is_point Lines.heads Points.holds Points.name_of
    Points.number_of Points.index_at Points.state_of Points.point Points.point_at Points.is_at Points.same_point Points.is_killed Relations.reach
    Relations.relation Relations.reach_at Relations.relation_at
    Cover.traces Cover.carries Cover.receivers Cover.receiver_on Cover.on_to Cover.covers Cover.leads Cover.component Cover.channel_of Cover.meet
    Rows.header_rows Rows.point_rows Rows.relation_rows Form.rule1 Form.rule2 Form.rule3 Form.rule4 Form.fields_fit Form.rule5 Form.rule6 Form.line_fits
    Form.form Headers.two_digits Headers.is_type Headers.rule7 Headers.cut Headers.freed_before Headers.freed_after Headers.projection Headers.rule8
    Headers.same_columns Headers.rule9 Codes.tables_of Codes.three_digits Codes.opens Codes.names Codes.named Codes.line_naming Codes.named_before
    Codes.rule24 Codes.used_code Codes.rule25 Codes.codes_fit Tables.written Tables.code_asked Tables.table_line
    Reaches.reaches_of Reaches.of_record Reaches.mates Reaches.together Reaches.rises Reaches.once Reaches.search
    Order.above Order.earlier Order.rule10 Order.rule11 Order.rule12 Order.is_point_at Order.is_live Order.is_shot_of Order.line_of_point Order.shot_line
    Order.receiver_line Order.rule13
    Order.rule14 Order.names Order.rule15 Order.same_shot Order.rule16 Order.rule17 Order.receivers_there Order.rule18 Order.rule19 Check.relation_fits
    Check.rules Check.verdict Check.points Check.relations Check.all_traces Check.leads_to_killed Check.dead_of Check.dead_traces Check.answer Check.cross
    Questions.record_asked Questions.channel_asked
    Questions.line_asked Questions.component_asked Questions.rule20 OneFile.kind_asked OneFile.one_file OneFile.file_form Lookup.found Lookup.lookup
    Lookup.reaches Lookup.found_back Lookup.way_back
    Spread.highest_of Spread.line_of Spread.component_of Spread.turns Spread.rule21 Spread.spread_verdict Spread.spread Spread.unless_refused Spread.slice
    Hosts.packed Hosts.host_number Hosts.numbers_of Hosts.low_bytes TraceRows.traces_above TraceRows.line_of_trace TraceRows.channel_of_trace
    TraceRows.trace_row TraceRows.row_bytes TraceRows.rows_from TraceRows.rows_over
table = refl
