-- The number of an answer tells it, where the answer is that of the definitions.
use Prim.Native.Nat.{ℕ, zero, suc, ◌^◌, ◌≤◌, ◌<◌}
use native.Mathlib.Omega.{arith}
use mathlib.Core.Path.{◌≡◌, refl, sym, ap, ◌∙◌}
use mathlib.Core.Logic.{⊎_elim}
use mathlib.Core.Bool.{Bool, true, false}
use mathlib.Core.List.{List}
use Rattle.rules.specs.Places.{pick}
use Rattle.rules.specs.Plan.{№, Verdict as PaperVerdict, fine, refused, ◌before◌, run}
use Rattle.rules.specs.Sheet.{Sheet}
use Rattle.rules.specs.Codes.{line_naming}
use Rattle.rules.specs.OneFile.{one_file, file_form}
use Rattle.rules.specs.Check.{Answer, accepted, refusal, highest, header_line, formed, trace}
use Rattle.rules.specs.Check.{rules, verdict, answer, points, relations, all_traces, dead_traces, cross}
use Rattle.rules.specs.Questions.{rule20}
use Rattle.rules.specs.Lines.{kind_of}
use Rattle.rules.specs.Tables.{written, code_asked, table_line}
use Rattle.rules.specs.Medium.{Medium}
use Rattle.rules.specs.Lookup.{found, found_back, lookup, way_back}
use Rattle.rules.specs.Spread.{highest_of, spread_verdict, spread}
use Rattle.rules.specs.Hosts.{packed, host_number}
use Rattle.rules.specs.Listed.{Listed}
use Rattle.rules.proofs.Traces.{found_view, back_view}
use Rattle.rules.proofs.ListedSizes.{listed_within}
use Rattle.rules.proofs.Hosts.{Sized, refusal_parts, trace_parts}
use Rattle.std.specs.Prelude.{Option, None, Some, Ok, Err, IfSome}
use Rattle.lines.specs.Paper.{Verdict}
use Rattle.lines.specs.declared.Refusal.{Refusal}
use Rattle.form.specs.Paper.{answered}
use Rattle.sets.specs.Paper.{Answer as SetAnswer, paper as set_paper}
use Rattle.codes.specs.Named.{line_or}
use Rattle.tables.specs.Paper.{Answer as LineAnswer, paper as line_paper, line_at}
use Rattle.tables.proofs.One.{Counted}
use Rattle.traces.specs.Paper.{Answer as Lookup, ChannelAnswer, Spread, paper as trace_paper, paper_channel, paper_spread, leading, denied}
use Rattle.sps.specs.Said.{RefusedAs, TellsForm, TellsSet, Tells, TellsChannel, TellsSpread, TellsLine}

pub refused_as : (i f l c : ℕ) → Listed (№ i f l c) → (n : ℕ) → n ≡ packed (№ i f l c) → RefusedAs n i f l c
unfolding packed
refused_as i f l c w n e =
    let o = (listed_within i f l c w).0.0 in
    (omega arith, rw e (refusal_parts i f l c w))

pub tells_form : (v : Verdict) → Sized (answered v) → (n : ℕ) → n ≡ host_number (answered v) → TellsForm n v
unfolding host_number
tells_form (Ok _) z n e = e
tells_form (Err w) z n e = refused_as w.number w.file w.line w.column z n e

pub tells_set : (v : SetAnswer) → Sized (set_paper v) → (n : ℕ) → n ≡ host_number (set_paper v) → TellsSet n v
unfolding host_number
tells_set (Ok c) z n e = (rw e z, e)
tells_set (Err w) z n e = refused_as w.number w.file w.line w.column z n e

-- the mark of a killed receiver
pub mark_few : (d : Bool) (n : ℕ) → n ≡ pick d (2 ^ 32) 0 → n ≤ 4294967296
unfolding pick
mark_few true n e = omega arith
mark_few false n e = omega arith

trace_below : (l m : ℕ) (d : Bool) → l ≤ 9999 → m ≤ 9 → host_number (trace l m d) < 2 ^ 40
unfolding host_number pick
trace_below l m true g h = omega arith
trace_below l m false g h = omega arith

pub tells : (v : Lookup) → Sized (trace_paper v) → (n : ℕ) → n ≡ host_number (trace_paper v) → Tells n v
unfolding host_number
tells (Ok (Some t)) z n e =
    let w = trace_parts t.line t.component t.killed z.0 z.1.1 in
    (rw e (trace_below t.line t.component t.killed z.0 z.1.1), (rw e w.0, (rw e w.1.0, (rw e w.1.1, z.1.0))))
tells (Ok None) z n e = e
tells (Err w) z n e = refused_as w.number w.file w.line w.column z n e

pub tells_channel : (v : ChannelAnswer) → Sized (paper_channel v) → (n : ℕ) → n ≡ host_number (paper_channel v) → TellsChannel n v
unfolding host_number
tells_channel (Ok (Some c)) z n e = let p = z.1 in (omega arith, (e, z.0))
tells_channel (Ok None) z n e = e
tells_channel (Err w) z n e = refused_as w.number w.file w.line w.column z n e

pub tells_spread : (v : Spread) → Sized (paper_spread v) → (n : ℕ) → n ≡ host_number (paper_spread v) → TellsSpread n v
unfolding host_number
tells_spread (Ok h) z n e = (omega arith, e)
tells_spread (Err w) z n e = refused_as w.number w.file w.line w.column z n e

pub tells_line : (v : LineAnswer) → Sized (line_paper v) → (n : ℕ) → n ≡ host_number (line_paper v) → TellsLine n v
unfolding host_number
tells_line (Ok None) z n e = (omega arith, e)
tells_line (Ok (Some l)) z n e = (omega arith, e)
tells_line (Err w) z n e = refused_as w.number w.file w.line w.column z n e

-- what the definitions answer is an answer of the code
pub form_answer : (b : ℕ) (f : Sheet) → (v : Verdict) × (answered v ≡ file_form b f)
unfolding file_form answer
form_answer b f = go (run (one_file b f))
  where
    go : (u : PaperVerdict) → (v : Verdict) × (answered v ≡ answer u formed)
    go fine = (Ok tt, refl)
    go (refused (№ i f l c)) = (Err (denied i f l c), refl)

pub set_answer : (r s x : Sheet) → (v : SetAnswer) × (set_paper v ≡ cross r s x)
unfolding cross answer
set_answer r s x = go (verdict r s x)
  where
    go : (u : PaperVerdict) → (v : SetAnswer) × (set_paper v ≡ answer u (accepted (points r) (points s) (relations x) (all_traces x) (dead_traces r x)))
    go fine =
        (Ok (record { receivers = points r; shots = points s; relations = relations x; traces = all_traces x; dead_traces = dead_traces r x }), refl)
    go (refused (№ i f l c)) = (Err (denied i f l c), refl)

after : (u : PaperVerdict) (a : Answer) → (v : Lookup) × (trace_paper v ≡ a) → (v : Lookup) × (trace_paper v ≡ answer u a)
unfolding answer
after fine a w = w
after (refused (№ i f l c)) a w = (Err (denied i f l c), refl)

after_channel : (u : PaperVerdict) (a : Answer) → (v : ChannelAnswer) × (paper_channel v ≡ a) → (v : ChannelAnswer) × (paper_channel v ≡ answer u a)
unfolding answer
after_channel fine a w = w
after_channel (refused (№ i f l c)) a w = (Err (denied i f l c), refl)

pub lookup_answer : (r s x : Sheet) (t : List ℕ) (n c : ℕ) → (v : Lookup) × (trace_paper v ≡ lookup r s x t n c)
unfolding lookup
lookup_answer r s x t n c =
    after (run _) (found r x t n c) (⊎_elim (λ w. (leading _ _ _, sym w.2)) (λ w. (Ok None, sym w.1)) (found_view r x t n c))

pub back_answer : (r s x : Sheet) (t : List ℕ) (n j m : ℕ) → (v : ChannelAnswer) × (paper_channel v ≡ way_back r s x t n j m)
unfolding way_back
back_answer r s x t n j m =
    after_channel (run _) (found_back r x t n j m) (⊎_elim (λ w. (Ok (Some _), sym w.1.2)) (λ w. (Ok None, sym w.1)) (back_view r x t n j m))

pub spread_answer : (r s x : Sheet) (t : List ℕ) (n a b : ℕ) → (v : Spread) × (paper_spread v ≡ spread r s x t n a b)
unfolding spread answer
spread_answer r s x t n a b = go (spread_verdict r s x t n a b)
  where
    go : (u : PaperVerdict) → (v : Spread) × (paper_spread v ≡ answer u (highest (highest_of x t n)))
    go fine = (Ok (highest_of x t n), refl)
    go (refused (№ i f l c)) = (Err (denied i f l c), refl)

header_line_at : (l : ℕ) → header_line (line_or (line_at l)) ≡ header_line l
header_line_at zero = refl
header_line_at (suc l) = refl

counted_at : (l : ℕ) → IfSome (line_at l) (λ l. 1 ≤ l)
counted_at zero = tt
counted_at (suc l) = omega arith

pub line_answer : (r s x : Sheet) (b : ℕ) (c : List ℕ) → (v : LineAnswer) × ((line_paper v ≡ table_line r s x b c) × Counted v)
unfolding table_line answer
line_answer r s x b c = go (run (rule20 (code_asked (kind_of b) c) before rules r s x))
  where
    go : (u : PaperVerdict) → (v : LineAnswer) × ((line_paper v ≡ answer u (header_line (line_naming r (kind_of b) (written (kind_of b) c)))) × Counted v)
    go fine = let l = line_naming r (kind_of b) (written (kind_of b) c) in (Ok (line_at l), (header_line_at l, counted_at l))
    go (refused (№ i f l d)) = (Err (denied i f l d), (refl, tt))
