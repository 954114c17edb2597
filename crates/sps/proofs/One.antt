-- The contracts of this crate leave one outcome: any two results, and contents of the lent slices, that meet one of them are the same.
use Prim.Native.Nat.{ℕ}
use native.Mathlib.Omega.{arith}
use mathlib.Core.Path.{◌≡◌, refl, sym, ap, ◌∙◌}
use mathlib.Core.List.{List}
use Rattle.rules.specs.Plan.{Verdict}
use Rattle.rules.specs.Medium.{Medium}
use Rattle.rules.specs.Calls.{Choice, on, none, choice}
use Rattle.rules.specs.Hosts.{host_number}
use Rattle.traces.specs.Calls.{Table}
use Rattle.sps.specs.Table.{SpreadTold}
use Rattle.sps.specs.Values.{Told, PointTold, RelationTold}
use Rattle.outcome.specs.One.{One, both}
use Rattle.std.specs.Prelude.{Result, Ok, Err}
use Rattle.rules.specs.Disc.{disc}
use Rattle.rules.specs.Tape.{tape}
use Rattle.lines.specs.Reading.{medium_on}
use Rattle.lines.specs.declared.Medium.{Medium as ReadMedium}
use Rattle.lines.specs.declared.Medium.TheVariants.{Disc, Tape}
use Rattle.lines.specs.declared.Reading.{Reading}
use Rattle.lines.specs.declared.Refusal.{Refusal}
use Rattle.lines.proofs.One.{told_one as refusal_one}
use Rattle.sets.proofs.One.{answer_one as set_one}
use denote.RattleType.{RattleType}
use denote.Param.Laws.{Laws}
use contract.Lifetimes.{Lfts}
use denote.Triple.Clauses.{at_exit, Lasts}
use denote.Triple.Entry.{Args, Res}
use mir.Syntax.{Dict}
use Rattle.sps.specs.declared.HostAnswer.{Ghosts}
use Rattle.sps.specs.Number.{ReadBy}
use Rattle.sps.specs.contracts.pack as pack
use Rattle.sps.proofs.pack.Reads as pack_reads
use Rattle.sps.specs.contracts.number as number
use Rattle.sps.proofs.number.Reads as number_reads
use Rattle.sps.specs.contracts.reading as reading
use Rattle.sps.proofs.reading.Reads as reading_reads
use Rattle.sps.specs.contracts.put_counts as put_counts
use Rattle.sps.proofs.put_counts.Reads as put_counts_reads
use Rattle.sps.specs.contracts.mark as mark
use Rattle.sps.proofs.mark.Reads as mark_reads
use Rattle.sps.specs.contracts.places.put as places_put
use Rattle.sps.proofs.places.put.Reads as places_put_reads
use Rattle.sps.specs.contracts.places.put_all as places_put_all
use Rattle.sps.proofs.places.put_all.Reads as places_put_all_reads
use Rattle.sps.specs.contracts.crossed as crossed
use Rattle.sps.proofs.crossed.Reads as crossed_reads
use Rattle.sps.specs.contracts.sps_form as sps_form
use Rattle.sps.proofs.sps_form.Reads as sps_form_reads
use Rattle.sps.specs.contracts.sps_cross as sps_cross
use Rattle.sps.proofs.sps_cross.Reads as sps_cross_reads
use Rattle.sps.specs.contracts.sps_counts as sps_counts
use Rattle.sps.proofs.sps_counts.Reads as sps_counts_reads
use Rattle.sps.specs.contracts.sps_trace as sps_trace
use Rattle.sps.proofs.sps_trace.Reads as sps_trace_reads
use Rattle.sps.specs.contracts.sps_channel as sps_channel
use Rattle.sps.proofs.sps_channel.Reads as sps_channel_reads
use Rattle.sps.specs.contracts.sps_table_line as sps_table_line
use Rattle.sps.proofs.sps_table_line.Reads as sps_table_line_reads
use Rattle.sps.specs.contracts.line.sps_read_point as sps_read_point
use Rattle.sps.proofs.line.sps_read_point.Reads as sps_read_point_reads
use Rattle.sps.specs.contracts.line.sps_read_relation as sps_read_relation
use Rattle.sps.proofs.line.sps_read_relation.Reads as sps_read_relation_reads
use Rattle.sps.specs.contracts.line.sps_write_point as sps_write_point
use Rattle.sps.proofs.line.sps_write_point.Reads as sps_write_point_reads
use Rattle.sps.specs.contracts.line.sps_write_relation as sps_write_relation
use Rattle.sps.proofs.line.sps_write_relation.Reads as sps_write_relation_reads
use Rattle.sps.specs.contracts.sps_traces as sps_traces
use Rattle.sps.proofs.sps_traces.Reads as sps_traces_reads
use Rattle.sps.specs.contracts.sps_spread as sps_spread
use Rattle.sps.proofs.sps_spread.Reads as sps_spread_reads

pub pack_one : One pack.ended pack_reads.Post
pack_one κs a v v' w w' p p' = (p ∙ sym p', refl)

-- of every kind of answer; what stands behind a `&mut` in one is that kind's
pub number_one : (T : RattleType) (l : Laws T) (says : Ghosts T.Denot) (d : Dict) (κs : Lfts (number.ended T says d).signature.lifetimes)
    (a : Args (number.ended T says d).signature κs) (v v' : Res (number.ended T says d).signature κs) (w w' : Lasts (number.ended T says d) κs a)
    → number_reads.Post T l says d κs a v (at_exit (number.ended T says d) κs a w)
    → number_reads.Post T l says d κs a v' (at_exit (number.ended T says d) κs a w') → v ≡ v'
number_one T l says d κs a v v' w w' p p' = p ∙ sym p'

-- the media differ in the bytes of a line
width : Choice → ℕ
width (on M) = M.stride
width none = 0

medium_one : (m n : ReadMedium) → on (medium_on m) ≡ on (medium_on n) → ◌≡◌ {A = Reading} (record { medium = m }) (record { medium = n })
unfolding disc tape width
medium_one Disc Disc e = refl
medium_one Disc Tape e = absurd (let z = ap width e in omega arith)
medium_one Tape Disc e = absurd (let z = ap width e in omega arith)
medium_one Tape Tape e = refl

read_one : (d : Choice) (r r' : Result Reading Refusal) → ReadBy d r → ReadBy d r' → r ≡ r'
unfolding disc tape width
read_one d (Ok how) (Ok other) p q = ap Ok (medium_one how.medium other.medium (sym p ∙ q))
read_one d (Ok how) (Err e) p q = absurd (let z = sym p ∙ q.0 in cc)
read_one d (Err e) (Ok how) p q = absurd (let z = sym p.0 ∙ q in cc)
read_one d (Err e) (Err f) p q = ap Err (refusal_one e f (p.1 ∙ sym q.1))

pub reading_one : One reading.ended reading_reads.Post
reading_one κs a v v' w w' p p' = (read_one (choice a.0) v v' p p', refl)

pub put_counts_one : One put_counts.ended put_counts_reads.Post
put_counts_one κs a v v' w w' p p' = (refl, both refl (both (p ∙ sym p') refl))

pub mark_one : One mark.ended mark_reads.Post
mark_one κs a v v' w w' p p' = (p ∙ sym p', refl)

pub places_put_one : One places_put.ended places_put_reads.Post
places_put_one κs a v v' w w' p p' = (refl, both refl (both refl (both (p ∙ sym p') refl)))

pub places_put_all_one : One places_put_all.ended places_put_all_reads.Post
places_put_all_one κs a v v' w w' p p' = (refl, both refl (both (p ∙ sym p') refl))

pub crossed_one : One crossed.ended crossed_reads.Post
crossed_one κs a v v' w w' p p' = (set_one v v' (p ∙ sym p'), refl)

pub sps_form_one : One sps_form.ended sps_form_reads.Post
sps_form_one κs a v v' w w' p p' = (p ∙ sym p', refl)

pub sps_cross_one : One sps_cross.ended sps_cross_reads.Post
sps_cross_one κs a v v' w w' p p' = (p ∙ sym p', refl)

pub sps_counts_one : One sps_counts.ended sps_counts_reads.Post
sps_counts_one κs a v v' w w' p p' = (p.0 ∙ sym p'.0, both refl (both refl (both refl (both refl (both (p.1 ∙ sym p'.1) refl)))))

pub sps_trace_one : One sps_trace.ended sps_trace_reads.Post
sps_trace_one κs a v v' w w' p p' = (p ∙ sym p', refl)

pub sps_channel_one : One sps_channel.ended sps_channel_reads.Post
sps_channel_one κs a v v' w w' p p' = (p ∙ sym p', refl)

pub sps_table_line_one : One sps_table_line.ended sps_table_line_reads.Post
sps_table_line_one κs a v v' w w' p p' = (p ∙ sym p', refl)

-- the spread table, by the medium that is chosen
told_one : (d : Choice) (T : Medium → Table) (o q : List ℕ) (a a' : ℕ) (l l' m m' : List ℕ) → SpreadTold d T o q a l m → SpreadTold d T o q a' l' m'
    → (a ≡ a') × ((l ≡ l') × (m ≡ m'))
told_one (on M) T o q a a' l l' m m' (v, (e, p)) (v', (e', p')) =
    (e ∙ ap host_number (p.answer ∙ sym p'.answer) ∙ sym e', (p.lines ∙ sym p'.lines, p.components ∙ sym p'.components))
told_one none T o q a a' l l' m m' (e, (y, z)) (e', (y', z')) = (e ∙ sym e', (y ∙ sym y', z ∙ sym z'))

pub sps_spread_one : One sps_spread.ended sps_spread_reads.Post
sps_spread_one κs a v v' w w' p p' =
    let t = told_one (choice a.0) _ _ _ v v' _ _ _ _ p p' in (
      t.0,
      both refl (both refl (both refl (both refl (both refl (both refl (both t.1.0 (both t.1.1 refl))))))),
    )

-- the values of a line, by the medium that is chosen
line_one : (v : Verdict) (n : ℕ) (ps o : List ℕ) (a a' : ℕ) (e e' : List ℕ) → Told v n ps o a e → Told v n ps o a' e' → (a ≡ a') × (e ≡ e')
line_one v n ps o a a' e e' t t' = (t.answer ∙ sym t'.answer, t.values ∙ sym t'.values)

point_told_one : (d : Choice) (b : ℕ) (f : List ℕ) (l : ℕ) (o : List ℕ) (a a' : ℕ) (e e' : List ℕ) → PointTold d b f l o a e → PointTold d b f l o a' e'
    → (a ≡ a') × (e ≡ e')
point_told_one (on M) b f l o a a' e e' t t' = line_one _ _ _ _ a a' e e' t t'
point_told_one none b f l o a a' e e' t t' = line_one _ _ _ _ a a' e e' t t'

relation_told_one : (d : Choice) (f : List ℕ) (l : ℕ) (o : List ℕ) (a a' : ℕ) (e e' : List ℕ) → RelationTold d f l o a e → RelationTold d f l o a' e'
    → (a ≡ a') × (e ≡ e')
relation_told_one (on M) f l o a a' e e' t t' = line_one _ _ _ _ a a' e e' t t'
relation_told_one none f l o a a' e e' t t' = line_one _ _ _ _ a a' e e' t t'

pub sps_read_point_one : One sps_read_point.ended sps_read_point_reads.Post
sps_read_point_one κs a v v' w w' p p' =
    let t = point_told_one (choice a.0) _ _ _ _ v v' _ _ p p' in
    (t.0, both refl (both refl (both refl (both refl (both t.1 refl)))))

pub sps_read_relation_one : One sps_read_relation.ended sps_read_relation_reads.Post
sps_read_relation_one κs a v v' w w' p p' =
    let t = relation_told_one (choice a.0) _ _ _ v v' _ _ p p' in
    (t.0, both refl (both refl (both refl (both t.1 refl))))

pub sps_write_point_one : One sps_write_point.ended sps_write_point_reads.Post
sps_write_point_one κs a v v' w w' p p' = (p.0 ∙ sym p'.0, both refl (both refl (both (p.1 ∙ sym p'.1) refl)))

pub sps_write_relation_one : One sps_write_relation.ended sps_write_relation_reads.Post
sps_write_relation_one κs a v v' w w' p p' = (p.0 ∙ sym p'.0, both refl (both (p.1 ∙ sym p'.1) refl))

pub sps_traces_one : One sps_traces.ended sps_traces_reads.Post
sps_traces_one κs a v v' w w' p p' =
    (p.0 ∙ sym p'.0, both refl (both refl (both refl (both refl (both refl (both (p.1 ∙ sym p'.1) refl))))))
