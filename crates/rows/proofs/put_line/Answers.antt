-- What `rows::put_line` leaves to show.
use Prim.Native.Nat.{suc, ◌+◌, ◌<◌}
use native.Mathlib.Omega.{arith}
use mathlib.Core.Path.{◌≡◌, refl, sym, ap₂, ◌∙◌}
use Rattle.rules.specs.Sheet.{Sheet, most_lines}
use Rattle.rules.specs.Relations.{reach_at}
use Rattle.rules.specs.TraceRows.{traces_above}
use Rattle.lines.specs.Reading.{sheet_of}
use Rattle.keys.specs.Held.{RelationLine}
use Rattle.records.specs.Coded.{coded_reach}
use Rattle.spread.proofs.Asked.{known_receivers, reads}
use Rattle.rows.proofs.Traced.{all_few}
use Rattle.rows.proofs.Lined.{is_relation, next_same, next_is, stays, none_fits, ended_there, fitting, some_fit}
use Rattle.rows.proofs.put_line.Goals as goal

pub returns-then-not-takes : goal.returns-then-not-takes
returns-then-not-takes c = let z = next_same _ _ c.requires.1.0 _ (rw c.records.ensures.value at c.takes.ensures.value) c.if-not-takes.true in
    record {
      above = c.requires.1.1 ∙ sym z;
      written = λ d e. stays _ _ _ _ d _ e z;
    }

pub overflow_add-next : goal.overflow_add-next
overflow_add-next c = let inX : Sheet = let a = c.args in sheet_of a.w.how a.x.now in
    let line : RelationLine inX c.args.l.k = is_relation _ _ c.requires.1.0 _ (rw c.records.ensures.value at c.takes.ensures.value) c.if-not-takes.false in
    let coded : c.reach_of-q.result ≡ coded_reach (reach_at inX c.args.l.k) = let a = c.args in
    reads a.w.how a.x.now a.l.k _ _ c.line_of.ensures.value c.reach_of-q.ensures.value in
    let following : c.args.l.above + c.traces.result ≡ traces_above inX (suc c.args.l.k) = let a = c.args in
    ap₂ ◌+◌ c.requires.1.1 (c.traces.ensures.value (reach_at inX a.l.k) coded) ∙ sym (next_is inX a.l.k line) in
    let few : c.args.l.above + c.traces.result < 1000000000000 = let z = following in
    let n = all_few inX c.requires.0.set.relations (suc c.args.l.k) c.requires.1.0 in
    omega arith in
    omega (arith, few)

pub overflow_add-channel-then-place-end : goal.overflow_add-channel-then-place-end
overflow_add-channel-then-place-end c = let inX : Sheet = let a = c.args in sheet_of a.w.how a.x.now in
    let line : RelationLine inX c.args.l.k = is_relation _ _ c.requires.1.0 _ (rw c.records.ensures.value at c.takes.ensures.value) c.if-not-takes.false in
    let coded : c.reach_of-q.result ≡ coded_reach (reach_at inX c.args.l.k) = let a = c.args in
    reads a.w.how a.x.now a.l.k _ _ c.line_of.ensures.value c.reach_of-q.ensures.value in
    let following : c.args.l.above + c.traces.result ≡ traces_above inX (suc c.args.l.k) = let a = c.args in
    ap₂ ◌+◌ c.requires.1.1 (c.traces.ensures.value (reach_at inX a.l.k) coded) ∙ sym (next_is inX a.l.k line) in
    let few : c.args.l.above + c.traces.result < 1000000000000 = let z = following in
    let n = all_few inX c.requires.0.set.relations (suc c.args.l.k) c.requires.1.0 in
    omega arith in
    let n = ended_there _ _ _ _ _ _ c.places_to-place.ensures.value c.places_to-end.ensures.value c.if-place-end.true in
    omega (arith, few)

pub overflow_cast-p : goal.overflow_cast-p
unfolding most_lines
overflow_cast-p c = let h = c.requires.1.0 in
    omega (arith, c.requires.0.set.relations.few)

pub overflow_add-p : goal.overflow_add-p
unfolding most_lines
overflow_add-p c = let h = c.requires.1.0 in
    omega (arith, c.requires.0.set.relations.few)

pub first_row-requires : goal.first_row-requires
first_row-requires c = let inX : Sheet = let a = c.args in sheet_of a.w.how a.x.now in
    let line : RelationLine inX c.args.l.k = is_relation _ _ c.requires.1.0 _ (rw c.records.ensures.value at c.takes.ensures.value) c.if-not-takes.false in
    let p = c.requires.0 in
    ((known_receivers _ _ p.set, p.rows), (p.set.relations, line))

pub put-requires : goal.put-requires
put-requires c = let inX : Sheet = let a = c.args in sheet_of a.w.how a.x.now in
    let line : RelationLine inX c.args.l.k = is_relation _ _ c.requires.1.0 _ (rw c.records.ensures.value at c.takes.ensures.value) c.if-not-takes.false in
    let coded : c.reach_of-q.result ≡ coded_reach (reach_at inX c.args.l.k) = let a = c.args in
    reads a.w.how a.x.now a.l.k _ _ c.line_of.ensures.value c.reach_of-q.ensures.value in
    let following : c.args.l.above + c.traces.result ≡ traces_above inX (suc c.args.l.k) = let a = c.args in
    ap₂ ◌+◌ c.requires.1.1 (c.traces.ensures.value (reach_at inX a.l.k) coded) ∙ sym (next_is inX a.l.k line) in
    fitting _ _ _ _ c.requires.0 _ line _ coded _ c.first_row.ensures.value _ _ _ _ _ _ _ c.requires.1.1 following
    c.places_to-place.ensures.value c.places_to-end.ensures.value c.if-place-end.true refl _ _ refl

pub returns-then-place-end : goal.returns-then-place-end
returns-then-place-end c = let inX : Sheet = let a = c.args in sheet_of a.w.how a.x.now in
    let line : RelationLine inX c.args.l.k = is_relation _ _ c.requires.1.0 _ (rw c.records.ensures.value at c.takes.ensures.value) c.if-not-takes.false in
    let coded : c.reach_of-q.result ≡ coded_reach (reach_at inX c.args.l.k) = let a = c.args in
    reads a.w.how a.x.now a.l.k _ _ c.line_of.ensures.value c.reach_of-q.ensures.value in
    let following : c.args.l.above + c.traces.result ≡ traces_above inX (suc c.args.l.k) = let a = c.args in
    ap₂ ◌+◌ c.requires.1.1 (c.traces.ensures.value (reach_at inX a.l.k) coded) ∙ sym (next_is inX a.l.k line) in
    let X = inX in
    record {
      above = following;
      written = λ o e.
          some_fit _ _ _ X c.requires.0 _ line _ coded _ c.first_row.ensures.value _ _ _ _ _ _ _ c.requires.1.1 following
          c.places_to-place.ensures.value c.places_to-end.ensures.value c.if-place-end.true refl o _ _ refl e
          (c.put.ensures.written (reach_at X c.args.l.k) coded);
    }

pub returns-else-place-end : goal.returns-else-place-end
returns-else-place-end c = let inX : Sheet = let a = c.args in sheet_of a.w.how a.x.now in
    let line : RelationLine inX c.args.l.k = is_relation _ _ c.requires.1.0 _ (rw c.records.ensures.value at c.takes.ensures.value) c.if-not-takes.false in
    let coded : c.reach_of-q.result ≡ coded_reach (reach_at inX c.args.l.k) = let a = c.args in
    reads a.w.how a.x.now a.l.k _ _ c.line_of.ensures.value c.reach_of-q.ensures.value in
    let following : c.args.l.above + c.traces.result ≡ traces_above inX (suc c.args.l.k) = let a = c.args in
    ap₂ ◌+◌ c.requires.1.1 (c.traces.ensures.value (reach_at inX a.l.k) coded) ∙ sym (next_is inX a.l.k line) in
    record {
      above = following;
      written = λ o e.
          none_fits _ _ _ _ o _ e _ _ _ _ _ c.requires.1.1 following refl c.places_to-place.ensures.value c.places_to-end.ensures.value
          (omega arith) c.if-place-end.false;
    }
