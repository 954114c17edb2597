-- What `spread::fill` leaves to show.
use Rattle.std.proofs.Common.{ℕ, ◌≡◌, refl, ap, ◌∙◌, arith, length, ◌++◌, drop}
use Rattle.lines.specs.Reading.{sheet_of}
use Rattle.rules.specs.Cover.{carries, component}
use Rattle.rules.specs.Relations.{reach_at}
use Rattle.rules.specs.Spread.{line_of, component_of, place}
use Rattle.spread.specs.Puts.{numbers}
use Rattle.spread.specs.Taken.{here_up_to, line_at, line_in, component_at, taken}
use Rattle.rules.proofs.Turns.{turns_length}
use Rattle.spread.proofs.Asked.{known_receivers}
use Rattle.spread.proofs.Rows.{all_room}
use Rattle.spread.proofs.Cleared.{cleared, turns_room}
use Rattle.spread.proofs.Taken.{taken_size}
use Rattle.spread.proofs.Whole.{component_at_lem, line_off, line_on, no_line_lem, relation_on, room_on, whole}
use Rattle.spread.proofs.fill.Goals.{then-is_of, else-is_of}
use Rattle.spread.proofs.fill.Goals as goal

pub in_order-m-requires : goal.in_order-m-requires
in_order-m-requires g c = (known_receivers _ _ c.requires.0.0, all_room)

pub loop-k-init : goal.loop-k-init
loop-k-init g c = record {
  lines = no_line_lem g.P.Places.puts _ _ _ _ _ _;
  components = no_line_lem place _ _ _ _ _ _;
}

pub put-requires : goal.put-requires
put-requires g c = let a = c.args in
    let X = sheet_of a.how a.x.now in
    let p = c.requires in
    let at = c.loop-k in
    let n = c.line_count-k-end.ensures.value in
    let y = c.loop-k-test.true in
    let room = g.P.Places.room in
    let size = g.met.P.Places.laws.size in
    let l = ap room at.invariant.lines ∙ taken_size g.P.Places.puts room size _ _ _ _ ∙ ap room c.clear.ensures.written
    ∙ turns_room g.P.Places.puts room size _ _ _ in
    let m = at.auto.components in
    let u = room_on X a.tape.now a.«record» p.0.0.relations p.0.1 _ c.coded-w.ensures.value at.k (omega arith) _ c.is_of.ensures.value
    c.if-is_of.true in (
      (p.0.0, c.in_order-m.ensures.order.1),
      (
        (
          omega arith,
          relation_on X a.tape.now a.«record» p.0.0.relations p.0.1 _ c.coded-w.ensures.value at.k (omega arith) _ c.is_of.ensures.value
              c.if-is_of.true,
        ),
        (let h = p.1.0 in u _ (omega arith), let h = p.1.1 in u _ (omega arith)),
      ),
    )

pub loop-k-preserved : goal.loop-k-preserved
unfolding line_of component_of
loop-k-preserved g c = let a = c.args in
    let R = sheet_of a.how a.r.now in
    let X = sheet_of a.how a.x.now in
    let p = c.requires in
    let at = c.loop-k in
    let n = c.line_count-k-end.ensures.value in
    let y = c.loop-k-test.true in
    let put = g.P.Places.puts in
    let law = g.met.P.Places.laws in
    let held = g.P.Places.held in
    let l = ap g.P.Places.room at.invariant.lines ∙ taken_size put g.P.Places.room law.size _ _ _ _ in
    let m = at.auto.components in
    elim c.if-is_of.branch [
      | then-is_of w ↦ record {
        lines = ap held w.lines-is
            ∙ line_on X a.tape.now a.«record» p.0.0.relations p.0.1 _ c.coded-w.ensures.value at.k (omega arith) _ c.is_of.ensures.value
            w.if-is_of.true R p.0.0 put law.places line_of (line_in R X at.k) (line_at R X a.tape.now a.«record») (λ i. refl) (λ i. refl)
            _ _ _ _ at.invariant.lines
            (w.put.ensures.lines ∙ ap (λ (i : ℕ). taken put (carries (reach_at X at.k)) (line_in R X at.k) i (held at.lines)) l);
        components = w.components-is
            ∙ line_on X a.tape.now a.«record» p.0.0.relations p.0.1 _ c.coded-w.ensures.value at.k (omega arith) _ c.is_of.ensures.value
            w.if-is_of.true R p.0.0 place numbers.places component_of (component (reach_at X at.k)) (component_at X a.tape.now a.«record»)
            (λ i. refl) (component_at_lem R X a.tape.now a.«record») _ _ _ _ at.invariant.components
            (w.put.ensures.components
            ∙ ap (λ (i : ℕ). taken place (carries (reach_at X at.k)) (component (reach_at X at.k)) i at.components) m);
      }
      | else-is_of w ↦ record {
        lines = ap held w.lines-is
            ∙ line_off X a.tape.now a.«record» p.0.0.relations p.0.1 _ c.coded-w.ensures.value at.k (omega arith) _ c.is_of.ensures.value
            put law.places _ _ _ _ at.invariant.lines w.if-is_of.false;
        components = w.components-is
            ∙ line_off X a.tape.now a.«record» p.0.0.relations p.0.1 _ c.coded-w.ensures.value at.k (omega arith) _ c.is_of.ensures.value
            place numbers.places _ _ _ _ at.invariant.components w.if-is_of.false;
      }
    ]

pub returns : goal.returns
unfolding line_of component_of
returns g c = let a = c.args in
    let R = sheet_of a.how a.r.now in
    let X = sheet_of a.how a.x.now in
    let p = c.requires in
    let at = c.loop-k in
    let n = c.line_count-k-end.ensures.value in
    let put = g.P.Places.puts in
    let law = g.met.P.Places.laws in
    let h = c.highest-h.ensures.value in
    let z : at.k ≡ X.count = omega arith in
    let l = ap g.P.Places.room c.clear.ensures.written ∙ turns_room put g.P.Places.room law.size _ _ _ in
    record {
      lines = let f = p.1.0 in
          whole R X a.tape.now a.«record» line_of refl (line_at R X a.tape.now a.«record») (λ i. refl) put law.places _ _ h (omega arith) _ _ _
          c.clear.ensures.written
          (at.invariant.lines ∙ ap (λ (i : ℕ). taken put (here_up_to X a.tape.now a.«record» i) (line_at R X a.tape.now a.«record»)
          (g.P.Places.room (g.P.Places.held c.clear.new.places)) (g.P.Places.held c.clear.new.places)) z);
      components = let f = p.1.1 in
          let t = cleared c.highest-h.result a.components.now _ (omega arith) (c.fill.ensures.after (λ y e. e)) in
          let put = c.fill.new.self ++ drop c.highest-h.result a.components.now in
          let m = ap length t ∙ turns_length (λ _. 0) c.highest-h.result a.components.now in
          whole R X a.tape.now a.«record» component_of refl (component_at X a.tape.now a.«record»)
          (component_at_lem R X a.tape.now a.«record») place numbers.places _ (length put) h (omega arith) _ _ _ t
          (at.invariant.components
          ∙ ap (λ (i : ℕ). taken place (here_up_to X a.tape.now a.«record» i) (component_at X a.tape.now a.«record») (length put) put) z);
    }
