-- What `traces::channel` leaves to show.
use Rattle.std.proofs.Common.{◌∙◌, sym, ap}
use Rattle.std.proofs.lemmas.Result.{err_from_is_err_and}
use Rattle.rules.specs.Check.{refusal}
use Rattle.rules.specs.Lookup.{way_back}
use Rattle.sets.proofs.Verdicts.{set_accepted, set_refused}
use Rattle.traces.proofs.Ranges.{line_asked_lem}
use Rattle.traces.proofs.Sets.{in_range, in_set, not_asked, out_of_range, own_refusal}
use Rattle.traces.proofs.channel.Goals.{then-not-record-via-then-not-record, then-not-record-via-else-not-record+then-not-receiver}
use Rattle.traces.proofs.channel.Goals as goal

pub returns-then-not-record : goal.returns-then-not-record
unfolding way_back
returns-then-not-record c = record {
  answer = let a = c.args in
      ap refusal c.unplaced.ensures.value
      ∙ elim c.then-not-record.branch [
        | then-not-record-via-then-not-record w ↦
            not_asked a.q.how a.r.now a.s.now a.x.now a.tape.now a.q.«record» _ _ _ c.«record».ensures.value w.if-not-record.true
        | then-not-record-via-else-not-record+then-not-receiver w ↦
            out_of_range a.q.how a.r.now a.s.now a.x.now a.tape.now a.q.«record» _ _ _ c.«record».ensures.value w.if-not-record.false _
            w.receiver.ensures.value w.if-not-receiver.true
      ];
}

pub returns-in_err-cross : goal.returns-in_err-cross
unfolding way_back
returns-in_err-cross c = record {
  answer = let a = c.args in
      let p = err_from_is_err_and c.from_residual.result c.from_residual.ensures.1 in
      rw (p.1, p.2)
      (own_refusal a.q.how a.r.now a.s.now a.x.now a.tape.now a.q.«record» _ _ _ c.«record».ensures.value c.if-not-record.false _
      c.receiver.ensures.value c.if-not-receiver.false _
      (set_refused a.q.how a.r.now a.s.now a.x.now _ c.in_err-cross.ensures.answer));
}

pub found_back-requires : goal.found_back-requires
found_back-requires c = let a = c.args in (
  in_set a.q.how a.r.now a.s.now a.x.now (set_accepted a.q.how a.r.now a.s.now a.x.now _ _ _ _ _ c.in_ok-cross.ensures.answer),
  (
    sym c.«record».ensures.value ∙ c.if-not-record.false,
    line_asked_lem _ _ _ c.receiver.ensures.value c.if-not-receiver.false,
  ),
)

pub returns : goal.returns
unfolding way_back
returns c = record {
  answer = let a = c.args in
      c.found_back.ensures.answer
      ∙ in_range a.q.how a.r.now a.s.now a.x.now a.tape.now a.q.«record» _ _ _ c.«record».ensures.value c.if-not-record.false _
      c.receiver.ensures.value c.if-not-receiver.false
      (set_accepted a.q.how a.r.now a.s.now a.x.now _ _ _ _ _ c.in_ok-cross.ensures.answer);
}
