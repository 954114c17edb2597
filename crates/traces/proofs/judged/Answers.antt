-- What `traces::judged` leaves to show.
use Rattle.std.proofs.Common.{◌∙◌, sym, ap, arith}
use Rattle.std.proofs.lemmas.Result.{err_from_is_err_and}
use Rattle.rules.specs.Check.{refusal}
use Rattle.sets.proofs.Verdicts.{set_accepted, set_refused}
use Rattle.traces.proofs.Sets.{in_set}
use Rattle.traces.proofs.Tables.{short, not_asked as record_out, says_highest, set_refuses, too_short}
use Rattle.traces.proofs.judged.Goals as goal

pub returns-then-not-record : goal.returns-then-not-record
returns-then-not-record c = record {
  answer = let a = c.args in
      ap refusal c.unplaced.ensures.value
      ∙ record_out a.q.how a.r.now a.s.now a.x.now a.tape.now a.q.«record» a.m a.n (sym c.«record».ensures.value ∙ c.if-not-record.true);
}

pub returns-in_err-cross : goal.returns-in_err-cross
returns-in_err-cross c = record {
  answer = let a = c.args in
      let p = err_from_is_err_and c.from_residual.result c.from_residual.ensures.1 in
      rw (p.1, p.2)
      (set_refuses a.q.how a.r.now a.s.now a.x.now a.tape.now a.q.«record» a.m a.n (sym c.«record».ensures.value ∙ c.if-not-record.false) _
      (set_refused a.q.how a.r.now a.s.now a.x.now _ c.in_err-cross.ensures.answer));
}

pub highest-h-requires : goal.highest-h-requires
highest-h-requires c = let a = c.args in (
  (in_set a.q.how a.r.now a.s.now a.x.now (set_accepted a.q.how a.r.now a.s.now a.x.now _ _ _ _ _ c.in_ok-cross.ensures.answer)).relations,
  sym c.«record».ensures.value ∙ c.if-not-record.false,
)

pub returns-then-min-h : goal.returns-then-min-h
returns-then-min-h c = record {
  answer = let a = c.args in
      ap refusal c.unplaced-then-min-h.ensures.value
      ∙ too_short a.q.how a.r.now a.s.now a.x.now a.tape.now a.q.«record» a.m a.n (sym c.«record».ensures.value ∙ c.if-not-record.false)
      (set_accepted a.q.how a.r.now a.s.now a.x.now _ _ _ _ _ c.in_ok-cross.ensures.answer) _ c.highest-h.ensures.value
      (short _ a.m a.n (let l = c.if-min-h.true in let e = c.min.ensures in omega arith));
}

pub returns : goal.returns
returns c = record {
  answer = let a = c.args in
      let l = c.if-min-h.false in
      let e = c.min.ensures in
      says_highest a.q.how a.r.now a.s.now a.x.now a.tape.now a.q.«record» a.m a.n (sym c.«record».ensures.value ∙ c.if-not-record.false)
      (set_accepted a.q.how a.r.now a.s.now a.x.now _ _ _ _ _ c.in_ok-cross.ensures.answer) _ c.highest-h.ensures.value
      (omega arith) (omega arith);
}
