-- What `traces::filled` leaves to show.
use Rattle.std.proofs.lemmas.Result.{err_from_is_err_and}
use Rattle.rules.specs.Spread.{component_of, line_of, place}
use Rattle.traces.proofs.Tables.{components_filled, leaves, lines_filled, may_fill}
use Rattle.traces.proofs.filled.Goals as goal

pub returns-in_err-h : goal.returns-in_err-h
returns-in_err-h g c = record {
  table = let a = c.args in
      let e = rw c.room.ensures.value at c.in_err-h.ensures.answer in
      let p = err_from_is_err_and c.from_residual.result c.from_residual.ensures.1 in
      record {
        answer = rw (p.1, p.2) e;
        lines = leaves a.q.how a.r.now a.s.now a.x.now a.tape.now a.q.«record» _ _ _ e g.P.Places.puts line_of (g.P.Places.held a.lines.now);
        components = leaves a.q.how a.r.now a.s.now a.x.now a.tape.now a.q.«record» _ _ _ e place component_of a.components.now;
      };
}

pub fill-requires : goal.fill-requires
fill-requires g c = let a = c.args in
    may_fill a.q.how a.r.now a.s.now a.x.now a.tape.now a.q.«record» _ _ _ (rw c.room.ensures.value at c.in_ok-h.ensures.answer)

pub returns : goal.returns
returns g c = record {
  table = let a = c.args in
      let e = rw c.room.ensures.value at c.in_ok-h.ensures.answer in
      let w = c.fill.ensures in
      record {
        answer = e;
        lines = lines_filled a.q.how a.r.now a.s.now a.x.now a.tape.now a.q.«record» _ _ _ e g.P.Places.puts line_of
            (g.P.Places.held a.lines.now) _ w.lines;
        components = components_filled a.q.how a.r.now a.s.now a.x.now a.tape.now a.q.«record» _ _ _ e a.components.now _ w.components;
      };
}
