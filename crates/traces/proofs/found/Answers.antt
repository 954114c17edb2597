-- What `traces::found` leaves to show.
use Rattle.std.proofs.Common.{◌∙◌}
use Rattle.lines.specs.Reading.{sheet_of}
use Rattle.shots.proofs.Places.{in_found}
use Rattle.traces.proofs.Lines.{found_line}
use Rattle.traces.proofs.Sets.{none_carries, one_carries}
use Rattle.traces.proofs.found.Goals as goal

pub returns-in_err-k : goal.returns-in_err-k
returns-in_err-k c = record {
  answer = let a = c.args in
      rw c.from_residual.ensures
      (none_carries (sheet_of a.q.how a.r.now) (sheet_of a.q.how a.x.now) a.tape.now a.q.«record» a.channel c.in_err-k.ensures.value);
}

pub traced-requires : goal.traced-requires
traced-requires c = let a = c.args in
    let f = in_found _ _ _ c.in_ok-k.ensures.value in
    (c.requires.0, found_line (sheet_of a.q.how a.x.now) a.tape.now a.q.«record» _ _ f.0 f.1)

pub returns : goal.returns
returns c = record {
  answer = let a = c.args in
      let f = in_found _ _ _ c.in_ok-k.ensures.value in
      c.traced.ensures.answer ∙ one_carries (sheet_of a.q.how a.r.now) (sheet_of a.q.how a.x.now) a.tape.now a.q.«record» a.channel _ f.0 f.1;
}
