-- What `traces::found_back` leaves to show.
use Rattle.lines.specs.Reading.{sheet_of}
use Rattle.shots.proofs.Places.{in_found}
use Rattle.traces.proofs.Lines.{found_line}
use Rattle.traces.proofs.Ways.{beyond_file, no_point, none_reaches, one_reaches, receiver_line_lem}
use mathlib.Core.Path.{◌∙◌, refl}
use native.Mathlib.Omega.{arith}
use Rattle.traces.proofs.found_back.Goals as goal

pub returns-then-line_count-r_line : goal.returns-then-line_count-r_line
returns-then-line_count-r_line c = record {
  answer = let a = c.args in
      let n = c.line_count.ensures.value in
      beyond_file (sheet_of a.q.how a.r.now) (sheet_of a.q.how a.x.now) a.tape.now a.q.«record» a.r_line a.component (omega arith);
}

pub returns-then-not-takes : goal.returns-then-not-takes
returns-then-not-takes c = record {
  answer = let a = c.args in
      let p = c.requires in
      let n = c.line_count.ensures.value in
      let l = c.if-line_count-r_line.false in
      no_point (sheet_of a.q.how a.r.now) (sheet_of a.q.how a.x.now) a.tape.now a.q.«record» a.r_line a.component p.1.1
      (omega arith) _ refl _ (rw c.receivers.ensures.value at c.takes.ensures.value) c.if-not-takes.true;
}

pub first-requires : goal.first-requires
first-requires c = let a = c.args in
    let p = c.requires in
    let n = c.line_count.ensures.value in
    let l = c.if-line_count-r_line.false in (
      receiver_line_lem (sheet_of a.q.how a.r.now) (sheet_of a.q.how a.x.now) a.tape.now a.q.«record» a.r_line a.component p.1.1
          (omega arith) _ refl _ (rw c.receivers.ensures.value at c.takes.ensures.value) c.if-not-takes.false p.0.receivers,
      (p.0.relations, p.1.0),
    )

pub returns-in_err-k : goal.returns-in_err-k
returns-in_err-k c = record {
  answer = let a = c.args in
      let p = c.requires in
      let n = c.line_count.ensures.value in
      let l = c.if-line_count-r_line.false in
      rw c.from_residual.ensures
      (none_reaches (sheet_of a.q.how a.r.now) (sheet_of a.q.how a.x.now) a.tape.now a.q.«record» a.r_line a.component p.1.1
      (omega arith) _ refl _ (rw c.receivers.ensures.value at c.takes.ensures.value) c.if-not-takes.false c.in_err-k.ensures.value);
}

pub returned-requires : goal.returned-requires
returned-requires c = let a = c.args in
    let R = sheet_of a.q.how a.r.now in
    let X = sheet_of a.q.how a.x.now in
    let p = c.requires in
    let n = c.line_count.ensures.value in
    let l = c.if-line_count-r_line.false in
    let f = in_found _ _ _ c.in_ok-k.ensures.value in (
      (
        p.0,
        receiver_line_lem R X a.tape.now a.q.«record» a.r_line a.component p.1.1 (omega arith) _ refl _ (rw c.receivers.ensures.value at c.takes.ensures.value)
            c.if-not-takes.false p.0.receivers,
      ),
      found_line X a.tape.now a.q.«record» _ _ f.0 f.1,
    )

pub returns : goal.returns
returns c = record {
  answer = let a = c.args in
      let p = c.requires in
      let n = c.line_count.ensures.value in
      let l = c.if-line_count-r_line.false in
      let f = in_found _ _ _ c.in_ok-k.ensures.value in
      c.returned.ensures.answer
      ∙ one_reaches (sheet_of a.q.how a.r.now) (sheet_of a.q.how a.x.now) a.tape.now a.q.«record» a.r_line a.component p.1.1
      (omega arith) _ refl _ (rw c.receivers.ensures.value at c.takes.ensures.value) c.if-not-takes.false _ f.0 f.1;
}
