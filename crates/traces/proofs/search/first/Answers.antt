-- What `traces::search::first` leaves to show.
use Rattle.std.proofs.Common.{ℕ, ◌≡◌, ◌∙◌, ap, sym, arith}
use Rattle.lines.specs.Reading.{sheet_of}
use Rattle.rules.proofs.Steps.{least_stop}
use Rattle.rules.specs.Places.{least}
use Rattle.shots.proofs.Places.{found_in, none_in}
use Rattle.traces.proofs.Lines.{walk_of}
use Rattle.traces.specs.Steps.{finds, passes}
use Rattle.traces.proofs.search.first.Goals as goal

pub returns-then-is_here : goal.returns-then-is_here
returns-then-is_here c = record {
  value = let a = c.args in
      let X = sheet_of a.q.how a.x.now in
      let p = c.requires in
      let at = c.loop-k in
      let n = c.line_count-k-end.ensures.value in
      found_in _ _ at.k
      (sym (least_stop _ _ X.count (omega arith) at.invariant (sym c.is_here.ensures.value ∙ c.if-is_here.true))
      ∙ walk_of X p.1.0 a.tape.now a.q.«record» p.1.1 _ c.coded-w.ensures.value (finds (sheet_of a.q.how a.r.now) a.what)) (omega arith);
}

pub returns : goal.returns
returns c = record {
  value = let a = c.args in
      let X = sheet_of a.q.how a.x.now in
      let p = c.requires in
      let at = c.loop-k in
      let n = c.line_count-k-end.ensures.value in
      let f = finds (sheet_of a.q.how a.r.now) a.what in
      let z : at.k ≡ X.count = omega arith in
      none_in _ _
      (sym z ∙ sym at.invariant ∙ ap (λ (i : ℕ). least i (passes X c.coded-w.result f)) z
      ∙ walk_of X p.1.0 a.tape.now a.q.«record» p.1.1 _ c.coded-w.ensures.value f);
}
