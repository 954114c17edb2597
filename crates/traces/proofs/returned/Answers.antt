-- What `traces::returned` leaves to show.
use Prim.Native.Nat.{ℕ}
use Rattle.lines.specs.Reading.{sheet_of}
use Rattle.rules.specs.Check.{channel}
use Rattle.rules.specs.Relations.{reach_at}
use Rattle.spread.proofs.Asked.{reads}
use Rattle.traces.proofs.Ways.{channel_is, channel_small, may_return, number_read}
use mathlib.Core.Path.{ap}
use native.Mathlib.Omega.{arith}
use Rattle.traces.proofs.returned.Goals as goal

pub channel_of-requires : goal.channel_of-requires
channel_of-requires c = let a = c.args in
    let p = c.requires in
    let en = number_read a.how a.r.now a.i _ _ c.line_of.ensures.value c.number_at-number.ensures.value in
    let e = reads a.how a.x.now a.k _ _ c.line_of-2.ensures.value c.reach_of-q.ensures.value in
    may_return (sheet_of a.how a.r.now) (sheet_of a.how a.x.now) p.0.0 a.i a.k a.component p.0.1 p.1.0 p.1.1 _ e _ en

pub overflow_cast-result : goal.overflow_cast-result
overflow_cast-result c = let a = c.args in
    let R = sheet_of a.how a.r.now in
    let X = sheet_of a.how a.x.now in
    let p = c.requires in
    let en = number_read a.how a.r.now a.i _ _ c.line_of.ensures.value c.number_at-number.ensures.value in
    let e = reads a.how a.x.now a.k _ _ c.line_of-2.ensures.value c.reach_of-q.ensures.value in
    let s = channel_small R X p.0.0 a.i a.k a.component p.0.1 p.1.0 p.1.1 _ e _ en in
    let z = channel_is R X p.0.0 a.i a.k a.component p.0.1 p.1.0 p.1.1 _ e _ en _ (c.channel_of.ensures.value (reach_at X a.k) e) in
    omega arith

pub returns : goal.returns
returns c = record {
  answer = let a = c.args in
      let X = sheet_of a.how a.x.now in
      let p = c.requires in
      let en = number_read a.how a.r.now a.i _ _ c.line_of.ensures.value c.number_at-number.ensures.value in
      let e = reads a.how a.x.now a.k _ _ c.line_of-2.ensures.value c.reach_of-q.ensures.value in
      ap (λ (i : ℕ). channel i) (channel_is (sheet_of a.how a.r.now) X p.0.0 a.i a.k a.component p.0.1 p.1.0 p.1.1 _ e _
      en _ (c.channel_of.ensures.value (reach_at X a.k) e));
}
