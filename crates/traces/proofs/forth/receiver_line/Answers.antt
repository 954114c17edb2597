-- What `traces::forth::receiver_line` leaves to show.
use Prim.Native.Nat.{ℕ}
use Rattle.lines.proofs.Sheets.{rank_same}
use Rattle.lines.specs.Reading.{sheet_of}
use Rattle.rules.proofs.Steps.{least_more, least_none_yet, least_stop}
use Rattle.rules.specs.Places.{least}
use Rattle.traces.proofs.Lines.{key_read, line_of_key}
use Rattle.keys.specs.Keyed.{holds_key}
use Rattle.keys.specs.declared.By.TheVariants.{Receivers}
use mathlib.Core.Path.{◌∙◌, ◌≡◌, ap, sym}
use native.Mathlib.Omega.{arith}
use Rattle.traces.proofs.forth.receiver_line.Goals as goal

pub loop-j-init : goal.loop-j-init
loop-j-init c = least_none_yet _

pub returns-then-holds : goal.returns-then-holds
returns-then-holds c = record {
  value = let a = c.args in
      let R = sheet_of a.how a.r.now in
      let p = c.requires in
      let n = c.line_count-count.ensures.value in
      let y = c.loop-j-test.true in
      sym (least_stop _ _ R.count (omega arith) c.loop-j.invariant (sym (rw c.receivers-z.ensures.value at c.holds.ensures.value) ∙ c.if-holds.true))
      ∙ line_of_key R (sheet_of a.how a.x.now) p.0 p.1.0 (rank_same a.how a.r.now a.x.now) a.k p.1.1 a.n c.ranges.n.fits _
      (key_read a.how a.x.now a.k a.n _ c.receiver_key-y.ensures.value);
}

pub loop-j-preserved : goal.loop-j-preserved
loop-j-preserved c = least_more _ _ c.loop-j.invariant (sym (rw c.receivers-z.ensures.value at c.holds.ensures.value) ∙ c.if-holds.false)

pub returns : goal.returns
returns c = record {
  value = let a = c.args in
      let R = sheet_of a.how a.r.now in
      let p = c.requires in
      let at = c.loop-j in
      let n = c.line_count-count.ensures.value in
      let y = c.loop-j-test.false in
      let z : c.line_count-count.result ≡ at.j = omega arith in
      let u : at.j ≡ R.count = omega arith in
      z ∙ sym at.invariant ∙ ap (λ (i : ℕ). least i (holds_key Receivers R c.receiver_key-y.result)) u
      ∙ line_of_key R (sheet_of a.how a.x.now) p.0 p.1.0 (rank_same a.how a.r.now a.x.now) a.k p.1.1 a.n c.ranges.n.fits _
      (key_read a.how a.x.now a.k a.n _ c.receiver_key-y.ensures.value);
}
