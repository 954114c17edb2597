-- What `traces::back::reaches` leaves to show.
use Rattle.std.proofs.Common.{◌≡◌, ◌∙◌, ◌&&◌, ap}
use lib.Dec.{leb}
use borrow.Author.Tests.{le-leb, lt-leb}
use Rattle.rules.specs.Cover.{covers}
use Rattle.rules.specs.Relations.{reach_at}
use Rattle.lines.specs.Reading.{sheet_of}
use Rattle.lines.proofs.Sheets.{rank_same}
use Rattle.records.specs.declared.relation.Reach.{Reach as ReachValues}
use Rattle.spread.proofs.Asked.{reads}
use Rattle.traces.proofs.Lines.{key_read}
use Rattle.traces.proofs.Ranges.{and_then, and_else}
use Rattle.traces.proofs.Ways.{in_reach, number_read, out_of_reach}
use Rattle.traces.proofs.back.reaches.Goals.{then-component-ge1, else-component-ge1, then-within, else-within}
use Rattle.traces.proofs.back.reaches.Goals as goal

pub returns-then-covers : goal.returns-then-covers
returns-then-covers c = record {
  value = let a = c.args in
      let X = sheet_of a.how a.x.now in
      let q = reach_at X a.k in
      let p = c.requires in
      let en = number_read a.how a.r.now a.i _ _ c.line_of.ensures.value c.number_at-number.ensures.value in
      let e = reads a.how a.x.now a.k _ _ c.line_of-2.ensures.value c.reach_of-q.ensures.value in
      let two : c.if-component-ge1.within ≡ (leb 1 a.component && leb a.component q.step) =
      elim c.if-component-ge1.branch [
        | then-component-ge1 w ↦
            and_then _ _ _ (le-leb 1 _ w.if-component-ge1.true)
            (w.within-is ∙ ap (leb a.component) (w.from.ensures ∙ ap (λ (q : ReachValues). q.step) e))
        | else-component-ge1 w ↦ and_else _ _ _ (lt-leb 1 _ w.if-component-ge1.false) w.within-is
      ] in
      let three : c.if-within.value ≡ (c.if-component-ge1.within && covers q c.number_at-number.result) =
      elim c.if-within.branch [
        | then-within w ↦ and_then _ _ _ w.if-within.true (w.value-is ∙ w.covers.ensures.value q e ∙ ap (covers q) w.from-then-within.ensures)
        | else-within w ↦ and_else _ _ _ w.if-within.false w.value-is
      ] in
      in_reach (sheet_of a.how a.r.now) X a.i a.k a.component p.0 p.1.0 (rank_same a.how a.r.now a.x.now) p.1.1 _ en _ _ two three
      c.if-covers.true _ (key_read a.how a.x.now a.k _ _ c.receiver_key.ensures.value) _ (rw c.receivers-z.ensures.value at c.is_at.ensures.value);
}

pub returns-else-covers : goal.returns-else-covers
returns-else-covers c = record {
  value = let a = c.args in
      let X = sheet_of a.how a.x.now in
      let q = reach_at X a.k in
      let p = c.requires in
      let en = number_read a.how a.r.now a.i _ _ c.line_of.ensures.value c.number_at-number.ensures.value in
      let e = reads a.how a.x.now a.k _ _ c.line_of-2.ensures.value c.reach_of-q.ensures.value in
      let two : c.if-component-ge1.within ≡ (leb 1 a.component && leb a.component q.step) =
      elim c.if-component-ge1.branch [
        | then-component-ge1 w ↦
            and_then _ _ _ (le-leb 1 _ w.if-component-ge1.true)
            (w.within-is ∙ ap (leb a.component) (w.from.ensures ∙ ap (λ (q : ReachValues). q.step) e))
        | else-component-ge1 w ↦ and_else _ _ _ (lt-leb 1 _ w.if-component-ge1.false) w.within-is
      ] in
      let three : c.if-within.value ≡ (c.if-component-ge1.within && covers q c.number_at-number.result) =
      elim c.if-within.branch [
        | then-within w ↦ and_then _ _ _ w.if-within.true (w.value-is ∙ w.covers.ensures.value q e ∙ ap (covers q) w.from-then-within.ensures)
        | else-within w ↦ and_else _ _ _ w.if-within.false w.value-is
      ] in
      out_of_reach (sheet_of a.how a.r.now) X a.i a.k a.component p.0 p.1.0 (rank_same a.how a.r.now a.x.now) p.1.1 _ en _ _ two three
      c.if-covers.false;
}
