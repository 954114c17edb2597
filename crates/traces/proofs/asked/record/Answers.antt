-- What `traces::asked::record` leaves to show.
use Rattle.std.proofs.Common.{Bool, ◌≡◌, ◌∙◌, ◌&&◌, not, length, get_or, sym, ap}
use lib.Dec.{eqb, leb}
use borrow.Author.Tests.{eq-eqb, ne_eqb}
use Rattle.rules.specs.Disc.{printable}
use Rattle.rules.specs.Places.{every}
use Rattle.traces.proofs.Ranges.{and_then, and_else, printed_by_test, record_by}
use Rattle.traces.proofs.asked.record.Goals.{then-tape-eq6, else-tape-eq6, then-all_printable, else-all_printable}
use Rattle.traces.proofs.asked.record.Goals as goal

pub returns-then-tape-ne32 : goal.returns-then-tape-ne32
returns-then-tape-ne32 c = record {
  value = let t = c.args.tape.now in
      let n = c.args.number in
      let two : c.if-tape-eq6.value ≡ (eqb (length t) 6 && every (length t) (λ i. printable (get_or t i 0))) =
      elim c.if-tape-eq6.branch [
        | then-tape-eq6 w ↦ and_then _ _ _ (eq-eqb _ 6 w.if-tape-eq6.true) (w.value-is ∙ w.all_printable.ensures.value ∙ printed_by_test t)
        | else-tape-eq6 w ↦ and_else _ _ _ (ne_eqb _ 6 w.if-tape-eq6.false) w.value-is
      ] in
      let three : c.if-all_printable.value ≡ (c.if-tape-eq6.value && not (eqb (get_or t 0 0) 32)) =
      elim c.if-all_printable.branch [
        | then-all_printable w ↦ and_then _ _ _ w.if-all_printable.true w.value-is
        | else-all_printable w ↦ and_else _ _ _ w.if-all_printable.false w.value-is
      ] in
      sym (ap (λ (b : Bool). b && leb n 9999) c.if-tape-ne32.true) ∙ record_by t n _ _ two three;
}

pub returns-else-tape-ne32 : goal.returns-else-tape-ne32
returns-else-tape-ne32 c = record {
  value = let t = c.args.tape.now in
      let n = c.args.number in
      let two : c.if-tape-eq6.value ≡ (eqb (length t) 6 && every (length t) (λ i. printable (get_or t i 0))) =
      elim c.if-tape-eq6.branch [
        | then-tape-eq6 w ↦ and_then _ _ _ (eq-eqb _ 6 w.if-tape-eq6.true) (w.value-is ∙ w.all_printable.ensures.value ∙ printed_by_test t)
        | else-tape-eq6 w ↦ and_else _ _ _ (ne_eqb _ 6 w.if-tape-eq6.false) w.value-is
      ] in
      let three : c.if-all_printable.value ≡ (c.if-tape-eq6.value && not (eqb (get_or t 0 0) 32)) =
      elim c.if-all_printable.branch [
        | then-all_printable w ↦ and_then _ _ _ w.if-all_printable.true w.value-is
        | else-all_printable w ↦ and_else _ _ _ w.if-all_printable.false w.value-is
      ] in
      c.if-tape-ne32.false ∙ sym (ap (λ (b : Bool). b && leb n 9999) c.if-tape-ne32.false) ∙ record_by t n _ _ two three;
}
