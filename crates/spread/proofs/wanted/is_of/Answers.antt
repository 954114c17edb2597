-- What `spread::wanted::is_of` leaves to show.
use Rattle.std.proofs.Common.{◌∙◌, sym, ap, not}
use Rattle.rules.proofs.Tests.{clash}
use Rattle.spread.proofs.Asked.{of_header, of_number, of_other}
use Rattle.spread.proofs.wanted.is_of.Goals.{then-not-is_header, else-not-is_header}
use Rattle.spread.proofs.wanted.is_of.Goals as goal

pub returns-then-pack-w : goal.returns-then-pack-w
returns-then-pack-w c = record {
  value = let a = c.args in
      elim c.if-not-is_header.branch [
        | then-not-is_header w ↦
            of_number a.how a.x.now a.w a.k _ c.line_of-l.ensures.value _ c.is_header.ensures.value w.if-not-is_header.true _ w.pack.ensures.value
            _ w.value-is c.if-pack-w.true _ (c.from.ensures ∙ c.number_at.ensures.value)
        | else-not-is_header w ↦ clash (sym (w.value-is ∙ ap not w.if-not-is_header.false) ∙ c.if-pack-w.true)
      ];
}

pub returns-else-pack-w : goal.returns-else-pack-w
returns-else-pack-w c = record {
  value = let a = c.args in
      elim c.if-not-is_header.branch [
        | then-not-is_header w ↦
            of_other a.how a.x.now a.w a.k _ c.line_of-l.ensures.value _ c.is_header.ensures.value w.if-not-is_header.true _ w.pack.ensures.value
            _ w.value-is c.if-pack-w.false
        | else-not-is_header w ↦
            w.value-is ∙ ap not w.if-not-is_header.false
            ∙ of_header a.how a.x.now a.w a.k _ c.line_of-l.ensures.value _ c.is_header.ensures.value w.if-not-is_header.false
      ];
}
