-- What `writer::line::line_of` leaves to show.
use Rattle.std.proofs.Common.{arith, ap, sym, ◌∙◌}
use Rattle.std.specs.Prelude.{Some}
use Rattle.writer.proofs.Tables.{line_is}
use Rattle.writer.proofs.line.line_of.Goals as goal

pub returns-then-not-fields : goal.returns-then-not-fields
returns-then-not-fields c = record { value = rw (sym c.fields.ensures.goes ∙ c.if-not-fields.true) }

pub returns : goal.returns
returns c = record {
  value = let y = c.if-not-fields.false in
      rw (sym c.fields.ensures.goes ∙ y)
      (ap Some (line_is _ _ _ c.requires c.byte.ensures.added (c.fields.ensures.put y) c.add.ensures.added (omega arith)));
}
