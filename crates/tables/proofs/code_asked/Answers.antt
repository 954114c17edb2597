-- What `tables::code_asked` leaves to show.
use Rattle.std.proofs.Common.{◌∙◌}
use borrow.Author.Tests.{ne_eqb}
use Rattle.tables.proofs.Asked.{no_kind, not_one, asked_instrument, not_two, asked_point}
use Rattle.tables.proofs.code_asked.Goals as goal

pub returns-then-code-eq1 : goal.returns-then-code-eq1
returns-then-code-eq1 c = record { value = asked_instrument _ _ c.if-i-eq3.true c.if-code-eq1.true _ c.is_code.ensures.value }

pub returns-else-code-eq1 : goal.returns-else-code-eq1
returns-else-code-eq1 c = record { value = ne_eqb _ _ c.if-code-eq1.false ∙ not_one _ _ c.if-i-eq3.true c.if-code-eq1.false }

pub returns-then-i-eq0 : goal.returns-then-i-eq0
returns-then-i-eq0 c = record { value = no_kind _ _ c.if-i-eq0.true }

pub returns-then-code-eq2 : goal.returns-then-code-eq2
returns-then-code-eq2 c = record {
  value = asked_point _ _ c.if-i-eq3.false c.if-code-eq2.true c.if-i-eq0.false _ c.is_code-then-code-eq2.ensures.value;
}

pub returns-else-code-eq2 : goal.returns-else-code-eq2
returns-else-code-eq2 c = record {
  value = ne_eqb _ _ c.if-code-eq2.false ∙ not_two _ _ c.if-i-eq3.false c.if-i-eq0.false c.if-code-eq2.false;
}
