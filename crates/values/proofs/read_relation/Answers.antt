-- What `values::read_relation` leaves to show.
use Rattle.std.proofs.Common.{◌∙◌, arith}
use Rattle.std.proofs.lemmas.Result.{err_from_is_err_and}
use Rattle.values.proofs.Lines.{there, of_relations, relation_of_line}
use Rattle.values.proofs.read_relation.Goals as goal

pub overflow_sub-line : goal.overflow_sub-line
overflow_sub-line c = omega (arith, there _ _ _ _ c.in_ok-one_line.ensures.verdict)

pub line_of-requires : goal.line_of-requires
line_of-requires c = omega (arith, there _ _ _ _ c.in_ok-one_line.ensures.verdict)

pub returns-in_err-one_line : goal.returns-in_err-one_line
returns-in_err-one_line c = record {
  read = let p = err_from_is_err_and c.from_residual.result c.from_residual.ensures.1 in
      rw (p.1, p.2) (of_relations _ _ _ c.in_err-one_line.ensures.verdict);
}

pub returns : goal.returns
returns c = record {
  read = (of_relations _ _ _ c.in_ok-one_line.ensures.verdict, c.relation_of.ensures.value ∙ relation_of_line _ _ _ _ c.line_of.ensures.value);
}
