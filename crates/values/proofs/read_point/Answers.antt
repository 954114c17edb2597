-- What `values::read_point` leaves to show.
use Rattle.std.proofs.Common.{◌∙◌, sym, arith}
use Rattle.std.proofs.lemmas.Result.{err_from_is_err_and}
use Rattle.values.proofs.Lines.{there, of_points_lem, not_of_points, point_of_line}
use Rattle.values.proofs.read_point.Goals as goal

pub returns-then-not-of_points : goal.returns-then-not-of_points
returns-then-not-of_points c = record {
  read = rw c.unplaced.ensures.value (not_of_points _ _ _ _ c.kind_of-i.ensures.value (sym c.if-not-of_points.true ∙ c.of_points.ensures.value));
}

pub overflow_sub-line : goal.overflow_sub-line
overflow_sub-line c = omega (arith, there _ _ _ _ c.in_ok-one_line.ensures.verdict)

pub line_of-requires : goal.line_of-requires
line_of-requires c = omega (arith, there _ _ _ _ c.in_ok-one_line.ensures.verdict)

pub returns-in_err-one_line : goal.returns-in_err-one_line
returns-in_err-one_line c = record {
  read = let p = err_from_is_err_and c.from_residual.result c.from_residual.ensures.1 in
      let o = sym c.if-not-of_points.false ∙ c.of_points.ensures.value in
      rw (p.1, p.2) (of_points_lem _ _ _ _ _ c.kind_of-i.ensures.value o _ c.in_err-one_line.ensures.verdict);
}

pub returns : goal.returns
returns c = record {
  read = (
    of_points_lem _ _ _ _ _ c.kind_of-i.ensures.value (sym c.if-not-of_points.false ∙ c.of_points.ensures.value) _ c.in_ok-one_line.ensures.verdict,
    c.point_of.ensures.value ∙ point_of_line _ _ _ _ c.line_of.ensures.value,
  );
}
