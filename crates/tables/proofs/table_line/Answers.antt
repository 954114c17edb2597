-- What `tables::table_line` leaves to show.
use Rattle.std.proofs.Common.{sym, ◌∙◌}
use Rattle.std.proofs.lemmas.Result.{err_from_is_err_and}
use Rattle.sets.proofs.Verdicts.{set_accepted, set_refused}
use Rattle.lines.proofs.FileLetters.{few_kinds}
use Rattle.tables.proofs.Asked.{few_lines, out_of_range, set_refuses, told}
use Rattle.tables.proofs.table_line.Goals as goal

pub returns-then-not-code_asked-clause-answer : goal.returns-then-not-code_asked-clause-answer
returns-then-not-code_asked-clause-answer c =
    rw c.unplaced.ensures.value (out_of_range _ _ _ _ _ _ c.kind_of-i.ensures.value _ c.code_asked.ensures.value c.if-not-code_asked.true)

pub returns-in_err-cross-clause-answer : goal.returns-in_err-cross-clause-answer
returns-in_err-cross-clause-answer c =
    let a = c.args in
    let p = err_from_is_err_and c.from_residual.result c.from_residual.ensures.1 in
    rw (p.1, p.2)
    (set_refuses _ _ _ a.kind a.code.now _ c.kind_of-i.ensures.value _ c.code_asked.ensures.value c.if-not-code_asked.false _
    (set_refused a.how a.r.now a.s.now a.x.now _ c.in_err-cross.ensures.answer))

pub line_naming-requires : goal.line_naming-requires
line_naming-requires c = let a = c.args in
    let ok = set_accepted a.how a.r.now a.s.now a.x.now _ _ _ _ _ c.in_ok-cross.ensures.answer in (
      few_lines a.how a.r.now a.s.now a.x.now ok,
      (few_kinds _ _ c.kind_of-i.ensures.value, sym c.code_asked.ensures.value ∙ c.if-not-code_asked.false),
    )

pub returns-clause-answer : goal.returns-clause-answer
returns-clause-answer c =
    let a = c.args in
    let ok = set_accepted a.how a.r.now a.s.now a.x.now _ _ _ _ _ c.in_ok-cross.ensures.answer in
    told _ _ _ a.kind a.code.now _ c.kind_of-i.ensures.value _ c.code_asked.ensures.value c.if-not-code_asked.false ok _ c.line_naming.ensures.value
