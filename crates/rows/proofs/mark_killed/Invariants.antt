-- What the loop of `rows::mark_killed` keeps.
use Rattle.lines.specs.Reading.{sheet_of}
use Rattle.rows.proofs.Marks.{MarkedTo}
use Rattle.rows.proofs.mark_killed.Given as goal

abbrev pub invariant-loop-j : goal.invariant-loop-j
invariant-loop-j l = MarkedTo (sheet_of l.how l.r) l.o l.t l.j
