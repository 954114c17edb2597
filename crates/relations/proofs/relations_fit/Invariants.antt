-- What the loop of `relations::relations_fit` keeps.
use Rattle.lines.specs.Reading.{sheet_of}
use Rattle.relations.proofs.Walked.{Walked}
use Rattle.relations.proofs.relations_fit.Given as goal

abbrev pub invariant-loop-k : goal.invariant-loop-k
invariant-loop-k l = Walked (sheet_of l.how l.r) l.o (sheet_of l.how l.s) (sheet_of l.how l.x) l.apart l.t l.place l.start l.k
