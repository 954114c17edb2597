-- What the loop of `once::marks::mark` keeps.
use Rattle.once.specs.Covered.{Spanned}
use Rattle.once.proofs.Spans.{Reached}
use Rattle.once.proofs.marks.mark.Given as goal

abbrev pub invariant-loop-e : goal.invariant-loop-e
invariant-loop-e l = record { reached : Reached l.lo l.hi l.e; spanned : Spanned l.lo l.e l.v l.initial.t l.t }
