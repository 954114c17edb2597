-- What the loop of `once::marks::is_marked` keeps.
use mathlib.Core.Path.{◌≡◌}
use Rattle.rules.specs.Places.{some}
use Rattle.once.proofs.Spans.{Reached, is_mark}
use Rattle.once.proofs.marks.is_marked.Given as goal

abbrev pub invariant-loop-e : goal.invariant-loop-e
invariant-loop-e l = record { reached : Reached l.lo l.hi l.e; seen : l.found ≡ some l.e (is_mark l.lo l.v l.t) }
