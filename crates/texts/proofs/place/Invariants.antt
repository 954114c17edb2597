-- What the loop of `texts::place` keeps: the places before k have the part's own bytes.
use Rattle.std.proofs.Common.{◌≡◌}
use lib.Seq.{paste}
use Rattle.texts.proofs.place.Given as goal

abbrev pub invariant-loop-k : goal.invariant-loop-k
invariant-loop-k l = l.out ≡ paste l.initial.out 0 l.p l.k
