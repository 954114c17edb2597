-- What the loop of `sets::counting::keyed` keeps.
use Rattle.std.proofs.Common.{◌≡◌, ◌≤◌}
use Rattle.rules.specs.Places.{count}
use Rattle.keys.specs.Keyed.{takes_in}
use Rattle.sets.proofs.counting.keyed.Given as goal

abbrev pub invariant-loop-k : goal.invariant-loop-k
invariant-loop-k l = record { few : l.m ≤ l.k; counted : l.m ≡ count l.k (takes_in l.z l.f) }
