-- What the loop of `dead::all_dead` keeps.
use Prim.Native.Nat.{◌*◌, ◌≤◌}
use mathlib.Core.Path.{◌≡◌}
use Rattle.rules.specs.Places.{sum}
use Rattle.lines.specs.Reading.{sheet_of}
use Rattle.dead.specs.Dead.{dead_at}
use Rattle.dead.proofs.all_dead.Given as goal

abbrev pub invariant-loop-k : goal.invariant-loop-k
invariant-loop-k l = record {
  small : l.all ≤ 4294967296 * l.k;
  sum : l.all ≡ sum l.k (dead_at (sheet_of l.how l.r) (sheet_of l.how l.x));
}
