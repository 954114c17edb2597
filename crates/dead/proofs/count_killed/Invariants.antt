-- What the loop of `dead::count_killed` keeps.
use mathlib.Core.Path.{◌≡◌}
use lib.ListN.{length}
use Rattle.rules.specs.Places.{count}
use Rattle.lines.specs.Reading.{sheet_of}
use Rattle.dead.specs.Dead.{killed_row}
use Rattle.dead.proofs.Running.{Passed}
use Rattle.dead.proofs.count_killed.Given as goal

abbrev pub invariant-loop-j : goal.invariant-loop-j
invariant-loop-j l = record {
  size : length l.t ≡ length l.initial.t;
  sum : l.n ≡ count l.j (killed_row (sheet_of l.how l.r) l.o);
  passed : Passed (sheet_of l.how l.r) l.o l.t l.j;
}
