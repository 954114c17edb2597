-- What the loops of `receivers::first_from` keep.
use Prim.Native.Nat.{◌-◌}
use lib.ListN.{length}
use Rattle.lines.specs.Reading.{sheet_of}
use Rattle.receivers.specs.Rows.{not_below}
use Rattle.receivers.proofs.Halves.{Bracket}
use Rattle.receivers.proofs.first_from.Given as goal

abbrev pub invariant-loop-low : goal.invariant-loop-low
invariant-loop-low l = Bracket (not_below (sheet_of l.how l.r) l.o l.y) (length l.o) l.low l.high

abbrev pub decreases-loop-low : goal.decreases-loop-low
decreases-loop-low l = l.high - l.low
