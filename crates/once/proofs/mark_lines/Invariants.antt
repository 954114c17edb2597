-- What the loop of `once::mark_lines` keeps.
use mathlib.Core.Path.{◌≡◌}
use lib.ListN.{length}
use Rattle.lines.specs.Reading.{sheet_of}
use Rattle.once.specs.Marks.{Marked}
use Rattle.once.proofs.mark_lines.Given as goal

abbrev pub invariant-loop-i : goal.invariant-loop-i
invariant-loop-i l = record {
  size : length l.t ≡ length l.initial.t;
  marked : Marked (sheet_of l.how l.r) l.o (sheet_of l.how l.x) l.t l.start l.i;
}
