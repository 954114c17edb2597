-- What the loop of `sets::counting::traces` keeps.
use Rattle.std.proofs.Common.{◌≡◌, ◌*◌, ◌≤◌}
use Rattle.rules.specs.Places.{sum}
use Rattle.rules.specs.TraceRows.{traces_at}
use Rattle.lines.specs.Reading.{sheet_of}
use Rattle.sets.proofs.counting.traces.Given as goal

abbrev pub invariant-loop-k : goal.invariant-loop-k
invariant-loop-k l = record { few : l.m ≤ 4294967296 * l.k; counted : l.m ≡ sum l.k (traces_at (sheet_of l.how l.x)) }
