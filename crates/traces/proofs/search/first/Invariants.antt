-- What the loop of `traces::search::first` keeps.
use Rattle.std.proofs.Common.{◌≡◌}
use Rattle.lines.specs.Reading.{sheet_of}
use Rattle.rules.specs.Places.{least}
use Rattle.traces.specs.Steps.{finds, passes}
use Rattle.traces.proofs.search.first.Given as goal

abbrev pub invariant-loop-k : goal.invariant-loop-k
invariant-loop-k l = least l.k (passes (sheet_of l.fn.q.how l.x) l.w (finds (sheet_of l.fn.q.how l.r) l.what)) ≡ l.k
