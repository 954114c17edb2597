-- What the loop of `lines::proper::all_printed` keeps.
use Rattle.std.proofs.Common.{ℕ, ◌≤◌, ◌<◌, get_or}
use Rattle.lines.specs.Reading.{Printed}
use Rattle.lines.proofs.proper.all_printed.Given as goal

abbrev pub invariant-loop-b : goal.invariant-loop-b
invariant-loop-b l = l.most ≤ 94 → (k : ℕ) → k < l.b-index → Printed (get_or l.columns k 0)
