-- What the loop of `headers::heads` keeps.
use Rattle.std.proofs.Common.{◌≡◌}
use Rattle.rules.specs.Lines.{is_data}
use Rattle.rules.specs.Places.{least}
use Rattle.lines.specs.Reading.{sheet_of}
use Rattle.headers.proofs.heads.Given as goal

abbrev pub invariant-loop-k : goal.invariant-loop-k
invariant-loop-k l = least l.k (is_data (sheet_of l.how l.f)) ≡ l.k
