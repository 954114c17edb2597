-- What the loop of `headers::rule7` keeps.
use Rattle.std.proofs.Common.{◌≡◌, true}
use Rattle.rules.specs.Places.{every}
use Rattle.lines.specs.Reading.{sheet_of}
use Rattle.headers.specs.Steps.{has_type}
use Rattle.headers.proofs.rule7.Given as goal

abbrev pub invariant-loop-t : goal.invariant-loop-t
invariant-loop-t l = every l.t (has_type (sheet_of l.how l.r) l.n) ≡ true
