-- What the loop of `codes::line_naming` keeps.
use Rattle.std.proofs.Common.{◌≡◌, eqb}
use Rattle.rules.specs.Places.{least}
use Rattle.rules.specs.Layout.{sps93}
use Rattle.lines.specs.Reading.{sheet_of}
use Rattle.codes.specs.Named.{place_or, place_on}
use Rattle.codes.proofs.line_naming.Given as goal

abbrev pub invariant-loop-k : goal.invariant-loop-k
invariant-loop-k l = least l.k (λ j. eqb (place_on sps93 ((sheet_of l.how l.r).row j)) (place_or l.p)) ≡ l.k
