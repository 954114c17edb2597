-- What the loop of `spread::highest` keeps.
use Rattle.std.proofs.Common.{◌≡◌}
use Rattle.lines.specs.Reading.{sheet_of}
use Rattle.rules.specs.Places.{greatest, pick}
use Rattle.rules.specs.Relations.{reach_at}
use Rattle.spread.specs.Asked.{is_of}
use Rattle.spread.proofs.highest.Given as goal

abbrev pub invariant-loop-k : goal.invariant-loop-k
invariant-loop-k l = l.h ≡ greatest l.k (λ j. pick (is_of (sheet_of l.how l.x) l.w j) (reach_at (sheet_of l.how l.x) j).upto 0)
