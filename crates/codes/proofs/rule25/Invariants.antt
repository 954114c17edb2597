-- What the loop of `codes::rule25` keeps.
use Rattle.std.proofs.Common.{◌≡◌}
use Rattle.rules.specs.Plan.{fine, run, up_to}
use Rattle.lines.specs.Reading.{sheet_of}
use Rattle.codes.specs.Named.{note_fits}
use Rattle.codes.proofs.rule25.Given as goal

abbrev pub invariant-loop-k : goal.invariant-loop-k
invariant-loop-k l = fine ≡ run (up_to l.k (note_fits l.named l.i (sheet_of l.how l.f)))
