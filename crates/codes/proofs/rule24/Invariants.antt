-- What the loop of `codes::rule24` keeps.
use Rattle.std.proofs.Common.{◌≡◌}
use Rattle.rules.specs.Plan.{fine, run, up_to}
use Rattle.rules.specs.Codes.{rule24}
use Rattle.lines.specs.Reading.{sheet_of}
use Rattle.codes.specs.Named.{Noted}
use Rattle.codes.proofs.rule24.Given as goal

abbrev pub invariant-loop-k : goal.invariant-loop-k
invariant-loop-k l = record {
  noted : Noted (sheet_of l.how l.r) l.k l.named;
  met : fine ≡ run (up_to l.k (rule24 (sheet_of l.how l.r)));
}
