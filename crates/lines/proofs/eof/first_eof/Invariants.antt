-- What the loop of `lines::eof::first_eof` keeps.
use Rattle.std.proofs.Common.{◌≡◌, ◌*◌, take, drop}
use Rattle.rules.specs.Places.{least}
use Rattle.rules.specs.Tape.{tape}
use Rattle.lines.proofs.eof.first_eof.Given as goal

abbrev pub invariant-loop-k : goal.invariant-loop-k
invariant-loop-k l = least l.k (λ j. tape.ends (take 80 (drop (80 * j) l.f))) ≡ l.k
