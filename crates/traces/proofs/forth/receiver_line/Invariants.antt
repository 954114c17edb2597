-- What the loop of `traces::forth::receiver_line` keeps.
use Rattle.std.proofs.Common.{◌≡◌}
use Rattle.lines.specs.Reading.{sheet_of}
use Rattle.rules.specs.Places.{least}
use Rattle.keys.specs.Keyed.{holds_key}
use Rattle.keys.specs.declared.By.TheVariants.{Receivers}
use Rattle.traces.proofs.forth.receiver_line.Given as goal

abbrev pub invariant-loop-j : goal.invariant-loop-j
invariant-loop-j l = least l.j (holds_key Receivers (sheet_of l.fn.how l.r) l.y) ≡ l.j
