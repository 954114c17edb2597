-- What the loop of `sps::places::put_all` keeps.
use Rattle.std.proofs.Common.{◌≡◌, drop}
use Rattle.sps.specs.Counts.{placed, placed_from}
use Rattle.sps.proofs.places.put_all.Given as goal

abbrev pub invariant-loop-i : goal.invariant-loop-i
invariant-loop-i l = placed_from l.i (drop l.i l.numbers) l.bytes ≡ placed l.numbers l.initial.bytes
