-- What the loop of `sps::places::get_all` keeps.
use Rattle.std.proofs.Common.{◌≡◌, ◌<◌, ℕ, length, get_or}
use Rattle.sps.specs.Said.{read_at}
use Rattle.sps.proofs.places.get_all.Given as goal

abbrev pub invariant-loop-i : goal.invariant-loop-i
invariant-loop-i l = record {
  size : length l.numbers ≡ 16;
  got : (k : ℕ) → k < l.i → get_or l.numbers k 0 ≡ read_at k l.bytes;
}
