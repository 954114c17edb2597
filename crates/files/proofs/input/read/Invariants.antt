-- What the loop of `files::input::read` keeps.
use Rattle.std.proofs.Common.{◌≡◌, ◌≤◌, length, ◌-◌, take, drop}
use Rattle.std.specs.Io.KnownBytes.{Consumes}
use Rattle.files.proofs.input.read.Given as goal

abbrev pub invariant-loop-m : goal.invariant-loop-m
invariant-loop-m g l = record {
  within : l.n ≤ length l.buf;
  size : length l.buf ≡ length l.fn.buf;
  rest : drop l.n l.buf ≡ drop l.n l.fn.buf;
  bytes : Consumes (g.F.Read.remaining l.fn.file) (g.F.Read.remaining l.file) (take l.n l.buf);
}

abbrev pub decreases-loop-m : goal.decreases-loop-m
decreases-loop-m g l = length l.buf - l.n
