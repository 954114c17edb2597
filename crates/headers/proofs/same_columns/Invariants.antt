-- What the loop of `headers::same_columns` keeps.
use Rattle.std.proofs.Common.{◌≡◌, ◌+◌, drop}
use Rattle.rules.specs.Plan.{run}
use Rattle.rules.specs.Headers.{same_columns}
use Rattle.headers.proofs.same_columns.Given as goal

abbrev pub invariant-loop-c : goal.invariant-loop-c
invariant-loop-c l = run (same_columns l.i l.k (l.c + 1) (drop l.c l.l) (drop l.c l.m)) ≡ run (same_columns l.i l.k 1 l.l l.m)
