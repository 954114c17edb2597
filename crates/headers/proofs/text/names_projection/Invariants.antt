-- What the loop of `headers::text::names_projection` keeps.
use Rattle.std.proofs.Common.{◌≡◌}
use Rattle.rules.specs.Text.{cols}
use Rattle.headers.specs.Steps.{names}
use Rattle.headers.proofs.text.names_projection.Given as goal

abbrev pub invariant-loop-c : goal.invariant-loop-c
invariant-loop-c l = names (cols l.l l.c 80) ≡ names (cols l.l 33 80)
