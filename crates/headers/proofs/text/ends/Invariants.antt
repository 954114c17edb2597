-- What the loop of `headers::text::ends` keeps.
use Rattle.std.proofs.Common.{◌≡◌}
use Rattle.rules.specs.Headers.{cut}
use Rattle.rules.specs.Text.{blank, cols}
use Rattle.headers.proofs.text.ends.Given as goal

abbrev pub invariant-loop-c : goal.invariant-loop-c
invariant-loop-c l = blank (cut (cols l.l l.c 80)) ≡ blank (cut (cols l.l l.a 80))
