-- What the loops of `fields::numbers::ink` keep.
use Rattle.fields.specs.Ink.{ink_from}
use Rattle.rules.specs.Text.{cols}
use mathlib.Core.Path.{◌≡◌}
use Rattle.fields.proofs.numbers.ink.Given as goal

abbrev pub invariant-loop-c : goal.invariant-loop-c
invariant-loop-c l = ink_from l.c (cols l.l l.c l.b) ≡ ink_from l.a (cols l.l l.a l.b)
