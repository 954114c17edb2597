-- What the loops of `fields::figures::number` keep.
use Prim.Native.Nat.{◌+◌, ◌≤◌}
use mathlib.Core.Path.{◌≡◌}
use Rattle.rules.specs.Text.{cols}
use Rattle.fields.specs.Figures.{figures_after, figures}
use Rattle.fields.proofs.LowHalves.{Room}
use Rattle.fields.proofs.figures.number.Given as goal

abbrev pub invariant-loop-c : goal.invariant-loop-c
invariant-loop-c l = record {
  within : l.c ≤ l.a + 8;
  room : Room l.v l.a l.c;
  read : figures_after l.v (cols l.l l.c l.b) ≡ figures (cols l.l l.a l.b);
}
