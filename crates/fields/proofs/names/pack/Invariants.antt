-- What the loops of `fields::names::pack` keep.
use Prim.Native.Nat.{◌-◌, ◌<◌, ◌^◌}
use Rattle.fields.specs.Packed.{packed, packed_after}
use Rattle.rules.specs.Text.{cols}
use mathlib.Core.Path.{◌≡◌}
use Rattle.fields.proofs.names.pack.Given as goal

abbrev pub invariant-loop-c : goal.invariant-loop-c
invariant-loop-c l = record {
  small : l.v < 256 ^ (l.c - l.a);
  read : packed_after l.v (cols l.l l.c l.b) ≡ packed (cols l.l l.a l.b);
}
