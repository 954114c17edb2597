-- What the loops of `fields::numbers::digits` keep.
use Prim.Native.Nat.{◌-◌, ◌<◌, ◌^◌}
use Rattle.rules.specs.Numbers.{digits, digits_after}
use Rattle.rules.specs.Text.{cols}
use mathlib.Core.Path.{◌≡◌}
use Rattle.fields.proofs.numbers.digits.Given as goal

abbrev pub invariant-loop-c : goal.invariant-loop-c
invariant-loop-c l = record {
  small : l.v < 10 ^ (l.c - l.a);
  read : digits_after l.v (cols l.l l.c l.b) ≡ digits (cols l.l l.a l.b);
}
