-- A field that stands in a line, from the test of it.
use Prim.Native.Nat.{ℕ}
use mathlib.Core.Path.{◌≡◌}
use mathlib.Core.Bool.{true}
use Rattle.rules.proofs.Tests.{says}
use Rattle.fields.specs.Paper.{sized, Sized}
use Rattle.fields.specs.declared.Kind.{Kind}

pub sized_is : (k : Kind) (a b : ℕ) → sized k a b ≡ true → Sized k a b
unfolding sized
sized_is k a b e = simp says at e
