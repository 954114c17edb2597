-- Keys as one number.
--   less_value   = one is below another where its number is
--   pair_more    = a last digit that is d more makes a number that is d more
use Prim.Native.Nat.{ℕ, ◌+◌}
use native.Mathlib.Omega.{arith}
use mathlib.Core.Path.{◌≡◌, sym, ◌∙◌}
use mathlib.Core.Bool.{false}
use lib.Dec.{eqb, ltb}
use Rattle.fields.proofs.Pairs.{or_never}
use Rattle.keys.specs.declared.Key.{Key}
use Rattle.keys.specs.Compare.{less_or}
use Rattle.order.specs.Sorted.{pair, value}
use Rattle.order.proofs.Ranks.{Digits, less_test}

pub pair_more : (n x a u d : ℕ) → pair n x (a + (u + d)) ≡ pair n x (a + u) + d
unfolding pair
pair_more n x a u d = omega arith

pub less_value : (a b : Key) → Digits a → Digits b → less_or a b false ≡ ltb (value a) (value b)
less_value a b s t = less_test a b s t false ∙ sym (or_never (ltb (value a) (value b)) (eqb (value a) (value b)))
