-- A number's sign and size, as the code has them, and its signed value.
use Prim.Native.Nat.{ℕ, zero, suc, ◌^◌, ◌<◌}
use native.Mathlib.Omega.{arith}
use mathlib.Core.Path.{◌≡◌, sym, subst, ap, ◌∙◌}
use lib.IntN.{pos, neg_ℤ, ◌-ℤ◌, +ℤ_idl}
use mir.Syntax.{w64}
use mir.Val.{SFits, to_z, of_z}
use mir.ValLaws.{to_z_pos, to_z-of_z}
use Rattle.std.specs.Prelude.{Option, Some}
use Rattle.rules.specs.Numbers.{size, value}
use Rattle.fields.specs.Paper.{number}
use Rattle.fields.specs.declared.Number.{Number}
use Rattle.fields.specs.declared.Number.TheVariants.{Plus, Minus}

-- a number read, where it is n and n is plus or minus v
module _ (o : Option Number) (n : Number) (e : o ≡ Some n) (v m : ℕ) where
  pub size_plus : n ≡ Plus v → size (number o) < m → v < m
  unfolding size
  size_plus q h = subst (λ (o : Option Number). size (number o) < m) (e ∙ ap Some q) h

  pub size_minus : n ≡ Minus v → size (number o) < m → v < m
  unfolding size
  size_minus q h = subst (λ (o : Option Number). size (number o) < m) (e ∙ ap Some q) h

minus_fits : (v : ℕ) → v < 2 ^ 62 → SFits w64 (neg_ℤ (pos v))
minus_fits zero h = record { sfits = omega arith }
minus_fits (suc n) h = record { sfits = omega arith }

negated_is : (v : ℕ) → v < 2 ^ 62 → to_z w64 0 -ℤ to_z w64 v ≡ neg_ℤ (pos v)
negated_is v h = rw (to_z_pos w64 v (omega arith)) (+ℤ_idl (neg_ℤ (pos v)))

pub negated_fits : (v : ℕ) → v < 2 ^ 62 → SFits w64 (to_z w64 0 -ℤ to_z w64 v)
negated_fits v h = rw (negated_is v h) (minus_fits v h)

pub negated_back : (v : ℕ) → v < 2 ^ 62 → to_z w64 (of_z w64 (to_z w64 0 -ℤ to_z w64 v)) ≡ neg_ℤ (pos v)
negated_back v h = rw (negated_is v h) (to_z-of_z w64 _ (minus_fits v h))

-- the signed value of what was read
module _ (o : Option Number) (n : Number) (e : o ≡ Some n) (v : ℕ) (h : size (number o) < 2 ^ 62) where
  pub plus_value : n ≡ Plus v → to_z w64 v ≡ value (number o)
  unfolding value
  plus_value q =
      let g = size_plus o n e v (2 ^ 62) q h in
      to_z_pos w64 v (omega arith) ∙ sym (ap (λ (o : Option Number). value (number o)) (e ∙ ap Some q))

  pub minus_value : n ≡ Minus v → to_z w64 (of_z w64 (to_z w64 0 -ℤ to_z w64 v)) ≡ value (number o)
  unfolding value
  minus_value q = negated_back v (size_minus o n e v (2 ^ 62) q h) ∙ sym (ap (λ (o : Option Number). value (number o)) (e ∙ ap Some q))
