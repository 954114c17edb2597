-- A search by halves for the first place that passes, where all places behind one that passes do too.
--   Up m p             = they do
--   Bracket p m lo hi  = places below lo do not pass, and place hi does
use Prim.Native.Nat.{ℕ, ◌+◌, ◌-◌, ◌/◌, ◌≤◌, ◌<◌}
use native.Mathlib.Omega.{arith}
use mathlib.Core.Path.{◌≡◌, sym, ap, ◌∙◌}
use mathlib.Core.Bool.{Bool, true, false}
use Rattle.rules.specs.Places.{least}
use Rattle.rules.proofs.Tests.{clash}
use Rattle.rules.proofs.Least.{least_first, least_none}
use native.Mathlib.Decide.{dec_lt}

abbrev pub Up : ℕ → (ℕ → Bool) → Type 0
Up m p = (i j : ℕ) → i ≤ j → j < m → p i ≡ true → p j ≡ true

pub record Bracket (p : ℕ → Bool) (m low high : ℕ) : Type 0 where
  pub order : low ≤ high
  pub inside : high ≤ m
  pub below : (j : ℕ) → j < low → p j ≡ true → ⊥
  pub above : high < m → p high ≡ true

pub bracket_all : (p : ℕ → Bool) (m : ℕ) → Bracket p m 0 m
bracket_all p m =
    record { order = omega arith; inside = omega arith; below = λ j h. absurd (omega arith); above = λ h. absurd (omega arith) }

module _ (p : ℕ → Bool) (m low high : ℕ) (b : Bracket p m low high) where
  pub bracket_down : (t : Bool) → t ≡ p (low + (high - low) / 2) → t ≡ true → low < high → Bracket p m low (low + (high - low) / 2)
  bracket_down t e y l =
      record { order = omega arith; inside = omega (arith, b.inside); below = b.below; above = λ z. sym e ∙ y }

  pub bracket_up : Up m p → (t : Bool) → t ≡ p (low + (high - low) / 2) → t ≡ false → low < high
      → Bracket p m (low + (high - low) / 2 + 1) high
  bracket_up up t e y l =
      record {
        order = omega arith;
        inside = b.inside;
        below = λ j h z. clash (sym y ∙ e ∙ up j (low + (high - low) / 2) (omega arith) (omega (arith, b.inside)) z);
        above = b.above;
      }

  pub bracket_met : high ≤ low → low ≡ least m p
  bracket_met h = go (dec_lt low m)
    where
      same : high ≡ low
      same = omega (arith, b.order)

      go : Dec (low < m) → low ≡ least m p
      go (yes l) = sym (least_first m low p (l, ap p (sym same) ∙ b.above (omega (arith, same)), b.below))
      go (no l) =
          let z : low ≡ m = omega (arith, b.inside, b.order) in
          z ∙ sym (least_none m p (λ j g. b.below j (omega arith)))
