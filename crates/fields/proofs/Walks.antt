-- Walks over the columns of a field: each law takes an invariant's equation and what the column at hand says.
use Prim.Native.Nat.{ℕ, suc, ◌+◌, ◌-◌, ◌*◌, ◌^◌, ◌≤◌, ◌<◌}
use native.Mathlib.Nat.{pow-suc, one-le-pow, pow-le-pow_right, le_trans}
use native.Mathlib.Numerals.{add-one}
use native.Mathlib.Omega.{arith}
use mathlib.Core.Path.{◌≡◌, sym, ap, ◌∙◌}
use Rattle.std.specs.Prelude.{Option, None, Some}
use Rattle.std.specs.Char.{is_ascii_digit}
use mathlib.Core.Bool.{Bool, true, false, ◌&&◌}
use mathlib.Core.List.{List}
use lib.ListN.{get_or}
use Rattle.rules.proofs.Tests.{says}
use lib.Dec.{leb}
use borrow.Author.Tests.{eq-eqb, ne_eqb}
use Rattle.rules.specs.Places.{pick}
use Rattle.rules.specs.Text.{cols}
use Rattle.rules.specs.Numbers.{digit, Number, malformed, plus, digits_after, digits}
use Rattle.rules.proofs.Columns.{cols_end, cols_step}
use Rattle.fields.specs.Ink.{ink_from}
use Rattle.fields.specs.Packed.{packed_after}

-- the number that the digits of columns a to c - 1 make, and one digit more
pub none : (b a : ℕ) → 0 < b → 0 < b ^ (a - a)
none b a h = one-le-pow (a - a) b h

pub byte_more : {v d : ℕ} (a c : ℕ) → a ≤ c → v < 256 ^ (c - a) → d < 256 → 256 * v + d < 256 ^ (c + 1 - a)
byte_more a c h hv hd =
    let e : c + 1 - a ≡ suc (c - a) = omega arith in
    let p = pow-suc 256 (c - a) in
    rw e (omega arith)

pub eight : {v : ℕ} (i : ℕ) → v < 256 ^ i → i ≤ 7 → v < 256 ^ 7
eight i hv hi = le_trans hv (pow-le-pow_right (omega arith) hi)

pub grow : {v d : ℕ} (a c : ℕ) → a ≤ c → v < 10 ^ (c - a) → d ≤ 9 → 10 * v + d < 10 ^ (c + 1 - a)
grow a c h hv hd =
    let e : c + 1 - a ≡ suc (c - a) = omega arith in
    let p = pow-suc 10 (c - a) in
    rw e (omega arith)

pub cap : {v : ℕ} (i : ℕ) → v < 10 ^ i → i ≤ 16 → v < 10 ^ 16
cap i hv hi = le_trans hv (pow-le-pow_right (omega arith) hi)

module _ (l : List ℕ) (c b : ℕ) (o : 1 ≤ c) where
  module _ (X : Option ℕ) (e : ink_from c (cols l c b) ≡ X) where
    pub ink_end : b < c → None ≡ X
    unfolding ink_from
    ink_end h = (rw (cols_end l c o b h)) ∙ e

    module _ (h : c ≤ b) where
      pub ink_stop : (get_or l (c - 1) 0 ≡ 32 → ⊥) → Some c ≡ X
      unfolding ink_from pick
      ink_stop q = (rw (cols_step l c o b h, ne_eqb _ _ q)) ∙ e

      pub ink_step : get_or l (c - 1) 0 ≡ 32 → ink_from (c + 1) (cols l (c + 1) b) ≡ X
      unfolding ink_from pick
      ink_step q = ap (λ (m : ℕ). ink_from m (cols l (c + 1) b)) (add-one c) ∙ (rw (cols_step l c o b h, eq-eqb _ _ q)) ∙ e

  module _ (v : ℕ) (X : Number) (e : digits_after v (cols l c b) ≡ X) where
    pub digits_end : b < c → plus v ≡ X
    unfolding digits_after
    digits_end h = (rw (cols_end l c o b h)) ∙ e

    module _ (h : c ≤ b) (t : Bool) (q : t ≡ is_ascii_digit (get_or l (c - 1) 0)) where
      pub digits_stop : t ≡ false → malformed ≡ X
      unfolding digits_after digit pick
      digits_stop n = (rw (cols_step l c o b h, sym q ∙ n)) ∙ e

      pub digits_step : (d : ℕ) → t ≡ true → d ≡ get_or l (c - 1) 0 - 48 → digits_after (10 * v + d) (cols l (c + 1) b) ≡ X
      unfolding digits_after digit pick
      digits_step d y r = rw r ((rw (cols_step l c o b h, sym q ∙ y)) ∙ e)

pub digit_value : (b d : ℕ) (t : Bool) → t ≡ is_ascii_digit b → t ≡ true → d ≡ b - 48 → d ≤ 9
digit_value b d t q y r =
    let e : (leb 48 b && leb b 57) ≡ true = sym q ∙ y in
    let h = simp says at e in
    omega arith

pub digits_none : (l : List ℕ) (a b : ℕ) → 1 ≤ a → b < a → malformed ≡ digits (cols l a b)
unfolding digits
digits_none l a b o h = rw (cols_end l a o b h)

pub digits_some : (l : List ℕ) (a b : ℕ) → 1 ≤ a → a ≤ b → digits_after 0 (cols l a b) ≡ digits (cols l a b)
unfolding digits
digits_some l a b o h = rw (cols_step l a o b h)

-- columns as one number to the base 256
module _ (l : List ℕ) (c b : ℕ) (o : 1 ≤ c) (v X : ℕ) (e : packed_after v (cols l c b) ≡ X) where
  pub packed_end : b < c → v ≡ X
  unfolding packed_after
  packed_end h = (rw (cols_end l c o b h)) ∙ e

  pub packed_step : (d : ℕ) → c ≤ b → d ≡ get_or l (c - 1) 0 → packed_after (256 * v + d) (cols l (c + 1) b) ≡ X
  unfolding packed_after
  packed_step d h r = rw r ((rw (cols_step l c o b h)) ∙ e)

pub ruleset ink_walk = (ink_end, ink_step, ink_stop)

pub ruleset digits_walk = (none, digits_end, digits_none, digits_some)

pub ruleset packed_walk = (none, packed_end)
