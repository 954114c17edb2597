-- Times and codes, from their columns.
use Prim.Native.Nat.{ℕ, ◌+◌, ◌-◌, ◌≤◌}
use native.Mathlib.Omega.{arith}
use mathlib.Core.Path.{◌≡◌, ap, ap₂, ◌∙◌}
use mathlib.Core.Bool.{Bool, true, false, ◌&&◌}
use mathlib.Core.List.{List, [], ◌∷◌}
use lib.ListN.{get_or, take, drop}
use Rattle.rules.specs.Text.{col, cols}
use Rattle.rules.specs.Numbers.{malformed, digits, whole as whole_of, decimal, then}
use Rattle.rules.specs.Places.{pick}
use Rattle.rules.specs.Kinds.{between, is_time, water}
use Rattle.rules.proofs.Sizes.{whole_small}
use Rattle.fields.proofs.Justified.{few}
use Rattle.rules.proofs.Columns.{cols_end, cols_step, cols_take, cols_drop}

module _ (l : List ℕ) (a : ℕ) (o : 1 ≤ a) where
  -- hours, minutes, seconds
  hours : take 2 (cols l a (a + 5)) ≡ cols l a (a + 1)
  hours = cols_take l a o (a + 5) 2 (omega arith) ∙ ap (cols l a) (let z : a + 2 - 1 ≡ a + 1 = omega arith in z)

  minutes : take 2 (drop 2 (cols l a (a + 5))) ≡ cols l (a + 2) (a + 3)
  minutes =
      ap (take 2) (cols_drop l a o (a + 5) 2 (omega arith)) ∙ cols_take l (a + 2) (omega arith) (a + 5) 2 (omega arith)
      ∙ ap (cols l (a + 2)) (let z : a + 2 + 2 - 1 ≡ a + 3 = omega arith in z)

  seconds : drop 4 (cols l a (a + 5)) ≡ cols l (a + 4) (a + 5)
  seconds = cols_drop l a o (a + 5) 4 (omega arith)

  abbrev hours_fit : Bool
  hours_fit = between 0 23 (digits (cols l a (a + 1)))

  abbrev minutes_fit : Bool
  minutes_fit = between 0 59 (digits (cols l (a + 2) (a + 3)))

  abbrev seconds_fit : Bool
  seconds_fit = between 0 59 (digits (cols l (a + 4) (a + 5)))

  pub time_is : is_time (cols l a (a + 5)) ≡ (hours_fit && (minutes_fit && seconds_fit))
  unfolding is_time
  time_is = rw (hours, minutes, seconds)

  -- the two columns of a code
  pub two_columns : cols l a (a + 1) ≡ get_or l (a - 1) 0 ∷ get_or l a 0 ∷ []
  two_columns =
      cols_step l a o (a + 1) (omega arith)
      ∙ ap (λ (r : List ℕ). get_or l (a - 1) 0 ∷ r)
      (cols_step l (a + 1) (omega arith) (a + 1) (omega arith)
      ∙ ap₂ ◌∷◌ (ap (λ (i : ℕ). get_or l i 0) (let z : a + 1 - 1 ≡ a = omega arith in z)) (cols_end l (a + 1 + 1) (omega arith) (a + 1) (omega arith)))

-- water depth, by the two ways to write it
module _ (bs : List ℕ) where
  pub water_tenths : between 0 999 (decimal whole_of bs) ≡ true → decimal whole_of bs ≡ water bs
  unfolding water pick
  water_tenths e = rw e

  module _ (n : between 0 999 (decimal whole_of bs) ≡ false) where
    pub water_metres : between 0 999 (whole_of bs) ≡ true → then (whole_of bs) 0 ≡ water bs
    unfolding water pick
    water_metres e = rw (n, e)

    pub water_none : between 0 999 (whole_of bs) ≡ false → malformed ≡ water bs
    unfolding water pick
    water_none e = rw (n, e)

-- the first column of a field
pub first_column : (l : List ℕ) (a b : ℕ) → 1 ≤ a → a ≤ b → col (cols l a b) 1 ≡ get_or l (a - 1) 0
unfolding col
first_column l a b o h = rw (cols_step l a o b h)

pub ruleset waters = (water_metres, water_none, water_tenths, few, whole_small)
