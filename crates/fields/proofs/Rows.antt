-- The rows of the families decide what a code is: one row takes the two bytes exactly where they are a code of the file.
use Prim.Native.Nat.{ℕ}
use mathlib.Core.Path.{◌≡◌}
use mathlib.Core.Bool.{Bool, true, false, not, ◌&&◌, ◌||◌, and-true, and-false, or-true}
use mathlib.Core.List.{[], ◌∷◌}
use lib.Dec.{eqb}
use Rattle.std.specs.List.{list_any}
use Rattle.rules.specs.Places.{pick}
use Rattle.rules.specs.Text.{col, same, bytes, one_of}
use Rattle.rules.specs.Kinds.{digit1, family, is_code}
use Rattle.fields.specs.Families.{families, taken_by}

-- a row whose letter g stands in the file, before the rows of which x says the same; and one whose letter does not
taken : (g d x p k y : Bool) → x ≡ (p || (k || (y && d))) → ((g && d) || x) ≡ (p || (k || ((g || y) && d)))
taken true true x p k y e = rw (or-true k, or-true p)
taken true false x p k y e = rw (and-false y) at e
taken false d x p k y e = e

passed : (g x z : Bool) → x ≡ z → ((g && false) || x) ≡ z
passed g x z e = rw (and-false g) e

-- letters stand for whether the first byte is that letter, m and l for the second, d for a digit, i for whether the file is R
module _ (g h r v e a w s p m k l d : Bool) where
  last_two : ((p && m) || ((k && l) || false)) ≡ ((p && (m && true)) || ((k && (l && true)) || false))
  last_two = rw (and-true m, and-true l)

  rows : (i : Bool) → ((g && (i && d)) || ((h && (i && d)) || ((r && (i && d)) || ((v && (not i && d)) || ((e && (not i && d)) || ((a && (not i && d))
      || ((w && (not i && d)) || ((s && (not i && d)) || ((p && m) || ((k && l) || false))))))))))
      ≡ ((p && (m && true)) || ((k && (l && true)) || (pick i (g || (h || (r || false))) (v || (e || (a || (w || (s || false))))) && d)))
  unfolding pick
  rows true =
      taken g d _ _ _ _ (taken h d _ _ _ _ (taken r d _ _ _ _
      (passed v _ _ (passed e _ _ (passed a _ _ (passed w _ _ (passed s _ _ last_two)))))))
  rows false =
      passed g _ _ (passed h _ _ (passed r _ _
      (taken v d _ _ _ _ (taken e d _ _ _ _ (taken a d _ _ _ _ (taken w d _ _ _ _ (taken s d _ _ _ _ last_two)))))))

pub rows_decide : (i b d : ℕ) → list_any (taken_by i b d) families ≡ is_code i (b ∷ d ∷ [])
unfolding is_code family col same bytes one_of
rows_decide i b d =
    rows (eqb b 71) (eqb b 72) (eqb b 82) (eqb b 86) (eqb b 69) (eqb b 65) (eqb b 87) (eqb b 83) (eqb b 80) (eqb d 77) (eqb b 75) (eqb d 76) (digit1 d)
    (eqb i 1)
