-- 10 of a line, by the last receiver before it.
use Prim.Native.Nat.{ℕ, ◌+◌, ◌<◌}
use native.Mathlib.Omega.{arith}
use mathlib.Core.Path.{◌≡◌, refl, sym, ap, ◌∙◌}
use mathlib.Core.Bool.{Bool, true, false}
use Rattle.std.specs.Prelude.{Option, Some, None}
use Rattle.rules.specs.Places.{of_last}
use Rattle.rules.specs.Plan.{fine, refused, №, run}
use Rattle.rules.specs.Layout.{Layout, sps93}
use Rattle.rules.specs.Sheet.{Sheet}
use Rattle.rules.specs.Lines.{is_point}
use Rattle.rules.specs.Points.{point_at}
use Rattle.rules.specs.Order.{above, rule10}
use Rattle.rules.proofs.Steps.{need_met, need_broken, when_on, when_off}
use Rattle.form.specs.Known.{Known}
use Rattle.keys.specs.Compare.{less_or}
use Rattle.keys.specs.Keyed.{key_at}
use Rattle.keys.specs.declared.By.TheVariants.{Points}
use Rattle.keys.proofs.Points.{points_above}
use Rattle.points.specs.Last.{last_point}
use Rattle.points.proofs.Last.{last_is}

module _ (r : Sheet) (k : ℕ) where
  pub ten_other : is_point r k ≡ false → fine ≡ run (rule10 r k)
  unfolding rule10
  ten_other z = when_off _ _ z

  -- the last one stands below line k, if there is one
  abbrev pub passes : Option ℕ → Bool
  passes None = true
  passes (Some j) = less_or (key_at Points r j) (key_at Points r k) false

  module _ (w : Known 1 r) (h : k < r.count) (p : is_point r k ≡ true) where
    tested : of_last (is_point r) (λ j. above r.rank (point_at r k) (point_at r j)) k ≡ passes (last_point r k)
    unfolding last_point
    tested = last_is (is_point r) _ (λ j. j) passes refl k (λ j l e. points_above 1 r w (λ q. omega arith) j (omega arith) e k h p)

    pub ten_above : passes (last_point r k) ≡ true → run (rule10 r k) ≡ fine
    unfolding rule10
    ten_above y = sym (need_met _ _ (tested ∙ y) ∙ when_on _ _ p)

    pub ten_broken : passes (last_point r k) ≡ false → r.layout ≡ sps93 → run (rule10 r k) ≡ refused (№ 10 1 (k + 1) 2)
    unfolding rule10 sps93
    ten_broken y s = rw (← (ap (λ (L : Layout). L.name.first) s)) (sym (need_broken _ _ (tested ∙ y) ∙ when_on _ _ p))
