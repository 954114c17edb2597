-- Whether a line has a key that is looked for.
--   holds_point = of a line that is a point exactly where t says so: t, and that its key is the one, where t is so
use Prim.Native.Nat.{ℕ}
use mathlib.Core.Path.{◌≡◌, refl, ap, ◌∙◌}
use mathlib.Core.Bool.{Bool, true, false, ◌&&◌, and-false, and-true}
use Rattle.rules.specs.Sheet.{Sheet}
use Rattle.keys.specs.Compare.{same_key}
use Rattle.keys.specs.Keyed.{takes_at, key_at, holds_key}
use Rattle.keys.specs.declared.By.{By}
use Rattle.keys.specs.declared.Key.{Key}

module _ (z : By) (f : Sheet) (y : Key) (k : ℕ) where
  pub holds_point : (t b : Bool) → takes_at z f k ≡ t → (t ≡ true → same_key (key_at z f k) y ≡ b) → holds_key z f y k ≡ (t && b)
  unfolding holds_key
  holds_point true b e g = ap (◌&&◌ (same_key (key_at z f k) y)) e ∙ and-true (same_key (key_at z f k) y) ∙ g refl
  holds_point false b e g = ap (◌&&◌ (same_key (key_at z f k) y)) e ∙ and-false (same_key (key_at z f k) y)
