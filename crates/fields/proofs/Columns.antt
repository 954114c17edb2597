-- The columns of a line as a part of its bytes.
use Prim.Native.Nat.{ℕ, zero, suc, ◌+◌, ◌-◌, ◌≤◌, ◌<◌}
use native.Mathlib.Omega.{arith}
use mathlib.Core.Path.{◌≡◌, refl, ap, ◌∙◌}
use mathlib.Core.List.{List, [], ◌∷◌}
use lib.ListN.{length, take, drop}
use Rattle.std.proofs.Common.{length-drop}
use Rattle.rules.specs.Text.{front, cols}
use Rattle.rules.proofs.Columns.{cols_end}

front_is_take : (n : ℕ) (l : List ℕ) → n ≤ length l → take n l ≡ front n l
unfolding front
front_is_take zero l h = refl
front_is_take (suc n) [] h = absurd (omega arith)
front_is_take (suc n) (x ∷ xs) h = ap (λ (r : List ℕ). x ∷ r) (front_is_take n xs (omega arith))

module _ (l : List ℕ) (a b : ℕ) (o : 1 ≤ a) where
  pub part_is_cols : a ≤ b → b ≤ length l → take (b - (a - 1)) (drop (a - 1) l) ≡ cols l a b
  unfolding cols
  part_is_cols h g =
      front_is_take (b - (a - 1)) (drop (a - 1) l) (let n = length-drop (a - 1) l in omega arith)
      ∙ ap (λ (n : ℕ). front n (drop (a - 1) l)) (let z : b - (a - 1) ≡ b + 1 - a = omega arith in z)

  pub none_is_cols : b < a → ◌≡◌ {A = List ℕ} [] (cols l a b)
  none_is_cols h = rw (cols_end l a o b h)
