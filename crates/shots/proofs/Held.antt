-- Whether a line holds a shot, or names one, by its key.
--   key_shot            = a line of S with the key of relation line k's shot holds that shot; held_at = the same, as the code has the key
use Prim.Native.Nat.{ℕ, ◌≤◌, ◌<◌}
use native.Mathlib.Omega.{arith}
use lib.Dec.{eqb}
use borrow.Author.Tests.{eqb-true, eq-eqb}
use mathlib.Core.Path.{◌≡◌, sym, ap, ◌∙◌}
use mathlib.Core.Bool.{Bool, true, not, ◌&&◌, and-true}
use mathlib.Core.List.{List}
use Rattle.rules.specs.Layout.{Layout, sps93}
use Rattle.rules.specs.Sheet.{Sheet, most_lines}
use Rattle.rules.specs.Lines.{is_data, is_point}
use Rattle.rules.specs.Points.{point_at, is_killed}
use Rattle.rules.specs.Relations.{relation_at}
use Rattle.rules.specs.Order.{is_point_at, is_live, is_shot_of}
use Rattle.rules.proofs.Tests.{agree, and_is}
use Rattle.lines.specs.Reading.{sheet_of}
use Rattle.lines.specs.declared.Reading.{Reading}
use Rattle.lines.proofs.Sheets.{layout_is, rank_same}
use Rattle.form.specs.Known.{owned, Known}
use Rattle.keys.specs.Held.{RelationLine, KnownShots}
use Rattle.keys.specs.Compare.{same_key}
use Rattle.keys.specs.Keys.{shot_key}
use Rattle.keys.specs.Keyed.{key_at, takes_at, holds_key}
use Rattle.keys.specs.declared.By.TheVariants.{Points}
use Rattle.keys.specs.declared.Key.{Key}
use Rattle.keys.proofs.Lines.{takes_point}
use Rattle.keys.proofs.Held.{holds_point}
use Rattle.keys.proofs.Points.{shot_is}
use Rattle.shots.specs.Places.{is_shot, names_key}

module _ (s x : Sheet) (ws : Known 2 s) (wx : Known 3 x) (e : s.rank ≡ x.rank) (k : ℕ) (h : k < x.count) (d : is_data x k ≡ true) (j : ℕ)
    (g : j < s.count) where
  key_point : holds_key Points s (shot_key x.layout (owned x k)) j
      ≡ is_point_at s (relation_at x k).source (relation_at x k).shot (relation_at x k).shot_index j
  unfolding is_point_at
  key_point = holds_point Points s _ j (is_point s j) _ (takes_point s j g) (λ p. shot_is 2 s ws two j g p x wx e k h d)
    where
      two : ◌≡◌ {A = ℕ} 2 3 → ⊥
      two e = absurd (omega arith)

  pub key_shot : (holds_key Points s (shot_key x.layout (owned x k)) j && not (is_killed (point_at s j))) ≡ is_shot s x k j
  unfolding is_shot is_shot_of
  key_shot = ap (λ (t : Bool). t && not (is_killed (point_at s j))) key_point

pub held_at : (how : Reading) (s x : List ℕ) → Known 2 (sheet_of how s) → Known 3 (sheet_of how x) → (k : ℕ) → RelationLine (sheet_of how x) k
    → (y : Key) → y ≡ shot_key sps93 (owned (sheet_of how x) k) → (j : ℕ) → j < (sheet_of how s).count
    → (holds_key Points (sheet_of how s) y j && not (is_killed (point_at (sheet_of how s) j))) ≡ is_shot (sheet_of how s) (sheet_of how x) k j
held_at how s x ws wx k r y e j g =
    ap (λ (y : Key). holds_key Points (sheet_of how s) y j && not (is_killed (point_at (sheet_of how s) j)))
    (e ∙ ap (λ (L : Layout). shot_key L (owned (sheet_of how x) k)) (sym (layout_is how x)))
    ∙ key_shot (sheet_of how s) (sheet_of how x) ws wx (rank_same how s x) k r.0 r.1 j g

-- a receiver or a shot, as the code has it
pub is_point_lem : (how : Reading) (f : List ℕ) (k : ℕ) → k < (sheet_of how f).count → (t : Bool) → t ≡ takes_at Points (sheet_of how f) k
    → t ≡ is_point (sheet_of how f) k
is_point_lem how f k h t e = e ∙ takes_point (sheet_of how f) k h

-- the column of 13 and 14, and that a line can be numbered
pub source_column : (how : Reading) (x : List ℕ) → 14 ≡ (sheet_of how x).layout.source.first
unfolding sps93
source_column how x = ap (λ (L : Layout). L.source.first) (sym (layout_is how x))

pub line_small : {n : ℕ} (k : ℕ) → n ≤ most_lines → k < n → k < 4294967295
unfolding most_lines
line_small k h g = omega arith

sym_same : (a b : Key) → same_key a b ≡ same_key b a
unfolding same_key
sym_same a b = rw (sym_eqb a.first b.first, sym_eqb a.second b.second, sym_eqb a.third b.third)
  where
    sym_eqb : (m n : ℕ) → eqb m n ≡ eqb n m
    sym_eqb m n = agree _ _ (λ t. eq-eqb n m (sym (eqb-true m n t))) (λ t. eq-eqb m n (sym (eqb-true n m t)))

-- a relation line names the shot in line k exactly where that is its shot's line
module _ (s x : Sheet) (ws : KnownShots s) (wx : Known 3 x) (e : s.rank ≡ x.rank) (k : ℕ) (h : k < s.count) (live : is_live s k ≡ true) where
  p : is_point s k ≡ true
  unfolding is_live
  p = ((and_is (is_point s k) _).0 live).0

  alive : not (is_killed (point_at s k)) ≡ true
  unfolding is_live
  alive = ((and_is (is_point s k) _).0 live).1

  pub names_shot : (i : ℕ) → i < x.count → is_data x i ≡ true → names_key x (key_at Points s k) i ≡ is_shot s x i k
  unfolding names_key is_shot is_shot_of is_point_at
  names_shot i g d =
      sym_same (shot_key x.layout (owned x i)) (key_at Points s k) ∙ shot_is 2 s ws.0 two k h p x wx e i g d ∙ sym (rw (p, alive) (and-true _))
    where
      two : ◌≡◌ {A = ℕ} 2 3 → ⊥
      two e = absurd (omega arith)
