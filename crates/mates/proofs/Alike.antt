-- One shot, record increment and instrument, as the code compares them.
use Prim.Native.Nat.{ℕ}
use mathlib.Core.List.{List}
use mathlib.Core.Path.{◌≡◌, refl, sym, ap, ap₂, ◌∙◌}
use mathlib.Core.Bool.{Bool, true, false, ◌&&◌}
use lib.Dec.{eqb}
use borrow.Author.Tests.{eq-eqb}
use Rattle.rules.specs.Text.{cols}
use Rattle.rules.specs.Names.{same_name}
use Rattle.rules.specs.Layout.{Layout, sps93}
use Rattle.rules.specs.Sheet.{Sheet}
use Rattle.rules.specs.Relations.{relation_at, reach_at}
use Rattle.rules.specs.Order.{same_shot}
use Rattle.lines.specs.declared.Reading.{Reading}
use Rattle.lines.specs.Reading.{sheet_of}
use Rattle.lines.proofs.Sheets.{layout_is}
use Rattle.fields.specs.Figures.{figures, low_index}
use Rattle.form.specs.Known.{owned, Known}
use Rattle.keys.specs.Compare.{same_key}
use Rattle.keys.specs.Keys.{shot_key}
use Rattle.keys.specs.Held.{RelationLine}
use Rattle.keys.specs.declared.Key.{Key}
use Rattle.keys.proofs.Read.{increment_at, instrument_at, from_at, upto_at}
use Rattle.keys.proofs.Points.{shots_same}
use Rattle.mates.specs.Records.{same_set}

regroup : (a b c d e : Bool) → (a && (b && (c && (d && e)))) ≡ ((a && (b && c)) && (d && e))
regroup true true c d e = refl
regroup true false c d e = refl
regroup false b c d e = refl

-- the key of the shot, and the rest
module _ (x : Sheet) (z : x.layout ≡ sps93) (w : Known 3 x) (k j : ℕ) (h : RelationLine x k) (g : RelationLine x j) where
  pub alike : same_shot (relation_at x k) (relation_at x j)
      ≡ (same_key (shot_key sps93 (owned x k)) (shot_key sps93 (owned x j)) && same_set (relation_at x k) (relation_at x j))
  unfolding same_shot same_set
  alike =
      let y = ap (λ (L : Layout). shot_key L (owned x k)) (sym z) in
      let i = ap (λ (L : Layout). shot_key L (owned x j)) (sym z) in
      let u = relation_at x k in
      let v = relation_at x j in
      rw (ap₂ same_key y i ∙ shots_same x w k h.0 h.1 j g.0 g.1)
      (regroup (same_name u.source v.source) (eqb u.shot v.shot) (eqb u.shot_index v.shot_index)
      (eqb u.increment v.increment) (eqb u.instrument v.instrument))

  pub same_key_lem : (a b : Key) → a ≡ shot_key sps93 (owned x k) → b ≡ shot_key sps93 (owned x j)
      → a.first ≡ b.first → a.second ≡ b.second → a.third ≡ b.third → (t : Bool) → t ≡ same_set (relation_at x k) (relation_at x j)
      → t ≡ same_shot (relation_at x k) (relation_at x j)
  unfolding same_key
  same_key_lem a b p q e f i t u = rw (u, alike, ← p, ← q, eq-eqb _ _ e, eq-eqb _ _ f, eq-eqb _ _ i) refl

-- the first and the last channel, in their columns
module _ (how : Reading) (f : List ℕ) (w : Known 3 (sheet_of how f)) (k : ℕ) (h : RelationLine (sheet_of how f) k) where
  pub from_here : (reach_at (sheet_of how f) k).from ≡ figures (cols (owned (sheet_of how f) k) 39 42)
  from_here = sym (from_at how f w k h _ refl)

  pub upto_here : (reach_at (sheet_of how f) k).upto ≡ figures (cols (owned (sheet_of how f) k) 43 46)
  upto_here = sym (upto_at how f w k h _ refl)

module _ (how : Reading) (f : List ℕ) (w : Known 3 (sheet_of how f)) (k j : ℕ)
    (h : RelationLine (sheet_of how f) k) (g : RelationLine (sheet_of how f) j) where
  abbrev x : Sheet
  x = sheet_of how f

  abbrev l : List ℕ
  l = owned x k

  abbrev m : List ℕ
  m = owned x j

  -- the increment and the instrument, in their columns
  pub sets_alike : same_set (relation_at x k) (relation_at x j)
      ≡ (eqb (low_index (cols l 12 12)) (low_index (cols m 12 12)) && eqb (low_index (cols l 13 13)) (low_index (cols m 13 13)))
  unfolding same_set
  sets_alike =
      rw (
        increment_at how f w k h l refl,
        increment_at how f w j g m refl,
        instrument_at how f w k h l refl,
        instrument_at how f w j g m refl,
      )

  -- the key of the shot, and the rest, in a file
  pub shots_alike : same_shot (relation_at x k) (relation_at x j)
      ≡ (same_key (shot_key sps93 l) (shot_key sps93 m) && same_set (relation_at x k) (relation_at x j))
  shots_alike = alike x (layout_is how f) w k j h g
