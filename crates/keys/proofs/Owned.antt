-- The own bytes of lines that the form check has passed.
--   own_at           = columns in own bytes are the bytes of their characters
--   own_small        = they hold bytes, so own_wide = a name has 16 of them
--   number_own, index_own = a number and an index read by low halves are those that the field holds
--   same_own, less_own    = columns of two lines compare as their characters do, and stand in the medium's order
use Prim.Native.Nat.{ℕ, ◌<◌}
use mathlib.Core.Path.{◌≡◌, sym, ap, ap₂, subst, ◌∙◌}
use mathlib.Core.List.{List}
use Rattle.rules.specs.Text.{same, less}
use Rattle.rules.specs.Names.{ranked, same_name, less_name}
use Rattle.rules.specs.Kinds.{index, whole_number}
use Rattle.rules.specs.Layout.{Span, at}
use Rattle.rules.specs.Sheet.{Sheet}
use Rattle.rules.specs.Points.{number_of, index_at, name_of}
use Rattle.rules.specs.MeetsFields.{Reads}
use Rattle.rules.proofs.Medium.{cols_ranked}
use Rattle.lines.proofs.Sheets.{ranked_own}
use Rattle.fields.specs.Figures.{figures, low_index}
use Rattle.fields.specs.Texts.{Small, Wide}
use Rattle.fields.specs.Ranks.{Told}
use Rattle.fields.proofs.Ranked.{cols_small, cols_told, ranked_small, ranked_alike, ranked_whole, ranked_index}
use Rattle.form.specs.Known.{Columns, owned, Known}
use Rattle.form.proofs.Known.{long_at}

module _ (i : ℕ) (f : Sheet) (w : Known i f) (k : ℕ) (h : k < f.count) where
  pub own_at : (p : Span) → at (owned f k) p ≡ ranked f.rank (at (f.row k) p)
  unfolding at
  own_at p = ap (λ (l : List ℕ). at l p) (w.own k h) ∙ cols_ranked f.rank w.ranks.none (f.row k) p.first p.last

  pub own_small : Small (owned f k)
  own_small = subst Small (sym (w.own k h)) (ranked_small f.rank w.ranks (f.row k) (w.clean k h))

  pub own_wide : (p : Span) → Columns 16 p → Wide (name_of (owned f k) p)
  unfolding name_of
  own_wide p c = long_at (owned f k) own_small p 16 c

  pub number_own : (p : Span) (a b : ℕ) → Reads (whole_number a b) (at (f.row k) p) → figures (at (owned f k) p) ≡ number_of (f.row k) p
  unfolding number_of
  number_own p a b r = ap figures (own_at p) ∙ ranked_whole f.rank w.ranks a b (at (f.row k) p) r

  pub index_own : (p : Span) → Reads index (at (f.row k) p) → low_index (at (owned f k) p) ≡ index_at (f.row k) p
  unfolding index_at
  index_own p r = ap low_index (own_at p) ∙ ranked_index f.rank w.ranks (at (f.row k) p) r

  at_small : (p : Span) → Small (at (f.row k) p)
  unfolding at
  at_small p = cols_small (f.row k) p.first p.last (w.clean k h)

  at_told : (p : Span) → Told f.rank (at (f.row k) p)
  unfolding at
  at_told p = cols_told f.rank w.ranks (f.row k) p.first p.last (w.told k h)

-- two lines, of files that are read in one medium
module _ (i : ℕ) (f : Sheet) (w : Known i f) (j : ℕ) (g : j < f.count) (m : ℕ) (x : Sheet) (v : Known m x) (k : ℕ) (h : k < x.count)
    (e : f.rank ≡ x.rank) (p q : Span) where
  own_here : at (owned x k) q ≡ ranked f.rank (at (x.row k) q)
  own_here = own_at m x v k h q ∙ ap (λ (r : ℕ → ℕ). ranked r (at (x.row k) q)) (sym e)

  pub same_own : same (at (owned f j) p) (at (owned x k) q) ≡ same (at (f.row j) p) (at (x.row k) q)
  same_own =
      ap₂ same (own_at i f w j g p) own_here
      ∙ ranked_alike f.rank w.ranks (at (f.row j) p) (at (x.row k) q) (at_small i f w j g p) (at_told i f w j g p)
      (at_small m x v k h q) (subst (λ (r : ℕ → ℕ). Told r (at (x.row k) q)) (sym e) (at_told m x v k h q))

  pub names_own : same_name (name_of (owned f j) p) (name_of (owned x k) q) ≡ same_name (name_of (f.row j) p) (name_of (x.row k) q)
  unfolding same_name name_of
  names_own = same_own

  pub less_own : less_name (λ b. b) (name_of (owned f j) p) (name_of (owned x k) q) ≡ less_name f.rank (name_of (f.row j) p) (name_of (x.row k) q)
  unfolding less_name name_of
  less_own = ap₂ less (ranked_own (at (owned f j) p) ∙ own_at i f w j g p) (ranked_own (at (owned x k) q) ∙ own_here)
