-- What the code reads of a relation line.
--   reach_at_lem   = its reach
--   meets_is   = what it says of two lines is whether they meet
--   other_name = lines of other names do not
use Prim.Native.Nat.{ℕ, ◌+◌}
use mathlib.Core.Path.{◌≡◌, refl, sym, ap, ap₂, ◌∙◌}
use mathlib.Core.Bool.{Bool, false, ◌&&◌}
use mathlib.Core.List.{List}
use lib.Dec.{eqb}
use Rattle.rules.specs.Text.{cols}
use Rattle.rules.specs.Names.{text, same_name}
use Rattle.rules.specs.Layout.{Layout, Span, at, sps93}
use Rattle.rules.specs.Sheet.{Sheet}
use Rattle.rules.specs.Points.{name_of as name_in}
use Rattle.rules.specs.Relations.{Reach as PaperReach, reach, reach_at}
use Rattle.rules.specs.Cover.{meet}
use Rattle.lines.specs.declared.Reading.{Reading}
use Rattle.lines.specs.Reading.{sheet_of}
use Rattle.lines.proofs.Sheets.{layout_is}
use Rattle.fields.specs.declared.Name.{Name}
use Rattle.fields.specs.Packed.{name_of}
use Rattle.fields.proofs.Texts.{names_equal}
use Rattle.fields.specs.Texts.{Wide}
use Rattle.records.specs.Coded.{coded_reach}
use Rattle.records.specs.declared.relation.Reach.{Reach}
use Rattle.form.specs.Known.{owned, Known}
use Rattle.form.proofs.Known.{receiver_wide}
use Rattle.keys.specs.Held.{RelationLine}
use Rattle.keys.proofs.Owned.{own_wide, names_own}

pub reach_at_lem : (how : Reading) (x : List ℕ) (k : ℕ) (l : List ℕ) (q : Reach) → l ≡ (sheet_of how x).row k → q ≡ coded_reach (reach sps93 l)
    → q ≡ coded_reach (reach_at (sheet_of how x) k)
unfolding reach_at
reach_at_lem how x k l q e f = f ∙ rw (e, layout_is how x)

-- two relation lines: t is what the code says of their reaches, or of their names in own bytes
module _ (how : Reading) (f : List ℕ) (k j : ℕ) (w : Known 3 (sheet_of how f)) (u : RelationLine (sheet_of how f) k) (v : RelationLine (sheet_of how f) j)
    (t : Bool) where
  abbrev x : Sheet
  x = sheet_of how f

  pub meets_is : (p q : Reach) → p ≡ coded_reach (reach_at x k) → q ≡ coded_reach (reach_at x j)
      → ((a b : PaperReach) → p ≡ coded_reach a → q ≡ coded_reach b → Wide a.receiver → Wide b.receiver → t ≡ meet a b) → t ≡ meet (reach_at x k)
      (reach_at x j)
  meets_is p q a b h = h _ _ a b (receiver_wide 3 x w k u.0) (receiver_wide 3 x w j v.0)

  module _ (l m : List ℕ) (p q : Name) (a : l ≡ owned x k) (b : p ≡ name_of (text (cols l 48 (48 + 15)))) (c : m ≡ owned x j)
      (d : q ≡ name_of (text (cols m 48 (48 + 15)))) (s : t ≡ (eqb p.hi q.hi && eqb p.lo q.lo)) where
    abbrev z : Span
    z = x.layout.receiver

    own_name : (i : ℕ) (l : List ℕ) (n : Name) → l ≡ owned x i → n ≡ name_of (text (cols l 48 (48 + 15))) → n ≡ name_of (name_in (owned x i) z)
    unfolding name_in at sps93
    own_name i l n e g =
        g ∙ ap (λ (m : List ℕ). name_of (text (cols m 48 (48 + 15)))) e
        ∙ ap (λ (L : Layout). name_of (name_in (owned x i) L.receiver)) (sym (layout_is how f))

    same_names : same_name (name_in (owned x k) z) (name_in (owned x j) z) ≡ same_name (reach_at x k).receiver (reach_at x j).receiver
    unfolding reach_at reach
    same_names = names_own 3 x w k u.0 3 x w j v.0 refl z z

    one_name : t ≡ same_name (reach_at x k).receiver (reach_at x j).receiver
    one_name =
        s ∙ ap₂ (λ (m n : Name). eqb m.hi n.hi && eqb m.lo n.lo) (own_name k l p a b) (own_name j m q c d)
        ∙ names_equal _ _ (own_wide 3 x w k u.0 z w.shape.receiver) (own_wide 3 x w j v.0 z w.shape.receiver) ∙ same_names

    pub other_name : t ≡ false → false ≡ meet (reach_at x k) (reach_at x j)
    unfolding meet
    other_name n = rw (sym one_name ∙ n)
