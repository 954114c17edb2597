-- What the keys of receivers, shots and relation lines tell, in files that the form check has passed.
--   point_key, receiver_key_lem, asked_shot, asked_receiver = the keys by the values that the lines hold
--   points_same, receivers_same = two lines of one key hold one point; shots_same = two relation lines name one
--   shot_is, receiver_is        = a line of the key that a relation line asks for, in the same medium, holds the point that it names
--   points_above                = a receiver's key is below another's where the other stands above it
use Prim.Native.Nat.{ℕ, ◌+◌, ◌*◌, ◌<◌}
use native.Mathlib.Omega.{arith}
use mathlib.Core.Path.{◌≡◌, refl, ap, ap₂, ◌∙◌}
use mathlib.Core.Bool.{Bool, true, false, ◌&&◌, ◌||◌}
use lib.Dec.{eqb, ltb}
use Rattle.rules.specs.Plan.{file_x}
use Rattle.rules.specs.Layout.{Span, at}
use Rattle.rules.specs.Names.{same_name, less_name}
use Rattle.rules.specs.Sheet.{Sheet}
use Rattle.rules.specs.Lines.{is_data, is_point}
use Rattle.rules.specs.Points.{point, point_at, name_of, is_at, same_point}
use Rattle.rules.specs.Relations.{reach, reach_at, relation, relation_at}
use Rattle.rules.specs.Order.{above}
use Rattle.fields.specs.Texts.{Wide}
use Rattle.form.specs.Known.{owned, Known}
use Rattle.form.proofs.Known.{point_number, point_index, shot_index_lem}
use Rattle.keys.specs.Keys.{name_key, key_of, shot_key, receiver_key}
use Rattle.keys.specs.Keyed.{key_at}
use Rattle.keys.specs.Compare.{same_key, less_or}
use Rattle.keys.specs.declared.By.TheVariants.{Points, Receivers}
use Rattle.keys.proofs.Lines.{key_below}
use Rattle.keys.proofs.Owned.{own_wide, names_own, less_own}
use Rattle.keys.proofs.Passed.{number_read, index_read, shot_read, shot_index_read, receiver_index_read}
use Rattle.keys.proofs.Named.{named, by_number, by_index, number_first}

-- the keys of line k, by the values that it holds
module _ (i : ℕ) (f : Sheet) (w : Known i f) (n : i ≡ file_x → ⊥) (k : ℕ) (h : k < f.count) (p : is_point f k ≡ true) where
  pub point_key : key_at Points f k ≡ named (name_of (owned f k) f.layout.name) (256 * (point_at f k).number + (point_at f k).index)
  unfolding key_of name_of
  point_key =
      key_below f k h Points
      ∙ ap₂ (λ (m j : ℕ). name_key (at (owned f k) f.layout.name) (256 * m + j)) (number_read i f w n k h p) (index_read i f w n k h p)

  pub receiver_key_lem : key_at Receivers f k ≡ named (name_of (owned f k) f.layout.name) (4294967296 * (point_at f k).index + (point_at f k).number)
  unfolding key_of name_of
  receiver_key_lem =
      key_below f k h Receivers
      ∙ ap₂ (λ (m j : ℕ). name_key (at (owned f k) f.layout.name) (4294967296 * j + m)) (number_read i f w n k h p) (index_read i f w n k h p)

module _ (x : Sheet) (w : Known file_x x) (k : ℕ) (h : k < x.count) (d : is_data x k ≡ true) where
  pub asked_shot : shot_key x.layout (owned x k)
      ≡ named (name_of (owned x k) x.layout.source) (256 * (relation_at x k).shot + (relation_at x k).shot_index)
  unfolding shot_key name_of
  asked_shot =
      ap₂ (λ (m j : ℕ). name_key (at (owned x k) x.layout.source) (256 * m + j)) (shot_read x w k h d) (shot_index_read x w k h d)

  pub asked_receiver : (m : ℕ) → receiver_key x.layout (owned x k) m
      ≡ named (name_of (owned x k) x.layout.receiver) (4294967296 * (reach_at x k).receiver_index + m)
  unfolding receiver_key name_of
  asked_receiver m = ap (λ (j : ℕ). name_key (at (owned x k) x.layout.receiver) (4294967296 * j + m)) (receiver_index_read x w k h d)

module _ (x : Sheet) (w : Known file_x x) (j : ℕ) (g : j < x.count) (c : is_data x j ≡ true) (k : ℕ) (h : k < x.count) (d : is_data x k ≡ true) where
  sources : same_name (name_of (owned x j) x.layout.source) (name_of (owned x k) x.layout.source)
      ≡ same_name (relation_at x j).source (relation_at x k).source
  unfolding relation_at relation
  sources = names_own file_x x w j g file_x x w k h refl x.layout.source x.layout.source

  pub shots_same : same_key (shot_key x.layout (owned x j)) (shot_key x.layout (owned x k))
      ≡ (same_name (relation_at x j).source (relation_at x k).source
      && (eqb (relation_at x j).shot (relation_at x k).shot && eqb (relation_at x j).shot_index (relation_at x k).shot_index))
  shots_same =
      let u = relation_at x j in
      let v = relation_at x k in
      let p = x.layout.source in
      rw (asked_shot x w j g c, asked_shot x w k h d)
      (by_number (name_of (owned x j) p) (name_of (owned x k) p) (own_wide file_x x w j g p w.shape.source) (own_wide file_x x w k h p w.shape.source)
      u.shot u.shot_index v.shot v.shot_index (shot_index_lem file_x x w j g) (shot_index_lem file_x x w k h)
      ∙ ap (λ (t : Bool). t && (eqb u.shot v.shot && eqb u.shot_index v.shot_index)) sources)

module _ (i : ℕ) (f : Sheet) (w : Known i f) (n : i ≡ file_x → ⊥) (j : ℕ) (g : j < f.count) (q : is_point f j ≡ true) where
  abbrev a : Span
  a = f.layout.name

  wide : Wide (name_of (owned f j) a)
  wide = own_wide i f w j g a w.shape.name

  module _ (k : ℕ) (h : k < f.count) (p : is_point f k ≡ true) where
    other : Wide (name_of (owned f k) a)
    other = own_wide i f w k h a w.shape.name

    same_names : same_name (name_of (owned f j) a) (name_of (owned f k) a) ≡ same_name (point_at f j).name (point_at f k).name
    unfolding point_at point
    same_names = names_own i f w j g i f w k h refl a a

    less_names : less_name (λ b. b) (name_of (owned f j) a) (name_of (owned f k) a) ≡ less_name f.rank (point_at f j).name (point_at f k).name
    unfolding point_at point
    less_names = less_own i f w j g i f w k h refl a a

    pub points_same : same_key (key_at Points f j) (key_at Points f k) ≡ same_point (point_at f j) (point_at f k)
    unfolding same_point is_at
    points_same =
        let u = point_at f j in
        let v = point_at f k in
        rw (point_key i f w n j g q, point_key i f w n k h p)
        (by_number (name_of (owned f j) a) (name_of (owned f k) a) wide other u.number u.index v.number v.index (point_index i f w j g)
        (point_index i f w k h)
        ∙ ap (λ (t : Bool). t && (eqb u.number v.number && eqb u.index v.index)) same_names)

    pub receivers_same : same_key (key_at Receivers f j) (key_at Receivers f k) ≡ same_point (point_at f j) (point_at f k)
    unfolding same_point is_at
    receivers_same =
        let u = point_at f j in
        let v = point_at f k in
        let s = point_number i f w j g in
        let t = point_number i f w k h in
        rw (receiver_key_lem i f w n j g q, receiver_key_lem i f w n k h p)
        (by_index (name_of (owned f j) a) (name_of (owned f k) a) wide other u.number u.index v.number v.index (omega arith) (omega arith)
        ∙ ap (λ (t : Bool). t && (eqb u.number v.number && eqb u.index v.index)) same_names)

    pub points_above : less_or (key_at Points f j) (key_at Points f k) false ≡ above f.rank (point_at f k) (point_at f j)
    unfolding above
    points_above =
        let u = point_at f j in
        let v = point_at f k in
        let last : Bool = ltb u.number v.number || (eqb u.number v.number && ltb u.index v.index) in
        rw (point_key i f w n j g q, point_key i f w n k h p)
        (number_first (name_of (owned f j) a) (name_of (owned f k) a) wide other u.number u.index v.number v.index (point_index i f w j g)
        (point_index i f w k h)
        ∙ ap₂ (λ (s t : Bool). s || (t && last)) less_names same_names)

  module _ (x : Sheet) (v : Known file_x x) (e : f.rank ≡ x.rank) (k : ℕ) (h : k < x.count) (d : is_data x k ≡ true) where
    source_names : same_name (name_of (owned f j) a) (name_of (owned x k) x.layout.source) ≡ same_name (point_at f j).name (relation_at x k).source
    unfolding point_at point relation_at relation
    source_names = names_own i f w j g file_x x v k h e a x.layout.source

    receiver_names : same_name (name_of (owned f j) a) (name_of (owned x k) x.layout.receiver) ≡ same_name (point_at f j).name (reach_at x k).receiver
    unfolding point_at point reach_at reach
    receiver_names = names_own i f w j g file_x x v k h e a x.layout.receiver

    pub shot_is : same_key (key_at Points f j) (shot_key x.layout (owned x k))
        ≡ is_at (relation_at x k).source (relation_at x k).shot (relation_at x k).shot_index (point_at f j)
    unfolding is_at
    shot_is =
        let u = point_at f j in
        let y = relation_at x k in
        let b = x.layout.source in
        rw (point_key i f w n j g q, asked_shot x v k h d)
        (by_number (name_of (owned f j) a) (name_of (owned x k) b) wide (own_wide file_x x v k h b v.shape.source) u.number u.index y.shot
        y.shot_index (point_index i f w j g) (shot_index_lem file_x x v k h)
        ∙ ap (λ (t : Bool). t && (eqb u.number y.shot && eqb u.index y.shot_index)) source_names)

    pub receiver_is : (m : ℕ) → m < 4294967296
        → same_key (key_at Receivers f j) (receiver_key x.layout (owned x k) m)
        ≡ is_at (reach_at x k).receiver m (reach_at x k).receiver_index (point_at f j)
    unfolding is_at
    receiver_is m s =
        let u = point_at f j in
        let y = reach_at x k in
        let b = x.layout.receiver in
        let t = point_number i f w j g in
        rw (receiver_key_lem i f w n j g q, asked_receiver x v k h d m)
        (by_index (name_of (owned f j) a) (name_of (owned x k) b) wide (own_wide file_x x v k h b v.shape.receiver) u.number u.index m
        y.receiver_index (omega arith) s
        ∙ ap (λ (t : Bool). t && (eqb u.number m && eqb u.index y.receiver_index)) receiver_names)
