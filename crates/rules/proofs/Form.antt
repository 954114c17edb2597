-- The tests of refusals 4 to 6 say what `MeetsForm` has in words, and fail where its breaches are.
use Prim.Native.Nat.{ℕ, ◌+◌, ◌/◌, ◌%◌}
use native.Mathlib.Omega.{arith}
use mathlib.Core.Path.{◌≡◌, refl, sym, ap, ◌∙◌, subst}
use mathlib.Core.Logic.Iff
use mathlib.Core.Logic.{◌↔◌, ◌⊎◌, inl, inr, ⊎_elim}
use mathlib.Core.Bool.{Bool, true, false, not, ◌&&◌}
use mathlib.Core.List.{List, [], ◌∷◌, ◌++◌}
use lib.Dec.{eqb}
use Rattle.rules.specs.Places.{every}
use Rattle.rules.specs.Plan.{Refusal, №, file_x, Plan, need, when, ◌before◌}
use Rattle.rules.specs.Text.{col}
use Rattle.rules.specs.Kinds.{fits}
use Rattle.rules.specs.Layout.{Layout, letter_column, at}
use Rattle.rules.specs.Sheet.{Sheet}
use Rattle.rules.specs.Lines.{letter, is_header, is_marker, is_data, is_point}
use Rattle.rules.specs.Relations.{Reach}
use Rattle.rules.specs.Cover.{traces, receivers}
use Rattle.rules.specs.Rows.{Row, header_rows, point_rows, relation_rows}
use Rattle.rules.specs.Form.{rule4, rule5, rule6, fields_fit}
use Rattle.rules.specs.MeetsFields.{Reads}
use Rattle.rules.specs.MeetsForm.{Header, Marker, Data, Point, Rule4, Breach4, Checked, FieldsRead, FirstOf, Rule5, Breach5}
use Rattle.rules.specs.MeetsForm.{Counted, Miscounted}
use Rattle.rules.specs.Refuses.{By, InColumn}
use Rattle.rules.proofs.Tests.{says, clash, and_is, not_is, yes_no, eqb_is, leb_is}
use Rattle.rules.proofs.Contrary.{contrary, not_leb, not_pick, not_every}
use Rattle.rules.proofs.Breach.{Met, Broken}
use Rattle.rules.proofs.Fields.{kind_is}

pub header_is : (l : List ℕ) → (is_header l ≡ true) ↔ Header l
unfolding is_header
header_is l = simp says Iff.rfl

pub marker_is : (L : Layout) (l : List ℕ) → (is_marker L l ≡ true) ↔ Marker L l
unfolding is_marker
marker_is L l = simp says Iff.rfl

pub data_is : (f : Sheet) (k : ℕ) → (is_data f k ≡ true) ↔ Data f k
unfolding is_data
data_is f k = simp (not_is, header_is) Iff.rfl

-- a line is a header line or not
pub header_or : (f : Sheet) (k : ℕ) → (Data f k → ⊥) → Header (f.row k)
header_or f k n = (header_is _).0 (yes_no (is_header (f.row k)) (λ t. t) (λ t. absurd (n (λ h. t ((header_is _).1 h)))))

pub point_is : (f : Sheet) (k : ℕ) → (is_point f k ≡ true) ↔ Point f k
unfolding is_point
point_is f k = simp (and_is, not_is, data_is, marker_is) Iff.rfl

-- one test, and one where another passes
pub need_breaks : (t : Bool) (v : Refusal) {B : Type 0} → (t ≡ true → ⊥) ↔ B → (w : Refusal) → Broken w (need t v) ↔ By B v w
unfolding Broken
need_breaks t v e w = (λ b. (e.0 b.0, b.1), λ b. (e.1 b.0, b.1))

pub when_breaks : (s t : Bool) (v : Refusal) {A B : Type 0} → (s ≡ true) ↔ A → (t ≡ true → ⊥) ↔ B
    → (w : Refusal) → Broken w (when s (need t v)) ↔ By (A × B) v w
unfolding Broken
when_breaks s t v d e w = (λ b. ((d.0 b.0, e.0 b.1.0), b.1.1), λ b. (d.1 b.0.0, (e.1 b.0.1, b.1)))

-- 4
pub rule4_is : (i : ℕ) (f : Sheet) (k : ℕ) → Met (rule4 i f k) ↔ Rule4 i f k
unfolding rule4
rule4_is i f k = simp (says, header_is) Iff.rfl

pub rule4_breaks : (i : ℕ) (f : Sheet) (k : ℕ) (w : Refusal) → Broken w (rule4 i f k) ↔ By (Breach4 i f k) (№ 4 i (k + 1) letter_column) w
unfolding rule4
rule4_breaks i f k =
    let l = f.row k in
    let u = not_pick (is_header l) (every k (λ j. is_header (f.row j))) (eqb (col l letter_column) (letter i)) in
    let h = header_is l in
    let v = not_every k (λ j. is_header (f.row j)) in
    let d : (j : ℕ) → (is_header (f.row j) ≡ true → ⊥) ↔ Data f j = λ j. contrary (header_is (f.row j)) in
    let e = contrary (eqb_is (col l letter_column) (letter i)) in
    need_breaks _ _ (
      λ n. ⊎_elim (λ y. let z = v.0 y.1 in inl (h.0 y.0, (z.0, z.1, (d z.0).0 z.2))) (λ y. inr ((d k).0 y.0, e.0 y.1)) (u.0 n),
      λ b. u.1 (⊎_elim (λ y. inl (h.1 y.0, v.1 (y.1.0, y.1.1, (d _).1 y.1.2))) (λ y. inr ((d k).1 y.0, e.1 y.1)) b),
    )

-- 5
pub fields_are : (i k : ℕ) (m : Bool) (M : Type 0) → (m ≡ true) ↔ M → (l : List ℕ) (ws : List Row)
    → Met (fields_fit i k m l ws) ↔ FieldsRead M l ws
unfolding fields_fit
fields_are i k m M e l [] = Iff.rfl
fields_are i k m M e l (w ∷ ws) = simp (says, e, kind_is, fields_are i k m M e l ws) Iff.rfl

-- the first field that breaks its rule
module _ (i k : ℕ) (m : Bool) (M : Type 0) (e : (m ≡ true) ↔ M) (l : List ℕ) where
  checked_is : (v : Row) → (not (v.free_in_marker && m) ≡ true) ↔ Checked M v
  checked_is v = simp (says, e) Iff.rfl

  reads_not : (v : Row) → (fits v.kind (at l v.columns) ≡ true → ⊥) ↔ (Reads v.kind (at l v.columns) → ⊥)
  reads_not v = contrary (kind_is v.kind (at l v.columns))

  first_is : (v : Row) (vs left : List Row) (u : Row) (right : List Row) → v ∷ vs ≡ left ++ (u ∷ right) → FieldsRead M l left
      → Checked M u → (Reads u.kind (at l u.columns) → ⊥)
      → ((u ≡ v) × (Checked M v × (Reads v.kind (at l v.columns) → ⊥)))
      ⊎ ((Checked M v → Reads v.kind (at l v.columns)) × FirstOf M l vs u.columns.first)
  first_is v vs [] u right q f a n =
      let p : u ≡ v = cc in
      inl (p, (subst (Checked M) p a, subst (λ (y : Row). Reads y.kind (at l y.columns) → ⊥) p n))
  first_is v vs (y ∷ left) u right q f a n =
      let p : y ≡ v = cc in
      let g : vs ≡ left ++ (u ∷ right) = cc in
      inr (
        subst (λ (z : Row). Checked M z → Reads z.kind (at l z.columns)) p f.0,
        (left, u, right, g, f.1, a, n, refl),
      )

  none_first : (left : List Row) (u : Row) (right : List Row) → [] ≡ left ++ (u ∷ right) → ⊥
  none_first [] u right q = let z : ◌≡◌ {A = ℕ} 0 1 = cc in omega arith
  none_first (y ∷ left) u right q = let z : ◌≡◌ {A = ℕ} 0 1 = cc in omega arith

  pub fields_break : (ws : List Row) (w : Refusal) → Broken w (fields_fit i k m l ws) ↔ InColumn (FirstOf M l ws) (№ 5 i (k + 1)) w
  unfolding fields_fit Broken
  fields_break [] w = (λ b. absurd b, λ b. absurd (none_first b.1.0 b.1.1 b.1.2 b.1.3))
  fields_break (v ∷ vs) w =
      let ih = fields_break vs w in
      let a = checked_is v in
      let n = reads_not v in
      let y = kind_is v.kind (at l v.columns) in (
        λ b.
            ⊎_elim (λ u. (v.columns.first, ([], v, vs, refl, tt, a.0 u.0, n.0 u.1.0, refl), u.1.1))
            (λ u.
            let z = ih.0 u.1 in
            let f = z.1 in (
              z.0,
              (v ∷ f.0, f.1, f.2, ap (λ (r : List Row). v ∷ r) f.3, ((λ q. y.0 (u.0 (a.1 q))), f.4), f.5, f.6, f.7),
              z.2,
            ))
            b,
        λ b.
            let f = b.1 in
            ⊎_elim
            (λ u.
            let c : v.columns.first ≡ b.0 = ap (λ (r : Row). r.columns.first) (sym u.0) ∙ f.7 in
            inl (a.1 u.1.0, (n.1 u.1.1, ap (№ 5 i (k + 1)) c ∙ b.2)))
            (λ u.
            let c : (№ 5 i (k + 1) f.1.columns.first) ≡ w = ap (№ 5 i (k + 1)) f.7 ∙ b.2 in
            inr ((λ q. y.1 (u.0 (a.0 q))), ih.1 (f.1.columns.first, u.1, c)))
            (first_is v vs f.0 f.1 f.2 f.3 f.4 f.5 f.6),
      )

never : (false ≡ true) ↔ ⊥
never = (λ e. clash e, λ e. absurd e)

pub rule5_is : (i : ℕ) (L : Layout) (k : ℕ) (l : List ℕ) → Met (rule5 i L k l) ↔ Rule5 i L l
unfolding rule5
rule5_is i L k l =
    simp (
      fields_are i k false ⊥ never l (header_rows L),
      fields_are i k (is_marker L l) (Marker L l) (marker_is L l) l (point_rows L i),
      fields_are i k false ⊥ never l (relation_rows L),
      says,
      header_is,
    )
    Iff.rfl

pub rule5_breaks : (i : ℕ) (L : Layout) (k : ℕ) (l : List ℕ) (w : Refusal)
    → Broken w (rule5 i L k l) ↔ InColumn (Breach5 i L l) (№ 5 i (k + 1)) w
unfolding rule5 Broken
rule5_breaks i L k l w =
    let head = fields_break i k false ⊥ never l (header_rows L) w in
    let point = fields_break i k (is_marker L l) (Marker L l) (marker_is L l) l (point_rows L i) w in
    let relation = fields_break i k false ⊥ never l (relation_rows L) w in
    let h = header_is l in
    let p : (not (is_header l) && not (eqb i file_x) ≡ true) ↔ ((Header l → ⊥) × (i ≡ file_x → ⊥)) = simp (says, header_is) Iff.rfl in
    let x : (not (is_header l) && eqb i file_x ≡ true) ↔ ((Header l → ⊥) × (i ≡ file_x)) = simp (says, header_is) Iff.rfl in (
      λ b.
          ⊎_elim (λ u. let z = head.0 u.1 in (z.0, inl (h.0 u.0, z.1), z.2))
          (λ u.
          ⊎_elim (λ y. let z = point.0 y.1 in (z.0, inr (inl (p.0 y.0, z.1)), z.2))
          (λ y. let z = relation.0 y.1.1 in (z.0, inr (inr (x.0 y.1.0, z.1)), z.2))
          u.1)
          b,
      λ b.
          ⊎_elim (λ u. inl (h.1 u.0, head.1 (b.0, u.1, b.2)))
          (λ y.
          ⊎_elim
          (λ u. inr ((λ t. absurd (u.0.0 (h.0 t))), inl (p.1 u.0, point.1 (b.0, u.1, b.2))))
          (λ u.
          inr (
            (λ t. absurd (u.0.0 (h.0 t))),
            inr ((λ t. absurd ((p.0 t).1 u.0.1)), (x.1 u.0, relation.1 (b.0, u.1, b.2))),
          ))
          y)
          b.1,
    )

-- 6
pub rule6_is : (L : Layout) (k : ℕ) (q : Reach) → Met (rule6 L k q) ↔ Counted q
unfolding rule6
rule6_is L k q = simp says Iff.rfl

-- one test more before others, each with its column
module _ (t : Bool) {T F : Type 0} (y : (t ≡ true) ↔ T) (n : (t ≡ true → ⊥) ↔ F) (a : ℕ) (g : ℕ → Refusal) where
  pub last_breaks : (w : Refusal) → Broken w (need t (g a)) ↔ InColumn (λ c. F × (a ≡ c)) g w
  unfolding Broken
  last_breaks w = (λ b. (a, (n.0 b.0, refl), b.1), λ b. (n.1 b.1.0, ap g b.1.1 ∙ b.2))

  pub next_breaks : (p : Plan) (N : ℕ → Type 0) → ((w : Refusal) → Broken w p ↔ InColumn N g w)
      → (w : Refusal) → Broken w (need t (g a) before p) ↔ InColumn (λ c. (F × (a ≡ c)) ⊎ (T × N c)) g w
  unfolding Broken
  next_breaks p N e w = (
    λ b.
        ⊎_elim (λ u. (a, inl (n.0 u.0, refl), u.1)) (λ u. let z = (e w).0 u.1 in (z.0, inr (y.0 u.0, z.1), z.2)) b,
    λ b.
        ⊎_elim (λ u. inl (n.1 u.0, ap g u.1 ∙ b.2)) (λ u. inr (y.1 u.0, (e w).1 (b.0, u.1, b.2))) b.1,
  )

pub rule6_breaks : (L : Layout) (k : ℕ) (q : Reach) (w : Refusal)
    → Broken w (rule6 L k q) ↔ InColumn (Miscounted L q) (№ 6 file_x (k + 1)) w
unfolding rule6
rule6_breaks L k q =
    let g : ℕ → Refusal = № 6 file_x (k + 1) in
    let even = eqb_is (traces q % q.step) 0 in
    next_breaks _ (leb_is q.from q.upto) (not_leb q.from q.upto) _ g _ _
    (next_breaks _ even (contrary even) _ g _ _
    (last_breaks _ (eqb_is (traces q / q.step) (receivers q)) (contrary (eqb_is (traces q / q.step) (receivers q))) _ g))
