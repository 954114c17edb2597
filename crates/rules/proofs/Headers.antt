-- The tests of refusals 7, 8 and 9 say what `MeetsHeaders` has in words, and fail where its breaches are.
use Prim.Native.Nat.{ℕ, suc, ◌+◌, ◌≤◌, ◌<◌, min}
use native.Mathlib.Omega.{arith}
use mathlib.Core.Path.{◌≡◌, refl, sym, ap, ◌∙◌, subst}
use mathlib.Core.Logic.Iff
use mathlib.Core.Logic.{◌↔◌, ◌⊎◌, inl, inr, ⊎_elim}
use mathlib.Core.Bool.{Bool, true, not, ◌&&◌}
use mathlib.Core.List.{List, [], ◌∷◌, ◌++◌}
use lib.Dec.{eqb, ltb}
use lib.ListN.{length}
use borrow.Author.Tests.{eqb-true, eq-eqb, ltb-true, lt-ltb}
use Rattle.rules.specs.Places.{some}
use Rattle.rules.specs.Plan.{Refusal, №, file_r}
use Rattle.rules.specs.Text.{same, bytes}
use Rattle.rules.specs.Layout.{Layout}
use Rattle.rules.specs.Sheet.{Sheet}
use Rattle.rules.specs.Lines.{is_data, heads}
use Rattle.rules.specs.Headers.{is_type, projection, rule7, rule8, rule9, same_columns}
use Rattle.rules.specs.MeetsForm.{Data}
use Rattle.rules.specs.MeetsHeaders.{InHeader, Heads, OfType, Projected, Names, Rule7, Breach7, Rule8, Breach8, Parts, Differ, Rule9, Breach9}
use Rattle.rules.specs.Refuses.{By, InColumn}
use Rattle.rules.proofs.Tests.{says, clash, same_is, yes_no}
use Rattle.rules.proofs.Contrary.{not_and, not_not, not_every}
use Rattle.rules.proofs.Least.{least_is, least_first, least_none, least_below}
use Rattle.rules.proofs.Breach.{Met, Broken}
use Rattle.rules.proofs.Fields.{blank_is}
use Rattle.rules.proofs.Form.{data_is, header_or}
use Rattle.rules.proofs.Projection.{projection_is, projection_one}

-- the header lines are those that stand first
pub heads_are : (f : Sheet) (k : ℕ) → k < heads f → Data f k → ⊥
unfolding heads
heads_are f k h d =
    ⊎_elim (λ w. w.2 k h ((data_is f k).1 d)) (λ w. let e = w.0 in w.1 k (omega arith) ((data_is f k).1 d)) (least_is f.count (is_data f))

pub heads_end : (f : Sheet) → heads f < f.count → Data f (heads f)
unfolding heads
heads_end f h = ⊎_elim (λ w. (data_is f _).0 w.1) (λ w. let e = w.0 in absurd (omega arith)) (least_is f.count (is_data f))

pub heads_few : (f : Sheet) → heads f ≤ f.count
unfolding heads
heads_few f = least_below f.count (is_data f)

pub heads_is : (f : Sheet) → Heads f (heads f)
heads_is f = (heads_few f, ((λ j h. header_or f j (heads_are f j h)), heads_end f))

pub heads_one : (f : Sheet) (h : ℕ) → Heads f h → heads f ≡ h
unfolding heads
heads_one f h w =
    yes_no (ltb h f.count)
    (λ t.
    let l = ltb-true _ _ t in
    least_first _ h _ (l, (data_is f h).1 (w.1.1 l), λ j g u. (data_is f j).0 u (w.1.0 j g)))
    (λ t.
    let n : h < f.count → ⊥ = λ l. t (lt-ltb _ _ l) in
    let a = w.0 in
    let e : h ≡ f.count = omega arith in
    least_none _ _ (λ j g u. (data_is f j).0 u (w.1.0 j (omega arith))) ∙ sym e)

pub in_header : (f : Sheet) (k : ℕ) → (k < heads f) ↔ InHeader f k
in_header f k =
    let few = heads_few f in (
      λ h. (omega arith, λ j l. header_or f j (heads_are f j (omega arith))),
      λ w.
          let n : heads f ≤ k → ⊥ = λ l. let h = w.0 in heads_end f (omega arith) (w.1 (heads f) l) in
          omega arith,
    )

-- 7
pub type_is : (L : Layout) (t : ℕ) (l : List ℕ) → (is_type L t l ≡ true) ↔ OfType L t l
unfolding is_type
type_is L t l = simp (says, blank_is) Iff.rfl

type_there : (r : Sheet) (t : ℕ)
    → (some (heads r) (λ k. is_type r.layout t (r.row k)) ≡ true) ↔ ((k : ℕ) × InHeader r k × OfType r.layout t (r.row k))
type_there r t = simp (says, type_is, in_header) Iff.rfl

pub rule7_is : (r : Sheet) → Met (rule7 r) ↔ Rule7 r
unfolding rule7
rule7_is r = simp (says, type_is, in_header) Iff.rfl

pub rule7_breaks : (r : Sheet) (w : Refusal) → Broken w (rule7 r) ↔ ((h : ℕ) × Heads r h × By (Breach7 r) (№ 7 file_r (h + 1) 0) w)
unfolding rule7 Broken
rule7_breaks r w =
    let e = not_every 21 (λ t. some (heads r) (λ k. is_type r.layout t (r.row k))) in (
      λ b.
          let v = e.0 b.0 in
          (heads r, heads_is r, ((v.0, v.1, λ k i o. v.2 ((type_there r v.0).1 (k, i, o))), b.1)),
      λ b.
          let v = b.2.0 in
          let q = heads_one r b.0 b.1 in (
            e.1 (v.0, v.1, λ t. let y = (type_there r v.0).0 t in v.2 y.0 y.1 y.2),
            ap (λ (h : ℕ). № 7 file_r (h + 1) 0) q ∙ b.2.1,
          ),
    )

-- 8
module _ (L : Layout) (l : List ℕ) where
  abbrev named : Bool
  named = not (same (projection L l) []) && not (same (projection L l) (bytes "N/A"))

  names_is : (named ≡ true) ↔ ((p : List ℕ) → Projected L l p → Names p)
  names_is =
      let b : (named ≡ true) ↔ Names (projection L l) = simp says Iff.rfl in
      (λ e p w. subst Names (projection_one L l p w) (b.0 e), λ f. b.1 (f (projection L l) (projection_is L l)))

  unnamed_is : (named ≡ true → ⊥) ↔ ((p : List ℕ) × Projected L l p × ((p ≡ []) ⊎ (p ≡ bytes "N/A")))
  unnamed_is =
      let b = not_and (not (same (projection L l) [])) (not (same (projection L l) (bytes "N/A"))) in
      let c = not_not (same (projection L l) []) in
      let d = not_not (same (projection L l) (bytes "N/A")) in (
        λ n.
            (projection L l, projection_is L l, ⊎_elim (λ t. inl ((same_is _ _).0 (c.0 t))) (λ t. inr ((same_is _ _).0 (d.0 t))) (b.0 n)),
        λ w.
            let q = projection_one L l w.0 w.1 in
            b.1 (⊎_elim (λ t. inl (c.1 ((same_is _ _).1 (q ∙ t)))) (λ t. inr (d.1 ((same_is _ _).1 (q ∙ t)))) w.2),
      )

pub rule8_is : (r : Sheet) (k : ℕ) → k < heads r → Met (rule8 r k) ↔ Rule8 r k
unfolding rule8
rule8_is r k h =
    let t = type_is r.layout 18 (r.row k) in
    let n = names_is r.layout (r.row k) in
    (λ m i o. n.0 (m (t.1 o)), λ g e. n.1 (g ((in_header r k).0 h) (t.0 e)))

pub rule8_breaks : (r : Sheet) (k : ℕ) → k < heads r → (w : Refusal)
    → Broken w (rule8 r k) ↔ By (Breach8 r k) (№ 8 file_r (k + 1) r.layout.header_text.first) w
unfolding rule8 Broken
rule8_breaks r k h w =
    let t = type_is r.layout 18 (r.row k) in
    let n = unnamed_is r.layout (r.row k) in (
      λ b. (((in_header r k).0 h, t.0 b.0, n.0 b.1.0), b.1.1),
      λ b. (t.1 b.0.1, (n.1 b.0.2, b.1)),
    )

-- 9
columns_are : (i k c : ℕ) (bs ds : List ℕ) → Met (same_columns i k c bs ds) ↔ (bs ≡ ds)
unfolding same_columns
columns_are i k c [] [] = (λ m. refl, λ e. tt)
columns_are i k c [] (d ∷ ds) = (λ m. clash m, λ e. let z : ◌≡◌ {A = ℕ} 0 1 = cc in absurd (omega arith))
columns_are i k c (b ∷ bs) [] = (λ m. clash m, λ e. let z : ◌≡◌ {A = ℕ} 0 1 = cc in absurd (omega arith))
columns_are i k c (b ∷ bs) (d ∷ ds) =
    let ih = columns_are i k (suc c) bs ds in (
      λ m. let p = eqb-true b d m.0 in let q = ih.0 m.1 in cc,
      λ e.
          let p : b ≡ d = cc in
          let q : bs ≡ ds = cc in
          (eq-eqb b d p, ih.1 q),
    )

-- two lines part after the columns p
abbrev Apart : List ℕ → List ℕ → List ℕ → Type 0
Apart bs ds p = (u v : List ℕ) × (bs ≡ p ++ u) × (ds ≡ p ++ v) × Parts u v

apart_here : (bs ds : List ℕ) → Apart bs ds [] ↔ Parts bs ds
apart_here bs ds = (
  λ w. subst (λ (u : List ℕ). Parts u ds) (sym w.2) (subst (λ (v : List ℕ). Parts w.0 v) (sym w.3) w.4),
  λ w. (bs, ds, refl, refl, w),
)

none_apart : (bs ds : List ℕ) (x : ℕ) (p : List ℕ) → ((b : ℕ) (q r : List ℕ) → bs ≡ b ∷ q → ds ≡ b ∷ r → ⊥) → Apart bs ds (x ∷ p) → ⊥
none_apart bs ds x p n w = n x (p ++ w.0) (p ++ w.1) w.2 w.3

columns_break : (i k c : ℕ) (bs ds : List ℕ) (w : Refusal)
    → Broken w (same_columns i k c bs ds) ↔ ((p : List ℕ) × Apart bs ds p × (№ 9 i (k + 1) (c + length p) ≡ w))
unfolding same_columns Broken
columns_break i k c bs ds w = (forth c bs ds, λ v. back c bs ds v.0 v.1 v.2)
  where
    at : ℕ → Refusal
    at = № 9 i (k + 1)

    here : (c : ℕ) → at (c + 0) ≡ at c
    here c = ap at (let z : c + 0 ≡ c = omega arith in z)

    next : (c : ℕ) (b : ℕ) (p : List ℕ) → at (c + length (b ∷ p)) ≡ at (suc c + length p)
    next c b p = ap at (let z : c + length (b ∷ p) ≡ suc c + length p = omega arith in z)

    forth : (c : ℕ) (bs ds : List ℕ) → Broken w (same_columns i k c bs ds) → (p : List ℕ) × Apart bs ds p × (at (c + length p) ≡ w)
    forth c [] [] b = absurd b
    forth c [] (d ∷ ds) b = ([], (apart_here [] (d ∷ ds)).1 tt, here c ∙ b.1)
    forth c (x ∷ bs) [] b = ([], (apart_here (x ∷ bs) []).1 tt, here c ∙ b.1)
    forth c (x ∷ bs) (d ∷ ds) b =
        ⊎_elim (λ u. ([], (apart_here (x ∷ bs) (d ∷ ds)).1 (λ e. u.0 (eq-eqb x d e)), here c ∙ u.1))
        (λ u.
        let v = forth (suc c) bs ds u.1 in
        let e = eqb-true x d u.0 in
        let y = v.1 in
        let f = y.2 in
        let g = y.3 in
        (x ∷ v.0, (y.0, y.1, (cc), (cc), y.4), next c x v.0 ∙ v.2))
        b

    back : (c : ℕ) (bs ds : List ℕ) (p : List ℕ) → Apart bs ds p → at (c + length p) ≡ w → Broken w (same_columns i k c bs ds)
    back c [] [] [] v e = absurd ((apart_here [] []).0 v)
    back c [] (d ∷ ds) [] v e = ((λ t. clash t), sym (here c) ∙ e)
    back c (x ∷ bs) [] [] v e = ((λ t. clash t), sym (here c) ∙ e)
    back c (x ∷ bs) (d ∷ ds) [] v e =
        inl ((λ t. (apart_here (x ∷ bs) (d ∷ ds)).0 v (eqb-true x d t)), sym (here c) ∙ e)
    back c [] [] (y ∷ p) v e = absurd (none_apart [] [] y p (λ b q r f g. let z : ◌≡◌ {A = ℕ} 0 1 = cc in omega arith) v)
    back c [] (d ∷ ds) (y ∷ p) v e = absurd (none_apart [] (d ∷ ds) y p (λ b q r f g. let z : ◌≡◌ {A = ℕ} 0 1 = cc in omega arith) v)
    back c (x ∷ bs) [] (y ∷ p) v e = absurd (none_apart (x ∷ bs) [] y p (λ b q r f g. let z : ◌≡◌ {A = ℕ} 0 1 = cc in omega arith) v)
    back c (x ∷ bs) (d ∷ ds) (y ∷ p) v e =
        let f = v.2 in
        let g = v.3 in
        let ex : x ≡ y = cc in
        let ed : d ≡ y = cc in
        let eb : bs ≡ p ++ v.0 = cc in
        let es : ds ≡ p ++ v.1 = cc in
        inr (eq-eqb x d (ex ∙ sym ed), back (suc c) bs ds p (v.0, v.1, eb, es, v.4) (sym (next c y p) ∙ e))

pub rule9_is : (i : ℕ) (r f : Sheet) → Met (rule9 i r f) ↔ Rule9 r f
unfolding rule9
rule9_is i r f = (
  λ m.
      let e : heads r ≡ heads f = eqb-true (heads r) (heads f) m.1 in
      (heads r, heads_is r, subst (Heads f) (sym e) (heads_is f), λ k h. (columns_are i k 1 _ _).0 (m.0 k (omega arith))),
  λ w.
      let a = heads_one r w.0 w.1 in
      let b = heads_one f w.0 w.2 in
      ((λ k h. (columns_are i k 1 _ _).1 (w.3 k (omega arith))), eq-eqb (heads r) (heads f) (a ∙ sym b)),
)

pub rule9_breaks : (i : ℕ) (r f : Sheet) (w : Refusal)
    → Broken w (rule9 i r f) ↔ ((k : ℕ) × InColumn (Breach9 r f k) (№ 9 i (k + 1)) w)
unfolding rule9 Broken
rule9_breaks i r f w = (λ b. ⊎_elim differs ends b, λ b. back b.0 b.1.0 b.1.1 b.1.2)
  where
    n : ℕ
    n = min (heads r) (heads f)

    rows : (k : ℕ) → ((j : ℕ) → j < k → Met (same_columns i j 1 (r.row j) (f.row j))) ↔ ((j : ℕ) → j < k → r.row j ≡ f.row j)
    rows k = (λ m j h. (columns_are i j 1 _ _).0 (m j h), λ e j h. (columns_are i j 1 _ _).1 (e j h))

    Said : Type 0
    Said = (k : ℕ) × InColumn (Breach9 r f k) (№ 9 i (k + 1)) w

    differs : (k : ℕ) × (k < n) × ((j : ℕ) → j < k → Met (same_columns i j 1 (r.row j) (f.row j))) × Broken w (same_columns i k 1 (r.row k) (f.row k))
        → Said
    differs b =
        let k = b.0 in
        let h = b.1 in
        let v = (columns_break i k 1 _ _ w).0 b.3 in
        let y = v.1 in
        let l : suc (length v.0) ≡ 1 + length v.0 = omega arith in
        let d : Differ (r.row k) (f.row k) (1 + length v.0) = (v.0, y.0, y.1, y.2, y.3, y.4, l) in
        (k, (1 + length v.0, ((rows k).0 b.2, inl ((in_header r k).0 (omega arith), (in_header f k).0 (omega arith), d)), v.2))

    ends : ((k : ℕ) → k < n → Met (same_columns i k 1 (r.row k) (f.row k))) × ((eqb (heads r) (heads f) ≡ true → ⊥) × (№ 9 i (n + 1) 0 ≡ w)) → Said
    ends b =
        let ne : heads r ≡ heads f → ⊥ = λ e. b.1.0 (eq-eqb _ _ e) in
        let at : (h : ℕ) → h ≡ n → № 9 i (h + 1) 0 ≡ w = λ h e. ap (λ (m : ℕ). № 9 i (m + 1) 0) e ∙ b.1.1 in
        yes_no (ltb (heads r) (heads f))
        (λ t.
        let l = ltb-true _ _ t in
        let e : heads r ≡ n = omega arith in
        (heads r, (0, ((rows _).0 (λ j h. b.0 j (omega arith)), inr (inl (heads_is r, (in_header f _).0 l), refl)), at _ e)))
        (λ t.
        let m : heads r < heads f → ⊥ = λ l. t (lt-ltb _ _ l) in
        let l : heads f < heads r = omega arith in
        let e : heads f ≡ n = omega arith in
        (heads f, (0, ((rows _).0 (λ j h. b.0 j (omega arith)), inr (inr ((in_header r _).0 l, heads_is f), refl)), at _ e)))

    early : (k c : ℕ) → ((j : ℕ) → j < k → r.row j ≡ f.row j) → n ≡ k → (heads r ≡ heads f → ⊥) → c ≡ 0 → № 9 i (k + 1) c ≡ w
        → Broken w (rule9 i r f)
    early k c e q ne z a =
        inr (
          (λ j h. (columns_are i j 1 _ _).1 (e j (omega arith))),
          ((λ t. ne (eqb-true _ _ t)), ap (λ (m : ℕ). № 9 i (m + 1) 0) q ∙ ap (№ 9 i (k + 1)) (sym z) ∙ a),
        )

    back : (k c : ℕ) → Breach9 r f k c → № 9 i (k + 1) c ≡ w → Broken w (rule9 i r f)
    back k c (e, inl y) a =
        let hr = (in_header r k).1 y.0 in
        let hf = (in_header f k).1 y.1 in
        let d = y.2 in
        let l : 1 + length d.0 ≡ c = let z = d.6 in omega arith in
        inl (k, omega arith, (rows k).1 e, (columns_break i k 1 _ _ w).1 (d.0, (d.1, d.2, d.3, d.4, d.5), ap (№ 9 i (k + 1)) l ∙ a))
    back k c (e, inr (inl y, z)) a =
        let q = heads_one r k y.0 in
        let h = (in_header f k).1 y.1 in
        early k c e (omega arith) (λ p. omega arith) z a
    back k c (e, inr (inr y, z)) a =
        let q = heads_one f k y.1 in
        let h = (in_header r k).1 y.0 in
        early k c e (omega arith) (λ p. omega arith) z a
