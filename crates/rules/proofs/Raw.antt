-- The tests of refusals 29 and 3, which the medium's own bytes break, say what `MeetsForm` has in words, and fail where its breaches are.
use Prim.Native.Nat.{ℕ, zero, suc, ◌+◌, ◌-◌, ◌≤◌, ◌<◌, min}
use native.Mathlib.Nat.{not-suc-le-zero}
use native.Mathlib.Omega.{arith}
use mathlib.Core.Path.{◌≡◌, refl, sym, ap, ◌∙◌, subst}
use mathlib.Core.Logic.Iff
use mathlib.Core.Logic.{◌↔◌, ◌⊎◌, inl, inr, ⊎_elim}
use mathlib.Core.Bool.{Bool, true}
use mathlib.Core.List.{List, [], ◌∷◌}
use lib.ListN.{length, get_or}
use Rattle.rules.specs.Plan.{Refusal, №}
use Rattle.rules.specs.Text.{col}
use Rattle.rules.specs.Sheet.{Sheet, all_lines}
use Rattle.rules.specs.Form.{ending, rule29, stray_from, stray, rule3}
use Rattle.rules.specs.MeetsForm.{Taken, Rule3, Breach3}
use Rattle.rules.specs.MeetsForm.{FirstEnd, NoEnd, Rule29, Breach29}
use Rattle.rules.specs.Refuses.{By, InColumn}
use Rattle.rules.proofs.Tests.{yes_no, pick_is, eqb_is}
use Rattle.rules.proofs.Contrary.{contrary}
use Rattle.rules.proofs.Least.{least_is, least_first, least_none}
use Rattle.rules.proofs.Breach.{Met, Broken}

-- 29
module _ (i : ℕ) (f : Sheet) where
  ending_view : ((ending f < all_lines f) × FirstEnd f (ending f)) ⊎ ((ending f ≡ all_lines f) × NoEnd f)
  unfolding ending
  ending_view = ⊎_elim (λ w. inl (w.0, (w.0, w.1, w.2))) (λ w. inr w) (least_is (all_lines f) f.ends)

  ending_one : (e : ℕ) → FirstEnd f e → ending f ≡ e
  unfolding ending
  ending_one e w = least_first (all_lines f) e f.ends w

  ending_none : NoEnd f → ending f ≡ all_lines f
  unfolding ending
  ending_none n = least_none (all_lines f) f.ends n

  pub rule29_is : Met (rule29 i f) ↔ Rule29 f
  unfolding rule29
  rule29_is = (
    λ m.
        let e = (eqb_is (ending f + f.closing) (all_lines f)).0 m in
        ⊎_elim (λ w. inl (ending f, w.1, e)) (λ w. let z = w.0 in inr (w.1, omega arith)) ending_view,
    λ r.
        (eqb_is (ending f + f.closing) (all_lines f)).1
        (⊎_elim (λ w. ap (λ (n : ℕ). n + f.closing) (ending_one w.0 w.1) ∙ w.2)
        (λ w. let z = ending_none w.0 in let c = w.1 in omega arith) r),
  )

  pub rule29_breaks : (w : Refusal) → Broken w (rule29 i f) ↔ ((l : ℕ) × By (Breach29 f l) (№ 29 i l 0) w)
  unfolding rule29 Broken
  rule29_breaks w =
      let n = contrary (eqb_is (ending f + f.closing) (all_lines f)) in
      let at : (l : ℕ) → min (ending f + 2) (all_lines f + 1) ≡ l → № 29 i (min (ending f + 2) (all_lines f + 1)) 0 ≡ № 29 i l 0 =
      λ l e. ap (λ (m : ℕ). № 29 i m 0) e in (
        λ b.
            let ne = n.0 b.0 in
            ⊎_elim (λ v. let h = v.0 in (ending f + 2, (inl (ending f, v.1, ne, refl), sym (at (ending f + 2) (omega arith)) ∙ b.1)))
            (λ v.
            let z = v.0 in
            (all_lines f + 1, (inr (v.1, (λ c. ne (omega arith)), refl), sym (at (all_lines f + 1) (omega arith)) ∙ b.1)))
            ending_view,
        λ b.
            let l = b.0 in
            ⊎_elim
            (λ v.
            let q = ending_one v.0 v.1 in
            let h = v.1.0 in
            let e = v.3 in
            (n.1 (λ y. v.2 (ap (λ (m : ℕ). m + f.closing) (sym q) ∙ y)), at l (omega arith) ∙ b.1.1))
            (λ v.
            let q = ending_none v.0 in
            let e = v.2 in
            (n.1 (λ y. v.1 (omega arith)), at l (omega arith) ∙ b.1.1))
            b.1.0,
      )

-- 3
module _ (takes : ℕ → ℕ → Bool) where
  pub stray_none : (c : ℕ) (bs : List ℕ) → 1 ≤ c
      → (stray_from takes c bs ≡ 0) ↔ ((i : ℕ) → i < length bs → takes (c + i) (get_or bs i 0) ≡ true)
  unfolding stray_from
  stray_none c [] o = (λ e i h. absurd (not-suc-le-zero h), λ f. refl)
  stray_none c (b ∷ bs) o =
      let u = pick_is (takes c b) (stray_from takes (suc c) bs) c 0 in
      let ih = stray_none (suc c) bs (omega arith) in
      let here : stray_from takes c (b ∷ bs) ≡ 0 → takes c b ≡ true = λ e. yes_no (takes c b) (λ t. t) (λ t. absurd (let z = (u.0 e).1 t in omega arith)) in (
        λ e i h. each i h (here e) (ih.0 ((u.0 e).0 (here e))),
        λ f.
            let t = subst (λ (m : ℕ). takes m b ≡ true) (let z : c + 0 ≡ c = omega arith in z) (f 0 (omega arith)) in
            u.1 (
              (λ _.
                  ih.1
                  (λ i h.
                  subst (λ (m : ℕ). takes m (get_or bs i 0) ≡ true) (let z : c + suc i ≡ suc c + i = omega arith in z) (f (suc i) (omega arith)))),
              λ n. absurd (n t),
            ),
      )
    where
      each : (i : ℕ) → i < length (b ∷ bs) → takes c b ≡ true → ((i : ℕ) → i < length bs → takes (suc c + i) (get_or bs i 0) ≡ true)
          → takes (c + i) (get_or (b ∷ bs) i 0) ≡ true
      each zero h t f = subst (λ (m : ℕ). takes m b ≡ true) (let z : c ≡ c + 0 = omega arith in z) t
      each (suc i) h t f =
          subst (λ (m : ℕ). takes m (get_or bs i 0) ≡ true) (let z : suc c + i ≡ c + suc i = omega arith in z) (f i (omega arith))

  -- the lowest column that is not taken
  abbrev Lowest : ℕ → List ℕ → ℕ → Type 0
  Lowest c bs i =
      (i < length bs) × (takes (c + i) (get_or bs i 0) ≡ true → ⊥) × ((j : ℕ) → j < i → takes (c + j) (get_or bs j 0) ≡ true)

  shift : (c i b : ℕ) → takes (suc c + i) b ≡ takes (c + suc i) b
  shift c i b = ap (λ (m : ℕ). takes m b) (let z : suc c + i ≡ c + suc i = omega arith in z)

  first_here : (c b : ℕ) → takes c b ≡ takes (c + 0) b
  first_here c b = ap (λ (m : ℕ). takes m b) (let z : c ≡ c + 0 = omega arith in z)

  lowest_later : (c b : ℕ) (bs : List ℕ) (i : ℕ) → (takes c b ≡ true) × Lowest (suc c) bs i ↔ Lowest c (b ∷ bs) (suc i)
  lowest_later c b bs i = (
    λ w. (omega (arith, w.1.0), (λ t. w.1.1 (shift c i _ ∙ t)), below w.0 w.1.2),
    λ w. (
      first_here c b ∙ w.2 0 (omega arith),
      (omega (arith, w.0), (λ t. w.1 (sym (shift c i _) ∙ t)), λ j h. shift c j _ ∙ w.2 (suc j) (omega arith)),
    ),
  )
    where
      below : takes c b ≡ true → ((j : ℕ) → j < i → takes (suc c + j) (get_or bs j 0) ≡ true) → (j : ℕ) → j < suc i
          → takes (c + j) (get_or (b ∷ bs) j 0) ≡ true
      below t f zero h = sym (first_here c b) ∙ t
      below t f (suc j) h = sym (shift c j _) ∙ f j (omega arith)

  pub stray_at : (c : ℕ) (bs : List ℕ) (i : ℕ) → Lowest c bs i → stray_from takes c bs ≡ c + i
  unfolding stray_from
  stray_at c [] i w = absurd (not-suc-le-zero w.0)
  stray_at c (b ∷ bs) zero w =
      (pick_is (takes c b) _ c _).1 ((λ t. absurd (w.1 (sym (first_here c b) ∙ t))), λ _. omega arith)
  stray_at c (b ∷ bs) (suc i) w =
      let v = (lowest_later c b bs i).1 w in
      (pick_is (takes c b) _ c _).1 ((λ _. stray_at (suc c) bs i v.1 ∙ (let z : suc c + i ≡ c + suc i = omega arith in z)), λ n. absurd (n v.0))

  pub stray_some : (c : ℕ) (bs : List ℕ) → (stray_from takes c bs ≡ 0 → ⊥) → (i : ℕ) × Lowest c bs i
  unfolding stray_from
  stray_some c [] n = absurd (n refl)
  stray_some c (b ∷ bs) n =
      yes_no (takes c b)
      (λ t.
      let w = stray_some (suc c) bs (λ e. n ((pick_is (takes c b) _ c 0).1 ((λ _. e), λ m. absurd (m t)))) in
      (suc w.0, (lowest_later c b bs w.0).0 (t, w.1)))
      (λ t. (0, (omega arith, (λ u. t (first_here c b ∙ u)), λ j h. absurd (not-suc-le-zero h))))

-- column c of the line as the medium has it
taken_at : (f : Sheet) (k i : ℕ) → f.takes (1 + i) (get_or (f.raw k) i 0) ≡ f.takes (1 + i) (col (f.raw k) (1 + i))
unfolding col
taken_at f k i = ap (λ (j : ℕ). f.takes (1 + i) (get_or (f.raw k) j 0)) (let z : i ≡ 1 + i - 1 = omega arith in z)

pub clean_stray : (f : Sheet) (k : ℕ) → (stray f k ≡ 0) ↔ Rule3 f k
unfolding stray
clean_stray f k =
    let b = stray_none f.takes 1 (f.raw k) (omega arith) in (
      λ e c o h.
          let q : 1 + (c - 1) ≡ c = omega arith in
          subst (Taken f k) q (sym (taken_at f k (c - 1)) ∙ b.0 e (c - 1) (omega arith)),
      λ g. b.1 (λ j h. taken_at f k j ∙ g (1 + j) (omega arith) (omega arith)),
    )

pub rule3_is : (i : ℕ) (f : Sheet) (k : ℕ) → Met (rule3 i f k) ↔ Rule3 f k
unfolding rule3
rule3_is i f k = Iff.trans (eqb_is (stray f k) 0) (clean_stray f k)

pub rule3_breaks : (i : ℕ) (f : Sheet) (k : ℕ) (w : Refusal) → Broken w (rule3 i f k) ↔ InColumn (Breach3 f k) (№ 3 i (k + 1)) w
unfolding rule3 stray Broken
rule3_breaks i f k w =
    let l = f.raw k in
    let z = eqb_is (stray_from f.takes 1 l) 0 in (
      λ b.
          let v = stray_some f.takes 1 l (λ e. b.0 (z.1 e)) in
          let at = stray_at f.takes 1 l v.0 v.1 in
          let h = v.1.0 in (
            1 + v.0,
            (
              omega arith,
              omega arith,
              (λ t. v.1.1 (taken_at f k v.0 ∙ t)),
              λ d o g.
                  let q : 1 + (d - 1) ≡ d = omega arith in
                  subst (Taken f k) q (sym (taken_at f k (d - 1)) ∙ v.1.2 (d - 1) (omega arith)),
            ),
            ap (№ 3 i (k + 1)) (sym at) ∙ b.1,
          ),
      λ b.
          let c = b.0 in
          let o = b.1.0 in
          let h = b.1.1 in
          let q : 1 + (c - 1) ≡ c = omega arith in
          let at =
          stray_at f.takes 1 l (c - 1) (
            omega arith,
            (λ t. b.1.2 (subst (Taken f k) q (sym (taken_at f k (c - 1)) ∙ t))),
            λ j g. taken_at f k j ∙ b.1.3 (1 + j) (omega arith) (omega arith),
          ) in
          ((λ e. let y = z.0 e in omega arith), ap (№ 3 i (k + 1)) (at ∙ q) ∙ b.2),
    )
