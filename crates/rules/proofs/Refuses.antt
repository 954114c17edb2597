-- The order of checks as the code runs it is the order in words: it is met where each rule holds, and its first breach is the same.
--   rules_same   = the whole order
use Prim.Native.Nat.{ℕ, suc, ◌+◌, ◌≤◌, ◌<◌}
use native.Mathlib.Omega.{arith}
use mathlib.Core.Path.{◌≡◌, sym, ◌∙◌}
use mathlib.Core.Logic.Iff
use mathlib.Core.Logic.{◌↔◌}
use mathlib.Core.Bool.{Bool, true, not, ◌&&◌, ◌||◌}
use lib.Dec.{eqb, leb}
use Rattle.rules.specs.Places.{if_before}
use Rattle.rules.specs.Plan.{Refusal, №, Plan, file_r, file_s, file_x, need, ◌before◌, up_to, when}
use Rattle.rules.specs.Sheet.{Sheet, most_lines, all_lines}
use Rattle.rules.specs.Lines.{is_header, is_data, heads}
use Rattle.rules.specs.Relations.{Relation, reach, relation_at, reach_at}
use Rattle.rules.specs.Form.{rule1, rule2, rule6, line_fits, form}
use Rattle.rules.specs.Headers.{rule8, rule9}
use Rattle.rules.specs.Order.{line_of_point, shot_line, rule10, rule11, rule12, rule13, rule14, rule15, rule16, rule17, rule18, rule19}
use Rattle.rules.specs.Codes.{codes_fit}
use Rattle.rules.specs.Check.{relation_fits, rules}
use Rattle.rules.specs.MeetsForm.{Data, Relates, Rule6, Breach6}
use Rattle.rules.specs.MeetsHeaders.{Rule8, Breach8}
use Rattle.rules.specs.MeetsSet.{Shot, Rule12, Rule13, Rule14, Breach14}
use Rattle.rules.specs.Refuses.{look, line_by_line, By, InColumn, line_order, form_order, header_order, shot_order, related}
use Rattle.rules.specs.Refuses.{codes_order, relation_order, order}
use Rattle.rules.proofs.Tests.{says, eqb_is, leb_is}
use Rattle.rules.proofs.Contrary.{contrary, not_leb, fails}
use Rattle.rules.proofs.Least.{least_first}
use Rattle.rules.proofs.Breach.{Met, Broken}
use Rattle.rules.proofs.Form.{header_is, data_is, need_breaks, rule4_is}
use Rattle.rules.proofs.Raw.{rule3_is, rule3_breaks}
use Rattle.rules.proofs.Form.{rule4_breaks, rule5_is, rule5_breaks, rule6_is, rule6_breaks}
use Rattle.rules.proofs.Raw.{rule29_is, rule29_breaks}
use Rattle.rules.proofs.Headers.{in_header, heads_few, rule7_is, rule7_breaks, rule8_is, rule8_breaks, rule9_is, rule9_breaks}
use Rattle.rules.proofs.Codes.{tables_same, used_same}
use Rattle.rules.proofs.Order.{point_at_is, rule10_at, rule10_breaks, rule11_is, rule11_breaks, rule12_is, rule12_breaks, rule13_is, rule13_breaks}
use Rattle.rules.proofs.Order.{rule15_is, rule15_breaks, rule16_is, rule16_breaks, rule17_is, rule17_breaks, receivers_there_lem, receivers_missing}
use Rattle.rules.proofs.Order.{once_is, once_breaks, shots_are}
use Rattle.rules.proofs.Same.{Same, same_fewer, same_lines_lem, same_look, same_then, same_when}

-- the form of a file
module _ (i : ℕ) (f : Sheet) where
  six : ℕ → Plan
  six k = when (not (is_header (f.row k)) && eqb i file_x) (rule6 f.layout k (reach f.layout (f.row k)))

  relates_is : (k : ℕ) → (not (is_header (f.row k)) && eqb i file_x ≡ true) ↔ Relates i f k
  relates_is k = simp (says, header_is) Iff.rfl

  six_is : (k : ℕ) → Met (six k) ↔ Rule6 i f k
  unfolding six reach_at
  six_is k = let d = relates_is k in let b = rule6_is _ k _ in (λ m z. b.0 (m (d.1 z)), λ g z. b.1 (g (d.0 z)))

  six_breaks : (k : ℕ) (w : Refusal) → Broken w (six k) ↔ InColumn (Breach6 i f k) (№ 6 file_x (k + 1)) w
  unfolding six reach_at Broken
  six_breaks k w =
      let d = relates_is k in
      let b = rule6_breaks _ k _ w in
      (λ y. let v = b.0 y.1 in (v.0, (d.0 y.0, v.1), v.2), λ y. (d.1 y.1.0, b.1 (y.0, y.1.1, y.2)))

  pub line_same : (k : ℕ) → Same (line_fits i f k) (line_order i f k)
  unfolding line_fits six
  line_same k =
      same_then (same_look (rule3_is i f k) (rule3_breaks i f k))
      (λ _.
      same_then (same_look (rule4_is i f k) (rule4_breaks i f k))
      (λ _.
      same_then (same_look (rule5_is i f.layout k (f.row k)) (rule5_breaks i f.layout k (f.row k)))
      (λ _. same_look (six_is k) (six_breaks k))))

  pub form_same : Same (form i f) (form_order i f)
  unfolding form rule1 rule2
  form_same =
      let left = eqb_is f.left 0 in
      same_then (same_look left (need_breaks _ _ (contrary left)))
      (λ _.
      same_then (same_look (leb_is (all_lines f) most_lines) (need_breaks _ _ (not_leb (all_lines f) most_lines)))
      (λ _.
      same_then (same_look (rule29_is i f) (rule29_breaks i f))
      (λ _. same_lines_lem f.count (line_fits i f) (line_order i f) (λ k h _. line_same k))))

-- a shot stands in one line, which is shot_line
module _ (s : Sheet) (rule12 : (k : ℕ) → k < s.count → Rule12 s k) where
  pub shot_line_lem : (v : Relation) (a : ℕ) → a < s.count → Shot s v a → shot_line s v ≡ a
  unfolding shot_line line_of_point
  shot_line_lem v a h t =
      least_first _ a _ (
        h,
        (point_at_is _ _ _ _ _).1 t,
        λ j l u.
            let w = (point_at_is _ _ _ _ _).0 u in
            rule12 a h t.0 j l w.0
            (t.1.0 ∙ sym w.1.0, (t.1.1.0 ∙ sym w.1.1.0, t.1.1.1 ∙ sym w.1.1.1)),
      )

-- 14, where each shot stands in one line and 13 is met so far
module _ (s x : Sheet) (rule12 : (k : ℕ) → k < s.count → Rule12 s k) (k : ℕ)
    (just : (j : ℕ) → suc j ≡ k → Data x j → Rule13 s x j) (here : Rule13 s x k) where
  lines_rise : Bool
  lines_rise = if_before (λ j. not (is_data x j) || leb (shot_line s (relation_at x j)) (shot_line s (relation_at x k))) k

  line : (v : Relation) (a : ℕ) → a < s.count → Shot s v a → shot_line s v ≡ a
  line = shot_line_lem s rule12

  rise_is : (lines_rise ≡ true) ↔ ((j : ℕ) → suc j ≡ k → Data x j → shot_line s (relation_at x j) ≤ shot_line s (relation_at x k))
  unfolding lines_rise
  rise_is = simp (says, data_is) Iff.rfl

  fall_is : (lines_rise ≡ true → ⊥)
      ↔ ((j : ℕ) × (suc j ≡ k) × (Data x j × (shot_line s (relation_at x k) < shot_line s (relation_at x j))))
  unfolding lines_rise
  fall_is = simp (fails, data_is) Iff.rfl

  fourteen_is : (lines_rise ≡ true) ↔ Rule14 s x k
  fourteen_is = (
    λ e j n y a b ha hb ta tb.
        let p = rise_is.0 e j n y in
        let ea = line (relation_at x j) a ha ta in
        let eb = line (relation_at x k) b hb tb in
        omega arith,
    λ g.
        rise_is.1
        (λ j n y.
        let a = just j n y in
        let ea = line (relation_at x j) a.0 a.1 a.2.0 in
        let eb = line (relation_at x k) here.0 here.1 here.2.0 in
        let le = g j n y a.0 here.0 a.1 here.1 a.2.0 here.2.0 in
        omega arith),
  )

  fourteen_breaks : (lines_rise ≡ true → ⊥) ↔ Breach14 s x k
  fourteen_breaks = (
    λ e.
        let f = fall_is.0 e in
        let a = just f.0 f.1 f.2.0 in
        let l = f.2.1 in
        let ea = line (relation_at x f.0) a.0 a.1 a.2.0 in
        let eb = line (relation_at x k) here.0 here.1 here.2.0 in
        (f.0, f.1, f.2.0, (a.0, here.0, a.1, here.1, a.2.0, here.2.0, omega arith)),
    λ b e.
        let y = b.3 in
        let p = rise_is.0 e b.0 b.1 b.2 in
        let l = y.6 in
        let ea = line (relation_at x b.0) y.0 y.2 y.4 in
        let eb = line (relation_at x k) y.1 y.3 y.5 in
        omega arith,
  )

-- a rule of a relation line, by its test
related_same : (x : Sheet) (k : ℕ) (t : Bool) (v : Refusal) {R B : Type 0} → (Data x k → (t ≡ true) ↔ R) → (Data x k → (t ≡ true → ⊥) ↔ B)
    → Same (when (is_data x k) (need t v)) (related x k R B v)
unfolding Broken
related_same x k t v y n =
    let d = data_is x k in
    same_look (λ m z. (y z).0 (m (d.1 z)), λ g z. (y (d.0 z)).1 (g (d.0 z)))
    (λ w. (
      λ b. let z = d.0 b.0 in ((z, (n z).0 b.1.0), b.1.1),
      λ b. let z = b.0.0 in (d.1 z, ((n z).1 b.0.1, b.1)),
    ))

module _ (r s x : Sheet) (shots : Met (up_to s.count (λ k. rule11 s k before rule12 s k))) where
  -- 13 of the lines before
  thirteen : (j : ℕ) → Met (relation_fits r s x j) → Data x j → Rule13 s x j
  unfolding relation_fits
  thirteen j m z = (rule13_is s x j).0 (m ((data_is x j).1 z)).0

  relation_same : (k : ℕ) → ((j : ℕ) → j < k → Met (relation_fits r s x j)) → Same (relation_fits r s x k) (relation_order r s x k)
  unfolding relation_fits rule13 rule14 rule16 rule17 rule18 rule19 lines_rise
  relation_same k earlier =
      let d = is_data x k in
      let just : (j : ℕ) → suc j ≡ k → Data x j → Rule13 s x j = λ j n z. thirteen j (earlier j (omega arith)) z in
      let twelve : (k : ℕ) → k < s.count → Rule12 s k = λ k h. ((shots_are s).0 shots k h).1 in
      same_when d
      (same_then (related_same x k _ _ (λ _. rule13_is s x k) (λ _. rule13_breaks s x k))
      (λ m.
      let here : Data x k → Rule13 s x k = λ z. (rule13_is s x k).0 (m ((data_is x k).1 z)) in
      same_when d
      (same_then (related_same x k _ _ (λ z. fourteen_is s x twelve k just (here z)) (λ z. fourteen_breaks s x twelve k just (here z)))
      (λ _.
      same_when d
      (same_then (related_same x k _ _ (λ _. rule16_is x k) (λ _. rule16_breaks x k))
      (λ _.
      same_when d
      (same_then (related_same x k _ _ (λ _. rule17_is x k) (λ _. rule17_breaks x k))
      (λ _.
      same_when d
      (same_then (related_same x k _ _ (λ _. receivers_there_lem r (reach_at x k)) (λ _. receivers_missing r (reach_at x k)))
      (λ _. related_same x k _ _ (λ _. once_is x k) (λ _. once_breaks x k)))))))))))

-- 9 of file i
headers_same : (i : ℕ) (r f : Sheet) → Same (rule9 i r f) (header_order i r f)
headers_same i r f = same_look (rule9_is i r f) (rule9_breaks i r f)

projections_same : (r : Sheet)
    → Same (up_to (heads r) (rule8 r))
    (line_by_line r.count (λ k. look (Rule8 r k) (By (Breach8 r k) (№ 8 file_r (k + 1) r.layout.header_text.first))))
projections_same r =
    same_fewer (heads r) r.count _ _ (heads_few r) (λ k h. same_look (rule8_is r k h) (rule8_breaks r k h))
    (λ k l i. absurd (let h = (in_header r k).1 i in omega arith)) (λ k w b. (in_header r k).1 b.0.0)

codes_same : (r s x : Sheet) → Same (codes_fit r s x) (codes_order r s x)
unfolding codes_fit
codes_same r s x =
    same_then (tables_same r) (λ _. same_then (used_same file_r r r) (λ _. same_then (used_same file_s r s) (λ _. used_same file_x r x)))

pub rules_same : (r s x : Sheet) → Same (rules r s x) (order r s x)
unfolding rules
rules_same r s x =
    same_then (form_same file_r r)
    (λ _.
    same_then (form_same file_s s)
    (λ _.
    same_then (form_same file_x x)
    (λ _.
    same_then (same_look (rule7_is r) (rule7_breaks r))
    (λ _.
    same_then (projections_same r)
    (λ _.
    same_then (headers_same file_s r s)
    (λ _.
    same_then (headers_same file_x r x)
    (λ _.
    same_then (codes_same r s x)
    (λ _.
    same_then (same_lines_lem r.count (rule10 r) _ (λ k _ _. same_look (rule10_at r k) (rule10_breaks r k)))
    (λ _.
    same_then (same_lines_lem s.count _ (shot_order s) (λ k _ _. shot_same k))
    (λ shots.
    same_then (same_lines_lem x.count (relation_fits r s x) (relation_order r s x) (λ k _ m. relation_same r s x shots k m))
    (λ _. same_lines_lem s.count (rule15 s x) _ (λ k _ _. same_look (rule15_is s x k) (rule15_breaks s x k)))))))))))))
  where
    shot_same : (k : ℕ) → Same (rule11 s k before rule12 s k) (shot_order s k)
    shot_same k =
        same_then (same_look (rule11_is s k) (rule11_breaks s k)) (λ _. same_look (rule12_is s k) (rule12_breaks s k))
