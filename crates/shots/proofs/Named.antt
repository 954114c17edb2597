-- 15: shots and relation lines side by side. Relation lines stand in the order of their shots, so those that name a shot stand together.
--   there     = the shot of a relation line is in S
--   onwards   = below a relation line there are relation lines alone
--   rises     = of two relation lines the later one's shot does not stand before the other's
--   Passed s x k j = the lines of X before j have their shots before line k of S, the others from there on
--   at_first  = so it is at the first relation line and the first line of S
--   other_on, named_on = line k is no shot, or is named by the lines before i
--   named, unnamed = 15 of line k
use Prim.Native.Nat.{ℕ, zero, suc, ◌+◌, ◌-◌, ◌≤◌, ◌<◌}
use native.Mathlib.Omega.{arith}
use mathlib.Core.Path.{◌≡◌, refl, sym, ap, ◌∙◌, subst}
use mathlib.Core.Logic.{◌↔◌, ⊎_elim}
use mathlib.Core.Bool.{Bool, true, false, not, ◌&&◌}
use lib.Dec.{leb}
use borrow.Author.Tests.{leb-true, le-leb}
use Rattle.rules.specs.Places.{least}
use Rattle.rules.specs.Plan.{fine, refused, №, up_to, run}
use Rattle.rules.specs.Sheet.{Sheet}
use Rattle.rules.specs.Lines.{is_data, is_point, heads}
use Rattle.rules.specs.Points.{point_at, is_killed}
use Rattle.rules.specs.Relations.{relation_at}
use Rattle.rules.specs.Order.{is_point_at, is_live, is_shot_of, shot_line, names, rule13, rule14, rule15}
use Rattle.rules.proofs.Tests.{clash, and_is, not_is, some_is, imp_is, if_before_is, yes_no}
use Rattle.rules.proofs.Breach.{run_met}
use Rattle.rules.proofs.Steps.{need_met, need_broken, when_on, when_off}
use Rattle.rules.proofs.Least.{least_is, least_below}
use Rattle.rules.specs.MeetsForm.{Rule4}
use Rattle.rules.specs.MeetsSet.{At as IsAt}
use Rattle.rules.proofs.Form.{data_is, point_is}
use Rattle.rules.proofs.Order.{at_is, point_at_is}
use Rattle.lines.proofs.Tests.{untrue}
use Rattle.form.proofs.Known.{formed}
use Rattle.keys.specs.Held.{RelationLine, KnownShots}
use Rattle.keys.specs.Keyed.{key_at}
use Rattle.keys.specs.declared.By.TheVariants.{Points}
use Rattle.keys.specs.declared.Key.{Key}
use Rattle.shots.specs.Places.{is_shot, names_key, shot_order, past_of, Ordered}
use Rattle.shots.proofs.Held.{names_shot}
use Rattle.shots.proofs.Places.{on_from, from_found, from_gone, one_shot}

abbrev pub line_of : Sheet → Sheet → ℕ → ℕ
line_of s x i = shot_line s (relation_at x i)

pub record Passed (s x : Sheet) (k j : ℕ) : Type 0 where
  pub inside : j ≤ x.count
  pub relate : (i : ℕ) → j ≤ i → i < x.count → is_data x i ≡ true
  pub low : (i : ℕ) → i < j → is_data x i ≡ true → line_of s x i < k
  pub high : (i : ℕ) → j ≤ i → i < x.count → k ≤ line_of s x i

module _ (s x : Sheet) (ws : KnownShots s) (four : (k : ℕ) → k < x.count → Rule4 3 x k) (met : fine ≡ run (up_to x.count (shot_order s x))) where
  abbrev pub line : ℕ → ℕ
  line i = line_of s x i

  pub there : (i : ℕ) → RelationLine x i → (line i < s.count) × (is_shot s x i (line i) ≡ true)
  unfolding rule13 is_shot
  there i h =
      let t = ((run_met (up_to x.count (shot_order s x))).0 (sym met) i h.0 h.1).0 in
      let w = (some_is s.count (is_shot_of s (relation_at x i))).0 t in
      let e = one_shot s x ws i w.0 w.1 w.2 in
      let g = w.1 in
      (omega arith, subst (λ (n : ℕ). is_shot_of s (relation_at x i) n ≡ true) (sym e) w.2)

  -- what holds of its line
  shot_at_line : (i : ℕ) → RelationLine x i
      → (is_point_at s (relation_at x i).source (relation_at x i).shot (relation_at x i).shot_index (line i) ≡ true)
      × (not (is_killed (point_at s (line i))) ≡ true)
  unfolding is_shot is_shot_of
  shot_at_line i h = (and_is _ _).0 (there i h).1

  shot_point : (i : ℕ) → RelationLine x i → is_live s (line i) ≡ true
  unfolding is_live
  shot_point i h =
      let w = shot_at_line i h in
      (and_is _ _).1 ((point_is s (line i)).1 ((point_at_is _ _ _ _ (line i)).0 w.0).0, w.1)

  pub onwards : (i k : ℕ) → i ≤ k → k < x.count → is_data x i ≡ true → is_data x k ≡ true
  onwards i k l h d =
      yes_no (is_data x k) (λ t. t)
      (λ f.
      let e : i ≡ k → ⊥ = λ e. f (subst (λ (m : ℕ). is_data x m ≡ true) e d) in
      absurd (f ((data_is x k).1 (λ y. (data_is x i).0 d ((four k h).0 y i (omega arith))))))

  next : (k : ℕ) → suc k < x.count → is_data x k ≡ true → is_data x (suc k) ≡ true → line k ≤ line (suc k)
  unfolding rule14
  next k h d y =
      let t = ((run_met (up_to x.count (shot_order s x))).0 (sym met) (suc k) h y).1 in
      leb-true _ _ ((imp_is _ _).0 ((if_before_is _ (suc k)).0 t k refl) d)

  rises_by : (i d : ℕ) → i + d < x.count → is_data x i ≡ true → line i ≤ line (i + d)
  rises_by i zero h y = let e : i ≡ i + 0 = omega arith in subst (λ (m : ℕ). line i ≤ line m) e (omega arith)
  rises_by i (suc d) h y =
      let a = rises_by i d (omega arith) y in
      let e : suc (i + d) ≡ i + suc d = omega arith in
      let b = next (i + d) (omega arith) (onwards i (i + d) (omega arith) (omega arith) y) (onwards i (suc (i + d)) (omega arith) (omega arith) y) in
      subst (λ (m : ℕ). line i ≤ line m) e (omega arith)

  pub rises : (i k : ℕ) → i ≤ k → k < x.count → is_data x i ≡ true → line i ≤ line k
  rises i k l h y =
      let e : i + (k - i) ≡ k = omega arith in
      subst (λ (m : ℕ). line i ≤ line m) e (rises_by i (k - i) (omega arith) y)

  pub at_first : (j : ℕ) → j ≡ heads x → Passed s x 0 j
  unfolding heads
  at_first j e =
      rw e
      (⊎_elim
      (λ w.
      record {
        inside = let h = w.0 in omega arith;
        relate = λ i l h. onwards _ i l h w.1;
        low = λ i l d. absurd (w.2 i l d);
        high = λ i l h. omega arith;
      })
      (λ w.
      record {
        inside = let h = w.0 in omega arith;
        relate = λ i l h. absurd (let z = w.0 in omega arith);
        low = λ i l d. absurd (w.1 i (let z = w.0 in omega arith) d);
        high = λ i l h. omega arith;
      })
      (least_is x.count (is_data x)))

  module _ (k j : ℕ) (h : k < s.count) (p : Passed s x k j) where
    -- line k is no shot
    module _ (n : is_live s k ≡ false) where
      pub other_on : Passed s x (k + 1) j
      other_on =
          record {
            inside = p.inside;
            relate = p.relate;
            low = λ i l d. let z = p.low i l d in omega arith;
            high =
                λ i l g.
                let z = p.high i l g in
                let t = shot_point i (g, p.relate i l g) in
                let u : line i ≡ k → ⊥ = λ e. clash (sym n ∙ ap (is_live s) (sym e) ∙ t) in
                omega arith;
          }

      pub other_fine : fine ≡ run (rule15 s x k)
      unfolding rule15
      other_fine = when_off _ _ n

    -- line k is a shot, and N tells which relation lines name it
    module _ (y : is_live s k ≡ true) (N : ℕ → Bool) (names_it : (i : ℕ) → RelationLine x i → (N i ≡ true) ↔ (line i ≡ k)) (i : ℕ)
        (e : i ≡ least x.count (on_from x.count j (λ m. not (N m)))) where
      abbrev At : ℕ → ℕ → Type 0
      At m n = IsAt (relation_at x m).source (relation_at x m).shot (relation_at x m).shot_index (point_at s n)

      shot_at : (m : ℕ) → names (relation_at x m) (point_at s k) ≡ true → is_shot s x m k ≡ true
      unfolding names is_shot is_shot_of is_live
      shot_at m t =
          let w = (and_is (is_point s k) _).0 y in
          (and_is _ _).1 ((point_at_is _ _ _ _ k).1 ((point_is s k).0 w.0, (at_is _ _ _ _).0 t), w.1)

      -- the lines from j on and before i name it
      run_of : (m : ℕ) → j ≤ m → m < i → m < x.count → line m ≡ k
      run_of m l g o =
          (names_it m (o, p.relate m l o)).0
          (yes_no (N m) (λ t. t) (λ t. absurd (from_gone x.count j (λ m. not (N m)) m (omega arith) o l ((not_is (N m)).1 t))))

      pub beyond : i ≤ x.count
      beyond = rw e (least_below x.count _)

      pub from_on : j ≤ i
      from_on =
          yes_no (leb j i) (λ t. leb-true j i t)
          (λ t.
          let g : j ≤ i → ⊥ = λ l. t (le-leb j i l) in
          let o = p.inside in
          absurd (g (from_found x.count j (λ m. not (N m)) i e (omega arith)).0))

      pub named_on : Passed s x (k + 1) i
      named_on =
          record {
            inside = beyond;
            relate = λ m l o. let z = from_on in p.relate m (omega arith) o;
            low =
                λ m l d.
                let b = beyond in
                yes_no (leb j m) (λ t. let z = run_of m (leb-true j m t) l (omega arith) in omega arith)
                (λ t.
                let g : j ≤ m → ⊥ = λ l. t (le-leb j m l) in
                let z = p.low m (omega arith) d in
                omega arith);
            high =
                λ m l o.
                let q = from_found x.count j (λ m. not (N m)) i e (omega arith) in
                let a = p.relate i q.0 (omega arith) in
                let b = p.high i q.0 (omega arith) in
                let c : line i ≡ k → ⊥ = λ u. (not_is (N i)).0 q.1 ((names_it i (omega arith, a)).1 u) in
                let d = rises i m l o a in
                omega arith;
          }

      named_by : (m : ℕ) → RelationLine x m → line m ≡ k → (is_data x m && names (relation_at x m) (point_at s k)) ≡ true
      unfolding names
      named_by m r u =
          (and_is _ _).1 (r.1, (at_is _ _ _ _).1 (subst (λ (n : ℕ). At m n) u ((point_at_is _ _ _ _ (line m)).0 (shot_at_line m r).0).1))

      pub named : (i ≡ j → ⊥) → fine ≡ run (rule15 s x k)
      unfolding rule15
      named n =
          let z = from_on in
          let b = beyond in
          let g : j < i = omega arith in
          let o : j < x.count = omega arith in
          need_met _ _ ((some_is x.count _).1 (j, o, named_by j (o, p.relate j (omega arith) o) (run_of j (omega arith) g o)))
          ∙ when_on _ _ y

      pub unnamed : i ≡ j → refused (№ 15 2 (k + 1) 1) ≡ run (rule15 s x k)
      unfolding rule15
      unnamed q = need_broken _ _ (untrue _ (λ t. none ((some_is x.count _).0 t))) ∙ when_on _ _ y
        where
          none : (m : ℕ) × (m < x.count) × ((is_data x m && names (relation_at x m) (point_at s k)) ≡ true) → ⊥
          none w =
              let m = w.0 in
              let a = (and_is _ _).0 w.2 in
              let u = one_shot s x ws m k h (shot_at m a.1) in
              yes_no (leb j m)
              (λ t.
              let v = from_found x.count j (λ m. not (N m)) i e (let l = leb-true j m t in let o = w.1 in omega arith) in
              let l = leb-true j m t in
              let o = w.1 in
              let c : line i ≡ k → ⊥ = λ u. (not_is (N i)).0 v.1 ((names_it i (omega arith, p.relate i v.0 (omega arith))).1 u) in
              let r1 = rises i m (omega arith) o (p.relate i v.0 (omega arith)) in
              let hi = p.high i v.0 (omega arith) in
              omega arith)
              (λ t.
              let g : j ≤ m → ⊥ = λ l. t (le-leb j m l) in
              let z = p.low m (omega arith) a.0 in
              omega arith)

-- the same, by keys
module _ (s x : Sheet) (o : Ordered s x) (same : s.rank ≡ x.rank) (k j : ℕ) (h : k < s.count) (p : Passed s x k j) where
  four : (i : ℕ) → i < x.count → Rule4 3 x i
  four = (formed 3 x o.relations).rule4

  pub step_other : (t : Bool) → t ≡ is_live s k → t ≡ false → (fine ≡ run (rule15 s x k)) × Passed s x (k + 1) j
  step_other t e n =
      let z = sym e ∙ n in
      (other_fine s x o.shots four o.met k j h p z, other_on s x o.shots four o.met k j h p z)

  module _ (t : Bool) (e : t ≡ is_live s k) (y : t ≡ true) (key : Key) (f : key ≡ key_at Points s k) (i : ℕ) (q : i ≡ past_of x key j) where
    z : is_live s k ≡ true
    z = sym e ∙ y

    by_key : (m : ℕ) → RelationLine x m → (names_key x key m ≡ true) ↔ (line_of s x m ≡ k)
    by_key m r =
        let u = ap (λ (w : Key). names_key x w m) f ∙ names_shot s x o.shots o.relations same k h z m r.0 r.1 in (
          λ t. one_shot s x o.shots m k h (sym u ∙ t),
          λ g. u ∙ subst (λ (n : ℕ). is_shot s x m n ≡ true) g (there s x o.shots four o.met m r).1,
        )

    pub step_unnamed : i ≡ j → refused (№ 15 2 (k + 1) 1) ≡ run (rule15 s x k)
    unfolding past_of
    step_unnamed g = unnamed s x o.shots four o.met k j h p z (names_key x key) by_key i q g

    pub step_named : (i ≡ j → ⊥) → (fine ≡ run (rule15 s x k)) × Passed s x (k + 1) i
    unfolding past_of
    step_named g = (
      named s x o.shots four o.met k j h p z (names_key x key) by_key i q g,
      named_on s x o.shots four o.met k j h p z (names_key x key) by_key i q,
    )
