-- What an accepted set gives: sound relation lines, channels that rise within a record, receivers that are covered once and stand in one line.
use Prim.Native.Nat.{ℕ, zero, suc, ◌≤◌, ◌<◌}
use native.Mathlib.Nat.{not-suc-le-zero}
use native.Mathlib.Omega.{arith}
use mathlib.Core.Path.{◌≡◌, refl, sym, ◌∙◌, subst}
use mathlib.Core.List.{List}
use Rattle.rules.specs.Text.{col}
use Rattle.rules.specs.Names.{Name}
use Rattle.rules.specs.Layout.{Span, at}
use Rattle.rules.specs.Sheet.{Sheet}
use Rattle.rules.specs.Lines.{is_point}
use Rattle.rules.specs.Points.{point_at, number_of, index_at}
use Rattle.rules.specs.Relations.{Reach, reach, reach_at}
use Rattle.rules.specs.Rows.{relation_rows}
use Rattle.rules.specs.Order.{line_of_point, receiver_line}
use Rattle.rules.specs.MeetsFields.{InRange, Index, Whole}
use Rattle.rules.specs.MeetsForm.{Data, Point, FieldsRead}
use Rattle.rules.specs.MeetsCover.{Covers, Carries}
use Rattle.rules.specs.MeetsSet.{Above, PointAt, Receiver, Mates, Rule10}
use Rattle.rules.specs.Meets.{Meets}
use Rattle.rules.specs.MeetsQuestions.{Of}
use Rattle.rules.proofs.Tests.{more}
use Rattle.rules.proofs.Least.{least_first, least_there}
use Rattle.rules.proofs.Fields.{index_value, index_range, whole_size}
use Rattle.rules.proofs.Form.{point_is}
use Rattle.rules.proofs.Above.{above_trans, above_self, chained}
use Rattle.rules.proofs.Cover.{Sound}
use Rattle.rules.proofs.Order.{point_at_is}

-- the value that is kept of a number or an index that reads
number_in : (l : List ℕ) (s : Span) (a b : ℕ) → InRange Whole a b (at l s) → (a ≤ number_of l s) × (number_of l s ≤ b)
unfolding number_of
number_in l s a b w = rw (whole_size (at l s) w.0 w.1) (w.2, w.3)

index_in : (l : List ℕ) (s : Span) → (v : ℕ) × Index (col (at l s) 1) v → (1 ≤ index_at l s) × (index_at l s ≤ 9)
unfolding index_at
index_in l s w = rw (index_value _ w.0 w.1) (index_range _ w.0 w.1)

-- receivers stand in strict order, so a receiver stands in one line
module _ (r : Sheet) (rule10 : (k : ℕ) → k < r.count → Rule10 r k) where
  pub receivers_rise : (j k : ℕ) → j < k → k < r.count → Point r j → Point r k → Above r.rank (point_at r k) (point_at r j)
  receivers_rise j k l h a b =
      chained r.count (is_point r) (λ j k. Above r.rank (point_at r k) (point_at r j))
      (λ i j k e f. above_trans r.rank (point_at r k) (point_at r j) (point_at r i) f e)
      (λ j k l h a b f. rule10 k h ((point_is r k).0 b) j l ((point_is r j).0 a) (λ m u v z. f m u v ((point_is r m).1 z)))
      j k l h ((point_is r j).1 a) ((point_is r k).1 b)

  pub one_line_lem : (n : Name) (p i j : ℕ) → j < r.count → PointAt r n p i j → line_of_point r n p i ≡ j
  unfolding line_of_point
  one_line_lem n p i j h t =
      least_first _ j _ (
        h,
        (point_at_is r n p i j).1 t,
        λ k l u.
            let v = (point_at_is r n p i k).0 u in
            above_self r.rank (point_at r j) (point_at r k) (receivers_rise k j l h v.0 t.0)
            (v.1.0 ∙ sym t.1.0) (v.1.1.0 ∙ sym t.1.1.0) (v.1.1.1 ∙ sym t.1.1.1),
      )

  pub receiver_line_lem : (q : Reach) (p j : ℕ) → j < r.count → Receiver r q p j → receiver_line r q p ≡ j
  unfolding receiver_line
  receiver_line_lem q p j h t = one_line_lem q.receiver p q.receiver_index j h t

module _ (r s x : Sheet) (ok : Meets r s x) where
  pub fields : (k : ℕ) → k < x.count → Data x k → FieldsRead ⊥ (x.row k) (relation_rows x.layout)
  fields k h z = (ok.form_x.rule5 k h).1.1 (z, refl)

  pub sound : (k : ℕ) → k < x.count → Data x k → Sound x.layout.most_channel (reach_at x k)
  unfolding reach_at reach relation_rows
  sound k h z =
      let f = (fields k h z).1.1.1.1.1.1.1 in
      let c = ok.form_x.rule6 k h (z, refl) in
      let i = index_in (x.row k) x.layout.step (f.1.1.0 (λ e. e.1)) in
      record {
        one = i.0;
        few = i.1;
        first = (number_in _ _ _ _ (f.0 (λ e. e.1))).0;
        most = (number_in _ _ _ _ (f.1.0 (λ e. e.1))).1;
        channels = c.0;
        even = c.1.0;
        fit = c.1.1;
      }

  -- the channels of one tape and record rise from line to line
  pub channels_rise : (k j : ℕ) → k < x.count → Data x k → j < k → Mates x k j → (reach_at x j).upto < (reach_at x k).from
  channels_rise zero j h z l y = absurd (not-suc-le-zero l)
  channels_rise (suc k) j h z l y =
      let w = (ok.rule16 (suc k) h z).0 j l y in
      let q : w.0 ≡ k = let e = w.1 in omega arith in
      let m : Mates x (suc k) k = subst (λ (i : ℕ). Mates x (suc k) i) q w.2 in
      let hk : k < x.count = omega arith in
      let up : (reach_at x k).upto < (reach_at x (suc k)).from = ok.rule17 (suc k) h z k refl m in
      more l
      (λ l.
      let rise = channels_rise k j hk m.0 l (y.0, (y.1.0 ∙ sym m.1.0, y.1.1 ∙ sym m.1.1)) in
      let c = (sound k hk m.0).channels in
      omega arith)
      (λ g. subst (λ (i : ℕ). (reach_at x i).upto < (reach_at x (suc k)).from) (sym g) up)

  module _ (t : List ℕ) (n : ℕ) where
    mates : (k j : ℕ) → Of x t n k → Of x t n j → Mates x k j
    mates k j a b = (b.0, (b.1.0 ∙ sym a.1.0, b.1.1 ∙ sym a.1.1))

    -- a channel is covered by one line of its tape and record, and so is a receiver
    pub one_channel : (c k j : ℕ) → k < x.count → Of x t n k → Carries (reach_at x k) c → j < k → Of x t n j → Carries (reach_at x j) c → ⊥
    one_channel c k j h a f l b g =
        let rise = channels_rise k j h a.0 l (mates k j a b) in
        let u = f.0 in
        let v = g.1 in
        omega arith

    pub one_receiver : (k j p : ℕ) → k < x.count → j < x.count → Of x t n k → Of x t n j
        → (reach_at x k).receiver ≡ (reach_at x j).receiver → (reach_at x k).receiver_index ≡ (reach_at x j).receiver_index
        → Covers (reach_at x k) p → Covers (reach_at x j) p → k ≡ j
    one_receiver k j p hk hj a b e i f g =
        let u : j < k → ⊥ = λ l. ok.rule19 k hk a.0 j l (mates k j a b) (e, (i, (p, f, g))) in
        let v : k < j → ⊥ = λ l. ok.rule19 j hj b.0 k l (mates j k b a) (sym e, (sym i, (p, g, f))) in
        omega arith

  -- the R line of a covered receiver number
  pub receiver_there : (k p : ℕ) → k < x.count → Data x k → Covers (reach_at x k) p
      → (receiver_line r (reach_at x k) p < r.count) × Receiver r (reach_at x k) p (receiver_line r (reach_at x k) p)
  unfolding receiver_line line_of_point
  receiver_there k p h z c =
      let w = ok.rule18 k h z p c in
      let v = least_there _ w.0 _ w.1 ((point_at_is _ _ _ _ _).1 w.2) in
      (v.0, (point_at_is _ _ _ _ _).0 v.1)
