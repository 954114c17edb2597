-- Demand 3 over the definitions: what the lookup and the way back answer, and how they are refused.
--   Askable x                   = the tape and record of every relation line can be asked for
--   lookup_leads                = each covered tape, record and channel leads to one receiver line and component, those of the line's arithmetic
--   lookup_once                 = two channels of a record never share them
--   there_and_back              = asked from the receiver and component, the answer is that channel, and the other way round
--   lookup_none, back_none      = what is not covered is answered "no trace"
--   lookup_refuses, back_refuses = 20, then the set's own
use Prim.Native.Nat.{ℕ, ◌+◌, ◌-◌, ◌<◌}
use native.Mathlib.Omega.{arith}
use mathlib.Core.Path.{◌≡◌, refl, sym, ap, ◌∙◌, subst}
use mathlib.Core.Logic.Iff
use mathlib.Core.Logic.{◌↔◌, ◌⊎◌, inl, inr, ⊎_elim}
use mathlib.Core.Bool.{Bool, true, not, ◌&&◌}
use lib.Dec.{eqb, leb}
use mathlib.Core.List.{List}
use lib.ListN.{length, get_or}
use Rattle.rules.specs.Places.{every}
use Rattle.rules.specs.Plan.{Refusal, Verdict, fine, refused, Plan, ◌before◌, run}
use Rattle.rules.specs.Layout.{Layout}
use Rattle.rules.specs.Text.{col}
use Rattle.rules.specs.Kinds.{fits}
use Rattle.rules.specs.Sheet.{Sheet, most_lines}
use Rattle.rules.specs.Disc.{printable}
use Rattle.rules.specs.Points.{point_at, is_killed}
use Rattle.rules.specs.Relations.{reach_at}
use Rattle.rules.specs.Cover.{leads, component}
use Rattle.rules.specs.Order.{receiver_line}
use Rattle.rules.specs.Check.{Answer, leads_to_killed, refusal, trace, channel, highest, no_trace, rules, verdict, answer}
use Rattle.rules.specs.Questions.{record_asked, channel_asked, line_asked, component_asked, rule20}
use Rattle.rules.specs.Lookup.{found, found_back, lookup, way_back}
use Rattle.rules.specs.MeetsForm.{Data}
use Rattle.rules.specs.MeetsDisc.{Printable}
use Rattle.rules.specs.MeetsCover.{Carries}
use Rattle.rules.specs.MeetsSet.{Receiver, Killed}
use Rattle.rules.specs.Meets.{Meets}
use Rattle.rules.specs.Refuses.{Order, First}
use Rattle.rules.specs.MeetsQuestions.{Asked, Unasked, AskedChannel, AskedLine, Uncovered, Unreached, asking}
use Rattle.rules.specs.MeetsQuestions.{lookup_order, way_back_order}
use Rattle.rules.proofs.Tests.{says, eqb_is}
use Rattle.rules.proofs.Contrary.{contrary, not_and, not_not, not_every, not_leb}
use Rattle.rules.proofs.Breach.{run_met, run_broken, no_fine}
use Rattle.rules.proofs.Fields.{kind_is}
use Rattle.rules.proofs.Form.{need_breaks}
use Rattle.rules.proofs.Cover.{reached}
use Rattle.rules.proofs.Refuses.{rules_same}
use Rattle.rules.proofs.Same.{Same, same_look, same_then}
use Rattle.rules.proofs.Meets.{verdict_meets}
use Rattle.rules.proofs.Accepted.{sound, receiver_there, receiver_line_lem}
use Rattle.rules.proofs.Order.{killed_is}
use Rattle.rules.proofs.Traces.{found_view, back_view, marked, not_carried, not_reached, found_trace}
use Rattle.rules.proofs.Traces.{one_trace, back_trace, trace_back, traced_range, back_range}

-- an answer that is no refusal
abbrev pub Answered : Answer → Type 0
Answered a = (w : Refusal) → a ≡ refusal w → ⊥

pub answered : (v : Verdict) (a b : Answer) → Answered b → (answer v a ≡ b) ↔ ((v ≡ fine) × (a ≡ b))
unfolding answer
answered fine a b n = (λ e. (refl, e), λ w. w.1)
answered (refused w) a b n = (λ e. absurd (n w (sym e)), λ y. let z : ◌≡◌ {A = ℕ} 0 1 = let e = y.0 in cc in absurd (omega arith))

trace_answered : (l m : ℕ) (d : Bool) → Answered (trace l m d)
trace_answered l m d w e = let z : ◌≡◌ {A = ℕ} 0 1 = cc in omega arith

channel_answered : (c : ℕ) → Answered (channel c)
channel_answered c w e = let z : ◌≡◌ {A = ℕ} 0 1 = cc in omega arith

pub highest_answered : (c : ℕ) → Answered (highest c)
highest_answered c w e = let z : ◌≡◌ {A = ℕ} 0 1 = cc in omega arith

none_answered : Answered no_trace
none_answered w e = let z : ◌≡◌ {A = ℕ} 0 1 = cc in omega arith

-- what is found is no refusal
found_answered : (r x : Sheet) (t : List ℕ) (n c : ℕ) → Answered (found r x t n c)
found_answered r x t n c =
    ⊎_elim (λ w. subst Answered (sym w.2) (trace_answered _ _ _)) (λ w. subst Answered (sym w.1) none_answered) (found_view r x t n c)

back_answered : (r x : Sheet) (t : List ℕ) (n j m : ℕ) → Answered (found_back r x t n j m)
back_answered r x t n j m =
    ⊎_elim (λ w. subst Answered (sym w.1.2) (channel_answered _)) (λ w. subst Answered (sym w.1) none_answered) (back_view r x t n j m)

-- 20, then the set's own
pub asked_then : (t : Bool) (p : Plan) (v : Verdict) → v ≡ run p → (run (rule20 t before p) ≡ fine) ↔ ((t ≡ true) × (v ≡ fine))
unfolding rule20
asked_then t p v e =
    let b = run_met (rule20 t before p) in
    let c = run_met p in
    (λ f. let w = b.0 f in (w.0, e ∙ c.1 w.1), λ w. b.1 (w.0, c.0 (sym e ∙ w.1)))

pub printable_is : (b : ℕ) → (printable b ≡ true) ↔ Printable b
unfolding printable
printable_is b = simp says Iff.rfl

pub asked_is : (L : Layout) (t : List ℕ) (n : ℕ) → (record_asked L t n ≡ true) ↔ Asked L t n
unfolding record_asked printable
asked_is L t n = simp (says, kind_is) Iff.rfl

-- questions out of range
pub asked_not : (L : Layout) (t : List ℕ) (n : ℕ) → (record_asked L t n ≡ true → ⊥) ↔ Unasked L t n
unfolding record_asked fits
asked_not L t n =
    let wide = eqb (length t) (L.tape.last + 1 - L.tape.first) in
    let prints = every (length t) (λ i. printable (get_or t i 0)) in
    let starts = not (eqb (col t 1) 32) in
    let few = leb n L.most_record in
    let a = not_and wide (prints && (starts && few)) in
    let b = not_and prints (starts && few) in
    let c = not_and starts few in
    let e = contrary (eqb_is (length t) (L.tape.last + 1 - L.tape.first)) in
    let p = not_every (length t) (λ i. printable (get_or t i 0)) in
    let q : (i : ℕ) → (printable (get_or t i 0) ≡ true → ⊥) ↔ (Printable (get_or t i 0) → ⊥) = λ i. contrary (printable_is (get_or t i 0)) in
    let s = Iff.trans (not_not (eqb (col t 1) 32)) (eqb_is (col t 1) 32) in
    let m = not_leb n L.most_record in (
      λ h.
          ⊎_elim (λ u. inl (e.0 u))
          (λ u.
          inr
          (⊎_elim (λ v. let w = p.0 v in inl (w.0, w.1, (q _).0 w.2))
          (λ v. inr (⊎_elim (λ w. inl (s.0 w)) (λ w. inr (m.0 w)) (c.0 v))) (b.0 u)))
          (a.0 h),
      λ h.
          a.1
          (⊎_elim (λ u. inl (e.1 u))
          (λ u.
          inr
          (b.1
          (⊎_elim (λ v. inl (p.1 (v.0, v.1, (q _).1 v.2)))
          (λ v. inr (c.1 (⊎_elim (λ w. inl (s.1 w)) (λ w. inr (m.1 w)) v))) u)))
          h),
    )

-- a number from 1 to b
between_not : (b c : ℕ) → (leb 1 c && leb c b ≡ true → ⊥) ↔ ((c ≡ 0) ⊎ (b < c))
between_not b c =
    let a = not_and (leb 1 c) (leb c b) in
    let z : (leb 1 c ≡ true → ⊥) ↔ (c ≡ 0) =
    (λ h. let l = (not_leb 1 c).0 h in omega arith, λ e. (not_leb 1 c).1 (omega arith)) in
    let m = not_leb c b in
    (λ h. ⊎_elim (λ u. inl (z.0 u)) (λ u. inr (m.0 u)) (a.0 h), λ h. a.1 (⊎_elim (λ u. inl (z.1 u)) (λ u. inr (m.1 u)) h))

both_not : (a b : Bool) {A B : Type 0} → (a ≡ true → ⊥) ↔ A → (b ≡ true → ⊥) ↔ B → (a && b ≡ true → ⊥) ↔ (A ⊎ B)
both_not a b p q =
    let e = not_and a b in
    (λ h. ⊎_elim (λ u. inl (p.0 u)) (λ u. inr (q.0 u)) (e.0 h), λ h. e.1 (⊎_elim (λ u. inl (p.1 u)) (λ u. inr (q.1 u)) h))

-- 20, then a plan
pub asking_same : (q : Bool) {A U : Type 0} → (q ≡ true) ↔ A → (q ≡ true → ⊥) ↔ U → {p : Plan} {o : Order} → Same p o
    → Same (rule20 q before p) (asking A U o)
unfolding rule20
asking_same q a u s = same_then (same_look a (need_breaks _ _ u)) (λ _. s)

-- an answer is a refusal exactly where the plan before it is
pub refused_is : (p : Plan) (o : Order) → Same p o → (a : Answer) → Answered a → (w : Refusal) → (answer (run p) a ≡ refusal w) ↔ First o w
unfolding answer
refused_is p o s a n w =
    Iff.trans (go (run p)) (Iff.trans (run_broken p w) (s.broken w))
  where
    go : (v : Verdict) → (answer v a ≡ refusal w) ↔ (v ≡ refused w)
    go fine = (λ e. absurd (n w e), λ e. no_fine (sym e))
    go (refused u) = (λ e. let z : u ≡ w = cc in ap refused z, λ e. let z : u ≡ w = cc in ap refusal z)

module _ (r s x : Sheet) (t : List ℕ) (n : ℕ) where
  pub lookup_is : (c : ℕ) (a : Answer) → Answered a
      → (lookup r s x t n c ≡ a) ↔ ((Asked x.layout t n × AskedChannel x.layout c) × (Meets r s x × (found r x t n c ≡ a)))
  unfolding lookup verdict channel_asked
  lookup_is c a g =
      let b = answered (run (rule20 (record_asked x.layout t n && channel_asked x.layout c) before rules r s x)) (found r x t n c) a g in
      let d = asked_then (record_asked x.layout t n && channel_asked x.layout c) (rules r s x) (verdict r s x) refl in (
        λ e. let w = b.0 e in let v = simp (says, asked_is, verdict_meets) at (d.0 w.0) in (v.0, (v.1, w.1)),
        λ w. b.1 (d.1 (simp (says, asked_is, verdict_meets) (w.0, w.1.0)), w.1.1),
      )

  pub back_is : (j m : ℕ) (a : Answer) → Answered a
      → (way_back r s x t n j m ≡ a) ↔ ((Asked x.layout t n × AskedLine j m) × (Meets r s x × (found_back r x t n j m ≡ a)))
  unfolding way_back verdict line_asked component_asked
  back_is j m a g =
      let q : Bool = record_asked x.layout t n && (line_asked j && component_asked m) in
      let b = answered (run (rule20 q before rules r s x)) (found_back r x t n j m) a g in
      let d = asked_then q (rules r s x) (verdict r s x) refl in (
        λ e. let w = b.0 e in let v = simp (says, asked_is, verdict_meets) at (d.0 w.0) in (v.0, (v.1, w.1)),
        λ w. b.1 (d.1 (simp (says, asked_is, verdict_meets) (w.0, w.1.0)), w.1.1),
      )

  channels_same : (c : ℕ) → Same (rule20 (record_asked x.layout t n && channel_asked x.layout c) before rules r s x) (lookup_order r s x t n c)
  unfolding channel_asked
  channels_same c =
      asking_same _ (simp (says, asked_is) Iff.rfl)
      (both_not (record_asked x.layout t n) _ (asked_not x.layout t n) (between_not x.layout.most_channel c))
      (rules_same r s x)

  pub lookup_refuses : (c : ℕ) (w : Refusal) → (lookup r s x t n c ≡ refusal w) ↔ First (lookup_order r s x t n c) w
  unfolding lookup
  lookup_refuses c w = refused_is _ _ (channels_same c) (found r x t n c) (found_answered r x t n c) w

  lines_same : (j m : ℕ)
      → Same (rule20 (record_asked x.layout t n && (line_asked j && component_asked m)) before rules r s x) (way_back_order r s x t n j m)
  unfolding line_asked component_asked
  lines_same j m =
      asking_same _ (simp (says, asked_is) Iff.rfl)
      (both_not (record_asked x.layout t n) _ (asked_not x.layout t n)
      (both_not (leb 1 j && leb j most_lines) _ (between_not most_lines j) (between_not 9 m)))
      (rules_same r s x)

  pub back_refuses : (j m : ℕ) (w : Refusal) → (way_back r s x t n j m ≡ refusal w) ↔ First (way_back_order r s x t n j m) w
  unfolding way_back
  back_refuses j m w = refused_is _ _ (lines_same j m) (found_back r x t n j m) (back_answered r x t n j m) w

  pub lookup_once : (c d l m : ℕ) (y z : Bool) → lookup r s x t n c ≡ trace l m y → lookup r s x t n d ≡ trace l m z → c ≡ d
  lookup_once c d l m y z e f =
      let a = (lookup_is c _ (trace_answered l m y)).0 e in
      let b = (lookup_is d _ (trace_answered l m z)).0 f in
      one_trace r s x a.1.0 t n c d l m y z a.1.1 b.1.1

  pub lookup_marks : (c l m : ℕ) (d : Bool) → lookup r s x t n c ≡ trace l m d → (d ≡ true) ↔ Killed r (l - 1)
  lookup_marks c l m d e =
      let a = (lookup_is c _ (trace_answered l m d)).0 e in
      let k = killed_is (point_at r (l - 1)) in
      let y = marked r x t n c l m d a.1.1 in
      (λ z. k.0 (sym y ∙ z), λ z. y ∙ k.1 z)

  pub there_and_back : (c l m : ℕ) → ((d : Bool) × (lookup r s x t n c ≡ trace l m d)) ↔ (way_back r s x t n l m ≡ channel c)
  there_and_back c l m = (
    λ w.
        let d = w.0 in
        let a = (lookup_is c _ (trace_answered l m d)).0 w.1 in
        let v = traced_range r s x a.1.0 t n c l m d a.1.1 in
        (back_is l m _ (channel_answered c)).1
        ((a.0.0, ((v.0, v.1.0), v.1.1)), (a.1.0, back_trace r s x a.1.0 t n c l m d a.1.1)),
    λ e.
        let a = (back_is l m _ (channel_answered c)).0 e in (
          is_killed (point_at r (l - 1)),
          (lookup_is c _ (trace_answered l m _)).1
              ((a.0.0, back_range r s x a.1.0 t n c l m a.1.1), (a.1.0, trace_back r s x a.1.0 t n c l m a.1.1)),
        ),
  )

  pub lookup_none : (c : ℕ)
      → (lookup r s x t n c ≡ no_trace)
      ↔ ((Asked x.layout t n × AskedChannel x.layout c)
      × (Meets r s x × Uncovered x t n c))
  lookup_none c = Iff.trans (lookup_is c no_trace none_answered) (simp not_carried Iff.rfl)

  pub back_none : (j m : ℕ)
      → (way_back r s x t n j m ≡ no_trace)
      ↔ ((Asked x.layout t n × AskedLine j m)
      × (Meets r s x × Unreached r x t n j m))
  back_none j m = Iff.trans (back_is j m no_trace none_answered) (simp not_reached Iff.rfl)

-- the tape and record of every relation line can be asked for
abbrev pub Askable : Sheet → Type 0
Askable x = (k : ℕ) → k < x.count → Data x k → Asked x.layout (reach_at x k).tape (reach_at x k).number

module _ (r s x : Sheet) (ok : Meets r s x) (asks : Askable x) where
  pub lookup_leads : (k c : ℕ) → k < x.count → Data x k → Carries (reach_at x k) c
      → (j : ℕ) × (j < r.count) × Receiver r (reach_at x k) (leads (reach_at x k) c) j
      × ((i : ℕ) → i < r.count → Receiver r (reach_at x k) (leads (reach_at x k) c) i → i ≡ j)
      × (lookup r s x (reach_at x k).tape (reach_at x k).number c ≡ trace (j + 1) (component (reach_at x k) c) (is_killed (point_at r j)))
  unfolding leads_to_killed
  lookup_leads k c h z f =
      let q = reach_at x k in
      let w = sound r s x ok k h z in
      let v = receiver_there r s x ok k (leads q c) h z (reached _ q w c f).0 in
      let o = w.first in
      let m = w.most in
      let f0 = f.0 in
      let f1 = f.1 in (
        receiver_line r q (leads q c),
        v.0,
        v.1,
        (λ i l y. sym (receiver_line_lem r ok.rule10 q (leads q c) i l y)),
        (lookup_is r s x q.tape q.number c _ (trace_answered _ _ _)).1
            ((asks k h z, (omega arith, omega arith)), (ok, found_trace r s x ok q.tape q.number c k h (z, (refl, refl)) f)),
      )
