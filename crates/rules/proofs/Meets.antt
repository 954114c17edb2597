-- Demand 2 over the definitions: a set is accepted exactly when it meets every rule, and refused exactly by the first breach in the order.
--   verdict_meets     = the verdict is fine exactly when Meets holds
--   verdict_refuses   = it refuses by w exactly when w's rule is broken at w's place and each rule before it in the order is met
use Prim.Native.Nat.{ℕ, ◌<◌}
use mathlib.Core.Path.{◌≡◌}
use mathlib.Core.Logic.Iff
use mathlib.Core.Logic.{◌↔◌}
use Rattle.rules.specs.Plan.{Refusal, fine, refused}
use Rattle.rules.specs.Sheet.{Sheet}
use Rattle.rules.specs.Form.{form}
use Rattle.rules.specs.Check.{rules, verdict}
use Rattle.rules.specs.MeetsForm.{Formed}
use Rattle.rules.specs.Meets.{Meets}
use Rattle.rules.specs.Refuses.{Kept, form_order, codes_order, shot_order, relation_order, order, Refuses}
use Rattle.rules.proofs.Breach.{Met, run_met, run_broken}
use Rattle.rules.proofs.Refuses.{form_same, rules_same}

form_kept : (i : ℕ) (f : Sheet) → Kept (form_order i f) ↔ Formed i f
form_kept i f = (
  λ t.
      record {
        rule1 = t.0;
        rule2 = t.1.0;
        rule29 = t.1.1.0;
        rule3 = λ k h. (t.1.1.1 k h).0;
        rule4 = λ k h. (t.1.1.1 k h).1.0;
        rule5 = λ k h. (t.1.1.1 k h).1.1.0;
        rule6 = λ k h. (t.1.1.1 k h).1.1.1;
      },
  λ w. (w.rule1, (w.rule2, (w.rule29, λ k h. (w.rule3 k h, (w.rule4 k h, (w.rule5 k h, w.rule6 k h)))))),
)

pub form_is : (i : ℕ) (f : Sheet) → Met (form i f) ↔ Formed i f
form_is i f = Iff.trans (form_same i f).met (form_kept i f)

module _ (r s x : Sheet) where
  kept_meets : Kept (order r s x) → Meets r s x
  kept_meets t =
      let headers = t.1.1.1 in
      let codes = headers.1.1.1.1.0 in
      let points = headers.1.1.1.1.1 in
      let shots = points.1.0 in
      let lines = points.1.1.0 in
      record {
        form_r = (form_kept _ r).0 t.0;
        form_s = (form_kept _ s).0 t.1.0;
        form_x = (form_kept _ x).0 t.1.1.0;
        rule7 = headers.0;
        rule8 = headers.1.0;
        rule9 = (headers.1.1.0, headers.1.1.1.0);
        rule24 = codes.0;
        rule25_r = codes.1.0;
        rule25_s = codes.1.1.0;
        rule25_x = codes.1.1.1;
        rule10 = points.0;
        rule11 = λ k h. (shots k h).0;
        rule12 = λ k h. (shots k h).1;
        rule13 = λ k h z. (lines k h).0 z;
        rule14 = λ k h z. (lines k h).1.0 z;
        rule15 = points.1.1.1;
        rule16 = λ k h z. (lines k h).1.1.0 z;
        rule17 = λ k h z. (lines k h).1.1.1.0 z;
        rule18 = λ k h z. (lines k h).1.1.1.1.0 z;
        rule19 = λ k h z. (lines k h).1.1.1.1.1 z;
      }

  meets_kept : Meets r s x → Kept (order r s x)
  meets_kept m =
      let line : (k : ℕ) → k < x.count → Kept (relation_order r s x k) =
      λ k h. (m.rule13 k h, (m.rule14 k h, (m.rule16 k h, (m.rule17 k h, (m.rule18 k h, m.rule19 k h))))) in
      let codes : Kept (codes_order r s x) = (m.rule24, (m.rule25_r, (m.rule25_s, m.rule25_x))) in
      let shot : (k : ℕ) → k < s.count → Kept (shot_order s k) = λ k h. (m.rule11 k h, m.rule12 k h) in (
        (form_kept _ r).1 m.form_r,
        (
          (form_kept _ s).1 m.form_s,
          (
            (form_kept _ x).1 m.form_x,
            (m.rule7, (m.rule8, (m.rule9.0, (m.rule9.1, (codes, (m.rule10, (shot, (line, m.rule15)))))))),
          ),
        ),
      )

  pub verdict_meets : (verdict r s x ≡ fine) ↔ Meets r s x
  unfolding verdict
  verdict_meets = Iff.trans (run_met (rules r s x)) (Iff.trans (rules_same r s x).met (kept_meets, meets_kept))

  pub verdict_refuses : (w : Refusal) → (verdict r s x ≡ refused w) ↔ Refuses r s x w
  unfolding verdict
  verdict_refuses w = Iff.trans (run_broken (rules r s x) w) ((rules_same r s x).broken w)
