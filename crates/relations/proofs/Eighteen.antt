-- 18 of a relation line, then 19.
--   eighteen_broken = a receiver lacks; eighteen_fine = all are there, and 19 decides
--   ready           = then 19 may be asked
use Prim.Native.Nat.{ℕ, ◌+◌, ◌<◌}
use native.Mathlib.Omega.{arith}
use mathlib.Core.Path.{◌≡◌, sym, ap, ◌∙◌, subst}
use mathlib.Core.Bool.{Bool, true, false}
use mathlib.Core.List.{List}
use lib.Dec.{ltb}
use borrow.Author.Tests.{ltb-true, lt-ltb}
use Rattle.rules.specs.Plan.{Refusal, Verdict, fine, refused, №, run}
use Rattle.rules.specs.Layout.{Layout, sps93}
use Rattle.rules.specs.Sheet.{Sheet}
use Rattle.rules.specs.Relations.{reach_at}
use Rattle.rules.specs.Order.{receivers_there, rule18, rule19}
use Rattle.rules.proofs.Tests.{yes_no}
use Rattle.rules.proofs.Steps.{need_met, need_broken, before_met, before_broken}
use Rattle.lines.specs.Reading.{sheet_of}
use Rattle.lines.specs.declared.Reading.{Reading}
use Rattle.lines.proofs.Sheets.{layout_is}
use Rattle.once.specs.Marks.{Ready}
use Rattle.relations.specs.Walk.{reach_fits, Waiting}

pub receiver_column : (how : Reading) (x : List ℕ) → 64 ≡ (sheet_of how x).layout.from_receiver.first
unfolding sps93
receiver_column how x = ap (λ (L : Layout). L.from_receiver.first) (sym (layout_is how x))

-- a refusal is not fine
pub never_fine : {A : Type 0} (v : Verdict) (w : Refusal) → v ≡ refused w → fine ≡ v → A
never_fine v w e f = absurd (let z : ◌≡◌ {A = ℕ} 0 1 = cc in omega arith)

module _ (r x : Sheet) (k : ℕ) (t : Bool) (e : t ≡ receivers_there r (reach_at x k)) where
  pub eighteen_broken : t ≡ false → (c : ℕ) → c ≡ x.layout.from_receiver.first → refused (№ 18 3 (k + 1) c) ≡ run (reach_fits r x k)
  unfolding rule18
  eighteen_broken n c lay = ap (λ (c : ℕ). refused (№ 18 3 (k + 1) c)) lay ∙ before_broken _ _ _ (need_broken _ _ (sym e ∙ n))

  pub eighteen_fine : t ≡ true → (v : Verdict) → v ≡ run (rule19 x k) → v ≡ run (reach_fits r x k)
  unfolding rule18
  eighteen_fine y v f = f ∙ before_met _ _ (need_met _ _ (sym e ∙ y))

  pub ready : (o u : List ℕ) (a : ℕ) → Waiting r o x u a k → t ≡ true → Ready r o x u a k
  ready o u a w y =
      record {
        receivers = w.receivers;
        rows = w.rows;
        relations = w.relations;
        alike = w.alike;
        lines = w.lines;
        own = w.own;
        there =
            λ j l g.
            yes_no (ltb j k) (λ s. w.there j l (ltb-true j k s))
            (λ s.
            let n : j < k → ⊥ = λ i. s (lt-ltb j k i) in
            let z : k ≡ j = omega arith in
            subst (λ (m : ℕ). receivers_there r (reach_at x m) ≡ true) z (sym e ∙ y));
        kept = w.kept;
      }
