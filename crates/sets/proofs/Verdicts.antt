-- What the answer to the cross-check tells of the verdict, and a question that is asked after it: 20, then the set's own refusals, then what is found.
--   set_accepted, set_refused            = the verdict behind an answer of the code
--   last_two                             = the traces and the dead traces of an answer that accepts
--   asked_not, own_refusal, asked_fine   = what is answered where the question is out of range, the set is refused, or neither
use Prim.Native.Nat.{ℕ}
use native.Mathlib.Omega.{arith}
use mathlib.Core.Path.{◌≡◌, refl}
use mathlib.Core.Bool.{Bool, true, false}
use mathlib.Core.List.{List}
use Rattle.rules.specs.Plan.{Refusal, Verdict, fine, refused, №, ◌before◌, run}
use Rattle.rules.specs.Sheet.{Sheet}
use Rattle.rules.specs.Check.{Answer as PaperAnswer, accepted, refusal, rules, verdict, answer, points, relations, all_traces, dead_traces, cross}
use Rattle.rules.specs.Questions.{rule20}
use Rattle.rules.proofs.Steps.{need_met, need_broken, before_met, before_broken}
use Rattle.lines.specs.Reading.{sheet_of}
use Rattle.lines.specs.declared.Reading.{Reading}
use Rattle.sets.specs.Paper.{cross_on}

told_refused : (v : Verdict) (a b c d y : ℕ) (w : Refusal) → refusal w ≡ answer v (accepted a b c d y) → v ≡ refused w
unfolding answer
told_refused fine a b c d y w e = absurd (let z : ◌≡◌ {A = ℕ} 0 1 = cc in omega arith)
told_refused (refused u) a b c d y w e = cc

told_accepted : (v : Verdict) (a b c d y a' b' c' d' y' : ℕ) → accepted a b c d y ≡ answer v (accepted a' b' c' d' y') → v ≡ fine
unfolding answer
told_accepted fine a b c d y a' b' c' d' y' e = refl
told_accepted (refused u) a b c d y a' b' c' d' y' e = absurd (let z : ◌≡◌ {A = ℕ} 0 1 = cc in omega arith)

pub last_two : (r s x : Sheet) (n m k t d : ℕ) → cross r s x ≡ accepted n m k t d → (t ≡ all_traces x) × (d ≡ dead_traces r x)
unfolding cross answer
last_two r s x n m k t d = go (verdict r s x)
  where
    go : (v : Verdict) → answer v (accepted (points r) (points s) (relations x) (all_traces x) (dead_traces r x)) ≡ accepted n m k t d
        → (t ≡ all_traces x) × (d ≡ dead_traces r x)
    go fine e = ((cc), (cc))
    go (refused w) e = absurd (let z : ◌≡◌ {A = ℕ} 0 1 = cc in omega arith)

module _ (r s x : Sheet) where
  pub accepted_fine : (n m k t d : ℕ) → accepted n m k t d ≡ cross r s x → verdict r s x ≡ fine
  unfolding cross
  accepted_fine n m k t d e = told_accepted _ n m k t d _ _ _ _ _ e

  pub refused_by : (w : Refusal) → refusal w ≡ cross r s x → verdict r s x ≡ refused w
  unfolding cross
  refused_by w e = told_refused _ _ _ _ _ _ w e

module _ (how : Reading) (r s x : List ℕ) where
  pub set_accepted : (n m k t d : ℕ) → accepted n m k t d ≡ cross_on how r s x → verdict (sheet_of how r) (sheet_of how s) (sheet_of how x) ≡ fine
  set_accepted = accepted_fine _ _ _

  pub set_refused : (w : Refusal) → refusal w ≡ cross_on how r s x → verdict (sheet_of how r) (sheet_of how s) (sheet_of how x) ≡ refused w
  set_refused = refused_by _ _ _

module _ (r s x : Sheet) (A : PaperAnswer) (q : Bool) where
  abbrev Says : PaperAnswer → Type 0
  Says a = a ≡ answer (run (rule20 q before rules r s x)) A

  pub asked_not : q ≡ false → Says (refusal (№ 20 0 0 0))
  unfolding rule20 answer
  asked_not z = rw (← before_broken (rule20 q) (rules r s x) (№ 20 0 0 0) (need_broken q _ z))

  module _ (y : q ≡ true) where
    in_range : fine ≡ run (rule20 q)
    unfolding rule20
    in_range = need_met q _ y

    pub own_refusal : (w : Refusal) → verdict r s x ≡ refused w → Says (refusal w)
    unfolding verdict answer
    own_refusal w z = rw (← before_met _ (rules r s x) in_range, z)

    pub asked_fine : verdict r s x ≡ fine → Says A
    unfolding verdict answer
    asked_fine z = rw (← before_met _ (rules r s x) in_range, z)
