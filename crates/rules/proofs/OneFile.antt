-- One file in the morning: which kinds there are, what the form check answers, and how it hangs together with the cross-check.
--   letter_kind, one_kind, asked_kind  = the letters of kinds
--   form_formed, form_refuses          = a file is formed exactly where its kind is one and it meets 1 to 6; else the first breach is told
--   parts_formed                       = in an accepted set each file is formed
--   first_part, second_part, third_part = where one is not, the cross-check refuses as the first of the three does
use Prim.Native.Nat.{ℕ}
use native.Mathlib.Omega.{arith}
use mathlib.Core.Path.{◌≡◌, refl, sym, ap, subst, ◌∙◌}
use mathlib.Core.Logic.{◌↔◌, inl, inr, ⊎_elim}
use mathlib.Core.Bool.{Bool, true, false}
use lib.Dec.{eqb, ltb}
use borrow.Author.Tests.{eqb-true, eq-eqb, ltb-true}
use Rattle.rules.specs.Places.{pick}
use Rattle.rules.specs.Plan.{Refusal, №, Verdict, fine, refused, file_r, file_s, file_x, run}
use Rattle.rules.specs.Sheet.{Sheet}
use Rattle.rules.specs.Lines.{kind_of}
use Rattle.rules.specs.Form.{form}
use Rattle.rules.specs.Check.{accepted, refusal, formed, rules, verdict, answer, cross}
use Rattle.rules.specs.Questions.{rule20}
use Rattle.rules.specs.OneFile.{kind_asked, one_file, file_form}
use Rattle.rules.specs.MeetsForm.{Formed}
use Rattle.rules.specs.Refuses.{First}
use Rattle.rules.specs.MeetsQuestions.{KindLetter, AskedKind, file_order}
use Rattle.rules.proofs.Contrary.{contrary}
use Rattle.rules.proofs.Breach.{run_met}
use Rattle.rules.proofs.Steps.{need_met, before_met, before_broken}
use Rattle.rules.proofs.Refuses.{form_same}
use Rattle.rules.proofs.Meets.{form_is}
use Rattle.rules.proofs.Demand3.{Answered, answered, asked_then, asking_same, refused_is}

-- a letter's kind
pub letter_kind : (b : ℕ) → (ltb 0 (kind_of b) ≡ true) ↔ KindLetter b (kind_of b)
unfolding kind_of pick
letter_kind b = go (eqb b 82) (eqb b 83) (eqb b 88) refl refl refl
  where
    kind : Bool → Bool → Bool → ℕ
    kind r s x = pick r file_r (pick s file_s (pick x file_x 0))

    go : (r s x : Bool) → eqb b 82 ≡ r → eqb b 83 ≡ s → eqb b 88 ≡ x → (ltb 0 (kind r s x) ≡ true) ↔ KindLetter b (kind r s x)
    go true s x p q w = (λ _. inl (eqb-true b 82 p, refl), λ _. refl)
    go false true x p q w = (λ _. inr (inl (eqb-true b 83 q, refl)), λ _. refl)
    go false false true p q w = (λ _. inr (inr (eqb-true b 88 w, refl)), λ _. refl)
    go false false false p q w = (
      λ e. absurd (let z = ltb-true 0 0 e in omega arith),
      λ v. ⊎_elim (λ u. let z : ◌≡◌ {A = ℕ} 0 1 = u.1 in absurd (omega arith))
          (λ u. ⊎_elim (λ v. let z : ◌≡◌ {A = ℕ} 0 2 = v.1 in absurd (omega arith)) (λ v. let z : ◌≡◌ {A = ℕ} 0 3 = v.1 in absurd (omega arith)) u) v,
    )

pub one_kind : (b i : ℕ) → KindLetter b i → kind_of b ≡ i
unfolding kind_of pick
one_kind b i (inl v) = rw (eq-eqb b 82 v.0) (sym v.1)
one_kind b i (inr (inl v)) = let e : b ≡ 83 = v.0 in rw e (sym v.1)
one_kind b i (inr (inr v)) = let e : b ≡ 88 = v.0 in rw e (sym v.1)

pub asked_kind : (b : ℕ) → (kind_asked b ≡ true) ↔ AskedKind b
unfolding kind_asked
asked_kind b = (
  λ t. (kind_of b, (letter_kind b).0 t),
  λ w. (letter_kind b).1 (subst (λ (i : ℕ). KindLetter b i) (sym (one_kind b w.0 w.1)) w.1),
)

formed_answered : Answered formed
formed_answered w e = let z : ◌≡◌ {A = ℕ} 0 1 = cc in omega arith

module _ (b : ℕ) (f : Sheet) where
  pub form_formed : (file_form b f ≡ formed) ↔ ((i : ℕ) × KindLetter b i × Formed i f)
  unfolding file_form one_file
  form_formed =
      let o = answered (run (one_file b f)) formed formed formed_answered in
      let d = asked_then (kind_asked b) (form (kind_of b) f) (run (form (kind_of b) f)) refl in
      let q = asked_kind b in (
        λ e.
            let v = d.0 (o.0 e).0 in
            let k = q.0 v.0 in
            let g = (form_is (kind_of b) f).0 ((run_met (form (kind_of b) f)).0 v.1) in
            (k.0, k.1, subst (λ (i : ℕ). Formed i f) (one_kind b k.0 k.1) g),
        λ w.
            let g = subst (λ (i : ℕ). Formed i f) (sym (one_kind b w.0 w.1)) w.2 in
            o.1 (d.1 (q.1 (w.0, w.1), (run_met (form (kind_of b) f)).1 ((form_is (kind_of b) f).1 g)), refl),
      )

  pub form_refuses : (w : Refusal) → (file_form b f ≡ refusal w) ↔ First (file_order b f) w
  unfolding file_form one_file
  form_refuses w =
      refused_is _ _ (asking_same _ (asked_kind b) (contrary (asked_kind b)) (form_same (kind_of b) f)) formed formed_answered w

  -- a kind that is one
  pub form_kind : (i : ℕ) → kind_of b ≡ i → kind_asked b ≡ true → file_form b f ≡ answer (run (form i f)) formed
  unfolding file_form one_file rule20
  form_kind i e t =
      ap (λ (v : Verdict). answer v formed) (sym (before_met (rule20 (kind_asked b)) (form (kind_of b) f) (need_met (kind_asked b) _ t)))
      ∙ ap (λ (i : ℕ). answer (run (form i f)) formed) e

  pub no_kind : (kind_asked b ≡ true → ⊥) → file_form b f ≡ refusal (№ 20 0 0 0)
  no_kind n = (form_refuses (№ 20 0 0 0)).1 (inl ((λ k. n ((asked_kind b).1 k)), refl))

-- the verdict of a form
told_formed : (v : Verdict) → answer v formed ≡ formed → v ≡ fine
unfolding answer
told_formed v e = ((answered v formed formed formed_answered).0 e).0

told_refused : (v : Verdict) (w : Refusal) → answer v formed ≡ refusal w → v ≡ refused w
unfolding answer
told_refused fine w e = absurd (formed_answered w e)
told_refused (refused u) w e = cc

fine_formed : (v : Verdict) → v ≡ fine → answer v formed ≡ formed
unfolding answer
fine_formed v e = rw e

accepted_answered : (n m k t d : ℕ) → Answered (accepted n m k t d)
accepted_answered n m k t d w e = let z : ◌≡◌ {A = ℕ} 0 1 = cc in omega arith

module _ (r s x : Sheet) where
  form_r_lem : file_form 82 r ≡ answer (run (form file_r r)) formed
  unfolding kind_asked kind_of pick
  form_r_lem = form_kind 82 r file_r refl refl

  form_s_lem : file_form 83 s ≡ answer (run (form file_s s)) formed
  unfolding kind_asked kind_of pick
  form_s_lem = form_kind 83 s file_s refl refl

  form_x_lem : file_form 88 x ≡ answer (run (form file_x x)) formed
  unfolding kind_asked kind_of pick
  form_x_lem = form_kind 88 x file_x refl refl

  refuses : (w : Refusal) → refused w ≡ run (rules r s x) → cross r s x ≡ refusal w
  unfolding cross verdict answer
  refuses w e = rw (← e)

  pub first_part : (w : Refusal) → file_form 82 r ≡ refusal w → cross r s x ≡ refusal w
  unfolding rules
  first_part w e = refuses w (before_broken (form file_r r) _ w (sym (told_refused _ w (sym form_r_lem ∙ e))))

  module _ (u : file_form 82 r ≡ formed) where
    fine_r : fine ≡ run (form file_r r)
    fine_r = sym (told_formed _ (sym form_r_lem ∙ u))

    pub second_part : (w : Refusal) → file_form 83 s ≡ refusal w → cross r s x ≡ refusal w
    unfolding rules
    second_part w e =
        refuses w (before_broken (form file_s s) _ w (sym (told_refused _ w (sym form_s_lem ∙ e))) ∙ before_met (form file_r r) _ fine_r)

    pub third_part : file_form 83 s ≡ formed → (w : Refusal) → file_form 88 x ≡ refusal w → cross r s x ≡ refusal w
    unfolding rules
    third_part v w e =
        refuses w
        (before_broken (form file_x x) _ w (sym (told_refused _ w (sym form_x_lem ∙ e)))
        ∙ before_met (form file_s s) _ (sym (told_formed _ (sym form_s_lem ∙ v))) ∙ before_met (form file_r r) _ fine_r)

  pub parts_formed : (n m k t d : ℕ) → cross r s x ≡ accepted n m k t d
      → (file_form 82 r ≡ formed) × ((file_form 83 s ≡ formed) × (file_form 88 x ≡ formed))
  unfolding cross verdict rules
  parts_formed n m k t d e =
      let met = (run_met (rules r s x)).0 ((answered (verdict r s x) _ (accepted n m k t d) (accepted_answered n m k t d)).0 e).0 in (
        form_r_lem ∙ fine_formed _ ((run_met (form file_r r)).1 met.0),
        (form_s_lem ∙ fine_formed _ ((run_met (form file_s s)).1 met.1.0), form_x_lem ∙ fine_formed _ ((run_met (form file_x x)).1 met.1.1.0)),
      )
