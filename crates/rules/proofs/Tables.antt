-- The line that names a code: what is asked, in which order it is refused, and which line is answered.
--   table_is        = a line is answered exactly where the question is in range, the set meets every rule, and that line names the code
--   table_refuses   = a refusal is the first breach of the order
--   naming_few      = the line is one of the file
use Prim.Native.Nat.{ℕ, suc, ◌+◌, ◌-◌, ◌≤◌, ◌<◌}
use native.Mathlib.Omega.{arith}
use mathlib.Core.Path.{◌≡◌, refl, sym, ap, subst, ◌∙◌}
use mathlib.Core.Logic.Iff
use mathlib.Core.Logic.{◌↔◌, inl, inr, ⊎_elim}
use mathlib.Core.Bool.{Bool, true, ◌&&◌}
use mathlib.Core.List.{List}
use lib.Dec.{eqb, ltb, lit≤}
use lib.ListN.{length}
use borrow.Author.Tests.{lt-ltb, le-ltb}
use Rattle.rules.specs.Places.{pick, least}
use Rattle.rules.specs.Plan.{Refusal, ◌before◌, run}
use Rattle.rules.specs.Sheet.{Sheet, all_lines, most_lines}
use Rattle.rules.specs.Lines.{kind_of, heads}
use Rattle.rules.specs.Codes.{tables_of, names, line_naming}
use Rattle.rules.specs.Check.{refusal, header_line, rules, verdict}
use Rattle.rules.specs.Questions.{rule20}
use Rattle.rules.specs.Tables.{written, code_asked, table_line}
use Rattle.rules.specs.MeetsCodes.{CodeOf, NamesCode}
use Rattle.rules.specs.Meets.{Meets}
use Rattle.rules.specs.Refuses.{First}
use Rattle.rules.specs.MeetsQuestions.{KindLetter, AskedCode, NamedIn, table_order}
use Rattle.rules.proofs.Tests.{says, and_is}
use Rattle.rules.proofs.Contrary.{contrary}
use Rattle.rules.proofs.Least.{least_is, least_first, least_none}
use Rattle.rules.proofs.Headers.{in_header, heads_few}
use Rattle.rules.proofs.Codes.{code_of, names_is}
use Rattle.rules.proofs.Meets.{verdict_meets}
use Rattle.rules.proofs.Refuses.{rules_same}
use Rattle.rules.proofs.OneFile.{letter_kind, one_kind}
use Rattle.rules.proofs.Demand3.{Answered, answered, asked_then, asking_same, refused_is}

pub asked_code : (b : ℕ) (c : List ℕ) → (code_asked (kind_of b) c ≡ true) ↔ AskedCode b c
unfolding code_asked
asked_code b c =
    let i = kind_of b in
    let e : (ltb 0 i && (eqb (length (written i c)) 2 && (tables_of i).is_code (written i c)) ≡ true)
    ↔ (KindLetter b i × ((length (written i c) ≡ 2) × CodeOf i (written i c))) = simp (and_is, letter_kind, says, code_of) Iff.rfl in (
      λ t. let v = e.0 t in (i, v.0, v.1),
      λ w. e.1 (subst (λ (i : ℕ). KindLetter b i × ((length (written i c) ≡ 2) × CodeOf i (written i c))) (sym (one_kind b w.0 w.1)) (w.1, w.2)),
    )

-- the line that names a code
module _ (r : Sheet) (i : ℕ) (c : List ℕ) where
  abbrev here : ℕ → Bool
  here j = names r.layout i c (r.row j)

  first_line : (k : ℕ) → least (heads r) here ≡ k → k < heads r → line_naming r i c ≡ k + 1
  unfolding line_naming pick
  first_line k e h = rw (e, lt-ltb k (heads r) h)

  no_line_lem : least (heads r) here ≡ heads r → line_naming r i c ≡ 0
  unfolding line_naming pick
  no_line_lem e = rw (e, le-ltb (heads r) (heads r) (omega arith))

  pub naming_few : all_lines r ≤ most_lines → line_naming r i c ≤ most_lines
  naming_few n =
      let f = heads_few r in
      ⊎_elim (λ w. let e = first_line _ refl w.0 in let h = w.0 in omega arith) (λ w. let e = no_line_lem w.0 in omega arith)
      (least_is (heads r) here)

  -- no code is named twice
  module _ (once : (k j : ℕ) → k < heads r → j < k → here k ≡ true → here j ≡ true → ⊥) where
    naming_is : (l : ℕ) → (line_naming r i c ≡ l) ↔ NamedIn r i c l
    naming_is l = (
      λ e.
          ⊎_elim
          (λ w. inl (least (heads r) here, sym (first_line _ refl w.0) ∙ e, (in_header r _).0 w.0, (names_is _ i c _).0 w.1))
          (λ w. inr (sym (sym (no_line_lem w.0) ∙ e), λ v. w.1 v.0 ((in_header r _).1 v.1) ((names_is _ i c _).1 v.2)))
          (least_is (heads r) here),
      λ w.
          ⊎_elim
          (λ v.
          let h = (in_header r v.0).1 v.2 in
          let t = (names_is _ i c _).1 v.3 in
          first_line v.0 (least_first (heads r) v.0 here (h, t, λ j g u. once v.0 j h g t u)) h ∙ v.1)
          (λ v.
          no_line_lem (least_none (heads r) here (λ k h t. v.1 (k, (in_header r k).0 h, (names_is _ i c _).0 t))) ∙ sym v.0) w,
    )

line_answered : (l : ℕ) → Answered (header_line l)
line_answered l w e = let z : ◌≡◌ {A = ℕ} 0 1 = cc in omega arith

module _ (r s x : Sheet) (b : ℕ) (c : List ℕ) where
  abbrev i : ℕ
  i = kind_of b

  abbrev code : List ℕ
  code = written i c

  named_once : Meets r s x → AskedCode b c → (k j : ℕ) → k < heads r → j < k → here r i code k ≡ true → here r i code j ≡ true → ⊥
  named_once ok a k j h g t u =
      let few = heads_few r in
      let at : suc (i - 1) ≡ i = ⊎_elim (λ v. from v.1) (λ w. ⊎_elim (λ v. from v.1) (λ v. from v.1) w) a.1 in
      let small : i - 1 < 3 = ⊎_elim (λ v. less (lit≤ tt) v.1) (λ w. ⊎_elim (λ v. less (lit≤ tt) v.1) (λ v. less (lit≤ tt) v.1) w) a.1 in
      ok.rule24 k (omega arith) ((in_header r k).0 h) (i - 1) small code
      (subst (λ (i : ℕ). NamesCode r.layout i code (r.row k)) (sym at) ((names_is _ i code _).0 t)) j g
      (subst (λ (i : ℕ). NamesCode r.layout i code (r.row j)) (sym at) ((names_is _ i code _).0 u))
    where
      same : kind_of b ≡ a.0
      same = one_kind b a.0 a.1

      from : {n : ℕ} → a.0 ≡ suc n → suc (kind_of b - 1) ≡ kind_of b
      from e = let z = same in omega arith

      less : {n : ℕ} → n ≤ 3 → a.0 ≡ n → kind_of b - 1 < 3
      less h e = let z = same in omega arith

  pub table_is : (l : ℕ) → (table_line r s x b c ≡ header_line l) ↔ (AskedCode b c × (Meets r s x × NamedIn r i code l))
  unfolding table_line verdict
  table_is l =
      let o = answered (run (rule20 (code_asked i c) before rules r s x)) (header_line (line_naming r i code)) (header_line l) (line_answered l) in
      let d = asked_then (code_asked i c) (rules r s x) (verdict r s x) refl in
      let q = asked_code b c in (
        λ e.
            let w = o.0 e in
            let v = d.0 w.0 in
            let a = q.0 v.0 in
            let ok = (verdict_meets r s x).0 v.1 in
            let z : line_naming r i code ≡ l = let y = w.1 in cc in
            (a, (ok, (naming_is r i code (named_once ok a) l).0 z)),
        λ w.
            let ok = w.1.0 in
            o.1 (d.1 (q.1 w.0, (verdict_meets r s x).1 ok), ap header_line ((naming_is r i code (named_once ok w.0) l).1 w.1.1)),
      )

  pub table_refuses : (w : Refusal) → (table_line r s x b c ≡ refusal w) ↔ First (table_order r s x b c) w
  unfolding table_line
  table_refuses w =
      refused_is _ _ (asking_same _ (asked_code b c) (contrary (asked_code b c)) (rules_same r s x)) (header_line (line_naming r i code)) (line_answered _) w
