-- One line that is read: which can be asked for, and how it is refused, whatever the medium.
--   point_fine, relation_fine       = its verdict is fine exactly where the line can be asked for and meets 3 to 6
--   point_refused, relation_refused = it refuses exactly by the first breach in the order
--   point_line_listed, relation_line_listed = its refusals are listed
use Prim.Native.Nat.{ℕ, zero, suc, ◌-◌, ◌≤◌}
use native.Mathlib.Omega.{arith}
use mathlib.Core.Path.{◌≡◌, refl, sym, ◌∙◌}
use mathlib.Core.Logic.Iff
use mathlib.Core.Logic.{◌↔◌, ◌⊎◌, inl, inr, ⊎_elim}
use mathlib.Core.Bool.{Bool, true, false, ◌&&◌}
use mathlib.Core.List.{List}
use lib.Dec.{eqb}
use borrow.Author.Tests.{eqb-true, eq-eqb}
use Rattle.rules.specs.Places.{pick}
use Rattle.rules.specs.Plan.{Refusal, fine, refused, file_r, file_s, file_x}
use Rattle.rules.specs.Layout.{sps93}
use Rattle.rules.specs.Sheet.{Sheet, most_lines}
use Rattle.rules.specs.Medium.{Medium, sheet}
use Rattle.rules.specs.Lines.{kind_of}
use Rattle.rules.specs.Questions.{rule20}
use Rattle.rules.specs.OneLine.{line_stands, one_line, of_points, point_verdict, relation_verdict}
use Rattle.rules.specs.Refuses.{Kept, First}
use Rattle.rules.specs.MeetsLine.{DataLine, PointLetter, read_order, read_point_order, read_relation_order}
use Rattle.rules.specs.Listed.{Listed}
use Rattle.rules.proofs.Tests.{clash, says, and_is, leb_is}
use Rattle.rules.proofs.Contrary.{contrary}
use Rattle.rules.proofs.Breach.{run_met, run_broken}
use Rattle.rules.proofs.Form.{data_is}
use Rattle.rules.proofs.Same.{Same}
use Rattle.rules.proofs.Refuses.{line_same}
use Rattle.rules.proofs.Demand3.{asking_same}
use Rattle.rules.proofs.Medium.{Lawful}
use Rattle.rules.proofs.Listed.{Only, run_only, line_listed, asked_listed}

points_letter : (b : ℕ) → (of_points (kind_of b) ≡ true) ↔ PointLetter b
unfolding kind_of pick
points_letter b = go (eqb b 82) (eqb b 83) (eqb b 88) refl refl refl
  where
    neither : eqb b 82 ≡ false → eqb b 83 ≡ false → PointLetter b → ⊥
    neither p q v = ⊎_elim (λ u. clash (sym p ∙ eq-eqb b 82 u)) (λ u. clash (sym q ∙ eq-eqb b 83 u)) v

    go : (r s x : Bool) → eqb b 82 ≡ r → eqb b 83 ≡ s → eqb b 88 ≡ x
        → (of_points (pick r file_r (pick s file_s (pick x file_x 0))) ≡ true) ↔ PointLetter b
    go true s x p q w = (λ _. inl (eqb-true b 82 p), λ _. refl)
    go false true x p q w = (λ _. inr (eqb-true b 83 q), λ _. refl)
    go false false true p q w = (λ e. clash e, λ v. absurd (neither p q v))
    go false false false p q w = (λ e. clash e, λ v. absurd (neither p q v))

stands_is : (f : Sheet) (l : ℕ) → (line_stands f l ≡ true) ↔ DataLine f l
unfolding line_stands
stands_is f l = simp (says, data_is) Iff.rfl

one_same : (ok : Bool) (A : Type 0) (i : ℕ) (f : Sheet) (l : ℕ) → (ok && line_stands f l ≡ true) ↔ A → Same (one_line ok i f l) (read_order A i f l)
unfolding one_line
one_same ok A i f l q = asking_same (ok && line_stands f l) q (contrary q) (line_same i f (l - 1))

-- a line of R or S, by its letter
module _ (b : ℕ) (f : Sheet) (l : ℕ) where
  point_same : Same (one_line (of_points (kind_of b)) (kind_of b) f l) (read_point_order b f l)
  point_same =
      let a = and_is (of_points (kind_of b)) (line_stands f l) in
      let p = points_letter b in
      let d = stands_is f l in
      one_same (of_points (kind_of b)) _ (kind_of b) f l
      (λ e. let t = a.0 e in (p.0 t.0, d.0 t.1), λ w. a.1 (p.1 w.0, d.1 w.1))

  pub point_fine : (point_verdict b f l ≡ fine) ↔ Kept (read_point_order b f l)
  unfolding point_verdict
  point_fine = Iff.trans (run_met _) point_same.met

  pub point_refused : (w : Refusal) → (point_verdict b f l ≡ refused w) ↔ First (read_point_order b f l) w
  unfolding point_verdict
  point_refused w = Iff.trans (run_broken _ w) (point_same.broken w)

-- a line of X
module _ (f : Sheet) (l : ℕ) where
  relation_same : Same (one_line true file_x f l) (read_relation_order f l)
  relation_same = one_same true _ file_x f l (stands_is f l)

  pub relation_fine : (relation_verdict f l ≡ fine) ↔ Kept (read_relation_order f l)
  unfolding relation_verdict
  relation_fine = Iff.trans (run_met _) relation_same.met

  pub relation_refused : (w : Refusal) → (relation_verdict f l ≡ refused w) ↔ First (read_relation_order f l) w
  unfolding relation_verdict
  relation_refused w = Iff.trans (run_broken _ w) (relation_same.broken w)

-- from the published list
one_or_two : (i : ℕ) → 1 ≤ i → i ≤ 2 → (i ≡ file_r) ⊎ ((i ≡ file_s) ⊎ (i ≡ file_x))
one_or_two zero a b = absurd (omega arith)
one_or_two (suc zero) a b = inl refl
one_or_two (suc (suc zero)) a b = inr (inl refl)
one_or_two (suc (suc (suc i))) a b = absurd (omega arith)

module _ (M : Medium) (g : Lawful M) (f : List ℕ) (l : ℕ) where
  one_listed : (ok : Bool) (i : ℕ) → (ok ≡ true → (i ≡ file_r) ⊎ ((i ≡ file_s) ⊎ (i ≡ file_x))) → Only Listed (one_line ok i (sheet M sps93 f) l)
  unfolding one_line rule20 line_stands most_lines
  one_listed ok i w = (
    λ _. asked_listed,
    λ m.
        let a = (and_is ok (line_stands (sheet M sps93 f) l)).0 m in
        let h = (and_is _ _).0 ((and_is _ _).0 a.1).0 in
        let low = (leb_is 1 l).0 h.0 in
        let high = (leb_is l 9999).0 h.1 in
        line_listed M g f i (w a.0) (l - 1) (omega arith),
  )

  pub point_line_listed : (b : ℕ) (w : Refusal) → point_verdict b (sheet M sps93 f) l ≡ refused w → Listed w
  unfolding point_verdict
  point_line_listed b w =
      run_only Listed _ w
      (one_listed (of_points (kind_of b)) (kind_of b)
      (λ t. let h = (and_is _ _).0 t in one_or_two (kind_of b) ((leb_is 1 _).0 h.0) ((leb_is _ 2).0 h.1)))

  pub relation_line_listed : (w : Refusal) → relation_verdict (sheet M sps93 f) l ≡ refused w → Listed w
  unfolding relation_verdict
  relation_line_listed w = run_only Listed _ w (one_listed true file_x (λ _. inr (inr refl)))
