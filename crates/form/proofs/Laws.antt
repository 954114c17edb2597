-- The steps of the form of a file, by what the code finds at each.
use Prim.Native.Nat.{ℕ, ◌+◌, ◌≤◌}
use native.Mathlib.Numerals.{add-one}
use native.Mathlib.Omega.{arith}
use mathlib.Core.Path.{◌≡◌, refl, sym, ap, ap₂, ◌∙◌}
use mathlib.Core.Bool.{Bool, true, false, not, ◌&&◌, and-false}
use mathlib.Core.List.{List}
use lib.Dec.{eqb}
use lib.ListN.{get_or}
use borrow.Author.Tests.{eq-eqb, ne_eqb, leb-true}
use Rattle.rules.specs.Places.{pick, every}
use Rattle.rules.specs.Plan.{Verdict as PaperVerdict, fine, refused, №, ◌or_else◌, Plan, need, ◌before◌, run}
use Rattle.rules.specs.Text.{col}
use Rattle.rules.specs.Layout.{Layout, letter_column}
use Rattle.rules.specs.Sheet.{Sheet, most_lines, all_lines}
use Rattle.rules.specs.Lines.{letter, is_header}
use Rattle.rules.specs.Relations.{reach}
use Rattle.rules.specs.Form.{stray, rule1, rule2, rule29, rule3, rule4, rule6, line_fits}
use Rattle.rules.proofs.Breach.{run_met}
use Rattle.rules.proofs.Steps.{need_met, need_broken, before_met, before_broken, when_on, when_off}
use Rattle.std.specs.Prelude.{Ok}
use Rattle.lines.specs.Paper.{Verdict, paper}
use Rattle.form.specs.Steps.{headers_to, letter_fits, numbers_of, fields_of}

-- a call that finds nothing in the first part of a plan leaves the verdict to the rest
pub goes_on_lem : (v : Verdict) (p : Plan) → paper v ≡ run p → v ≡ Ok tt → (q : Plan) (w : Verdict) → paper w ≡ run q → paper w ≡ run (p before q)
goes_on_lem v p e z q w y = y ∙ before_met p q (ap paper (sym z) ∙ e)

pub grouped : (p q r : Plan) → run ((p before q) before r) ≡ run (p before q before r)
unfolding run ◌or_else◌
grouped p q r = go (run p) (run q) (run r)
  where
    go : (u v w : PaperVerdict) → (u or_else v) or_else w ≡ u or_else v or_else w
    go fine v w = refl
    go (refused n) v w = refl

pub three_grouped : (p q r s : Plan) → run ((p before q before r) before s) ≡ run (p before q before r before s)
unfolding run
three_grouped p q r s = grouped p (q before r) s ∙ ap (λ (v : PaperVerdict). run p or_else v) (grouped q r s)

-- 2 leaves few enough lines to number
pub few_lines : (f : Sheet) (i : ℕ) → fine ≡ run (rule1 i f before rule2 i f before rule29 i f) → f.count ≤ most_lines
unfolding rule1 rule2
few_lines f i e =
    let h = leb-true (all_lines f) most_lines ((run_met (rule1 i f before rule2 i f before rule29 i f)).0 (sym e)).1.0 in
    omega arith

-- 4 of a line
module _ (i k : ℕ) (h : Bool) (l : List ℕ) (t : Bool) (q : t ≡ is_header l) where
  pub four_under_headers : t ≡ true → h ≡ true → fine ≡ run (letter_fits i k h l)
  unfolding letter_fits pick
  four_under_headers y z = need_met _ _ (rw (← q, y) z)

  pub four_after_data : t ≡ true → h ≡ false → refused (№ 4 i (k + 1) 1) ≡ run (letter_fits i k h l)
  unfolding letter_fits pick
  four_after_data y z = need_broken _ _ (rw (← q, y) z)

  module _ (n : t ≡ false) (b : ℕ) (p : b ≡ letter i) where
    pub four_letter : get_or l 0 0 ≡ b → fine ≡ run (letter_fits i k h l)
    unfolding letter_fits pick col
    four_letter z = need_met _ _ (rw (← q, n) (eq-eqb _ _ (z ∙ p)))

    pub four_other : (get_or l 0 0 ≡ b → ⊥) → refused (№ 4 i (k + 1) 1) ≡ run (letter_fits i k h l)
    unfolding letter_fits pick col
    four_other z = need_broken _ _ (rw (← q, n) (ne_eqb _ _ (λ y. z (y ∙ sym p))))

-- what stands before a line matters to a header line alone
letter_by : (i k : ℕ) (l : List ℕ) (h g : Bool) → (is_header l ≡ true → h ≡ g) → letter_fits i k h l ≡ letter_fits i k g l
unfolding letter_fits pick
letter_by i k l h g = go (is_header l)
  where
    go : (t : Bool) → (t ≡ true → h ≡ g)
        → need (pick t h (eqb (col l letter_column) (letter i))) (№ 4 i (k + 1) letter_column)
        ≡ need (pick t g (eqb (col l letter_column) (letter i))) (№ 4 i (k + 1) letter_column)
    go true q = rw (q refl)
    go false q = refl

-- 6 of a line
module _ (L : Layout) (i k : ℕ) (l : List ℕ) where
  pub six_other : (i ≡ 3 → ⊥) → fine ≡ run (numbers_of L i k l)
  unfolding numbers_of
  six_other n = when_off _ _ (rw (ne_eqb i 3 n) (and-false (not (is_header l))))

  module _ (t : Bool) (q : t ≡ is_header l) where
    pub six_header : t ≡ true → fine ≡ run (numbers_of L i k l)
    unfolding numbers_of
    six_header y = when_off _ _ (rw (← q, y))

    pub six_relation : t ≡ false → i ≡ 3 → (v : PaperVerdict) → v ≡ run (rule6 L k (reach L l)) → v ≡ run (numbers_of L i k l)
    unfolding numbers_of
    six_relation n x v p = p ∙ when_on _ _ (rw (← q, n, eq-eqb i 3 x))

-- 3, then the rest of a line
module _ (f : Sheet) (i k c : ℕ) (e : c ≡ stray f k) where
  pub line_stray : (c ≡ 0 → ⊥) → refused (№ 3 i (k + 1) c) ≡ run (line_fits i f k)
  unfolding line_fits rule3
  line_stray n = before_broken _ _ _ (rw (← e) (need_broken _ _ (ne_eqb c 0 n)))

  module _ (z : c ≡ 0) (L : Layout) (y : f.layout ≡ L) (l : List ℕ) (r : l ≡ f.row k) (h : Bool)
      (q : is_header l ≡ true → h ≡ headers_to f k) where
    pub line_clean : (v : PaperVerdict) → v ≡ run (letter_fits i k h l before fields_of L i k l) → v ≡ run (line_fits i f k)
    unfolding line_fits rule3 rule4 letter_fits headers_to fields_of numbers_of
    line_clean v p =
        let m = letter_by i k l h (headers_to f k) q in
        rw (m, r, ← y) at p ∙ before_met _ _ (need_met _ _ (eq-eqb _ 0 (sym e ∙ z)))

-- the lines before the next are header lines
pub headers_next : (f : Sheet) (k : ℕ) (h : Bool) → h ≡ headers_to f k → (l : List ℕ) → l ≡ f.row k → (t : Bool) → t ≡ (h && is_header l)
    → t ≡ headers_to f (k + 1)
unfolding headers_to every
headers_next f k h p l e t q = rw add-one (q ∙ ap₂ (λ (h : Bool) (l : List ℕ). h && is_header l) p e)
