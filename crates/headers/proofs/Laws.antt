-- The steps of the headers, by what the code finds at each.
use Prim.Native.Nat.{ℕ, ◌+◌, ◌/◌, ◌%◌, ◌≤◌, ◌<◌, min}
use native.Mathlib.Numerals.{add-one}
use native.Mathlib.Omega.{arith}
use mathlib.Core.Path.{◌≡◌, sym, ap, ap₂, ◌∙◌}
use mathlib.Core.Bool.{Bool, true, false, not, ◌&&◌}
use mathlib.Core.List.{List, [], ◌∷◌}
use lib.Dec.{eqb, lit≤}
use lib.ListN.{length, get_or, drop, drop_of_length-le}
use lib.Seq.{drop-cons}
use borrow.Author.Tests.{eq-eqb, ne_eqb}
use Rattle.rules.specs.Places.{every}
use Rattle.rules.specs.Plan.{Refusal as PaperRefusal, Verdict as PaperVerdict, fine, refused, №, Plan, ◌before◌, need, run}
use Rattle.rules.specs.Text.{cols, same, blank}
use Rattle.rules.specs.Layout.{Layout, sps93, at}
use Rattle.rules.specs.Sheet.{Sheet}
use Rattle.rules.specs.Lines.{is_header, is_data, heads}
use Rattle.rules.specs.Headers.{two_digits, is_type, projection, same_columns, rule7, rule8, rule9}
use Rattle.rules.proofs.Least.{least_below}
use Rattle.rules.proofs.Steps.{least_none_yet, least_more, least_stop, every_none, every_more, none_yet, one_more, stops_here}
use Rattle.rules.proofs.Steps.{every_stop, need_met, need_broken, before_met, before_broken, when_on, when_off}
use Rattle.fields.proofs.Codes.{two_columns}
use Rattle.lines.proofs.Sheets.{layout_is, row_length}
use Rattle.headers.specs.Steps.{has_type, names, named, same_lines}

pub heads_below : (f : Sheet) (n : ℕ) → n ≡ heads f → n ≤ f.count
unfolding heads
heads_below f n q = rw q (least_below _ _)

pub data_here : (f : Sheet) (l : List ℕ) (k : ℕ) → l ≡ f.row k → (t : Bool) → t ≡ is_header l → not t ≡ is_data f k
unfolding is_data
data_here f l k e t q = ap not (q ∙ ap is_header e)

-- a header line's type
module _ (l : List ℕ) (t : ℕ) (b : Bool) (q : b ≡ same (get_or l 1 0 ∷ get_or l 2 0 ∷ []) ((48 + t / 10) ∷ (48 + t % 10) ∷ [])) where
  whole : (b && blank (cols l 4 4)) ≡ is_type sps93 t l
  unfolding is_type at sps93 two_digits
  whole = rw (q, two_columns l 2 (lit≤ tt))

  pub type_other : b ≡ false → false ≡ is_type sps93 t l
  type_other n = (rw n) ∙ whole

  pub type_digits : b ≡ true → blank (cols l 4 4) ≡ is_type sps93 t l
  type_digits y = (rw y) ∙ whole

pub type_here : (f : Sheet) (L : Layout) → f.layout ≡ L → (l : List ℕ) (k : ℕ) → l ≡ f.row k → (b : Bool) (t : ℕ) → b ≡ is_type L t l
    → b ≡ is_type f.layout t (f.row k)
type_here f L y l k e b t q = q ∙ ap₂ (λ (L : Layout) (l : List ℕ). is_type L t l) (sym y) e

-- 7
module _ (f : Sheet) (n : ℕ) (q : n ≡ heads f) where
  pub seven_met : every 21 (has_type f n) ≡ true → fine ≡ run (rule7 f)
  unfolding rule7 has_type
  seven_met e = need_met _ _ (ap (λ (m : ℕ). every 21 (has_type f m)) (sym q) ∙ e)

  pub seven_broken : (t : ℕ) → t < 21 → (b : Bool) → b ≡ has_type f n t → b ≡ false → refused (№ 7 1 (n + 1) 0) ≡ run (rule7 f)
  unfolding rule7 has_type
  seven_broken t h b p z =
      ap (λ (m : ℕ). refused (№ 7 1 (m + 1) 0)) q
      ∙ need_broken _ _ (ap (λ (m : ℕ). every 21 (has_type f m)) (sym q) ∙ every_stop (has_type f n) t 21 h (sym p ∙ z))

-- 8
pub eight_of : (f : Sheet) (L : Layout) → f.layout ≡ L → (l : List ℕ) (k : ℕ) → l ≡ f.row k → run (named L k l) ≡ run (rule8 f k)
unfolding named rule8 names projection
eight_of f L y l k e = rw (e, ← y)

module _ (l : List ℕ) (k : ℕ) (t : Bool) (q : t ≡ is_type sps93 18 l) where
  pub eight_other : t ≡ false → fine ≡ run (named sps93 k l)
  unfolding named
  eight_other n = when_off _ _ (sym q ∙ n)

  module _ (y : t ≡ true) (b : Bool) (p : b ≡ names (cols l 33 80)) where
    pub eight_met : b ≡ true → fine ≡ run (named sps93 k l)
    unfolding named at sps93
    eight_met z = need_met _ _ (sym p ∙ z) ∙ when_on _ _ (sym q ∙ y)

    pub eight_broken : b ≡ false → refused (№ 8 1 (k + 1) 33) ≡ run (named sps93 k l)
    unfolding named at sps93
    eight_broken z = need_broken _ _ (sym p ∙ z) ∙ when_on _ _ (sym q ∙ y)

-- 9, column by column
module _ (i k c : ℕ) (l m : List ℕ) (u : length l ≡ 80) (w : length m ≡ 80) (X : PaperVerdict)
    (e : run (same_columns i k (c + 1) (drop c l) (drop c m)) ≡ X) where
  pub columns_end : 80 ≤ c → fine ≡ X
  unfolding same_columns run
  columns_end h =
      let a : length l ≤ c = omega arith in
      let b : length m ≤ c = omega arith in
      (rw (drop_of_length-le l a, drop_of_length-le m b)) ∙ e

  module _ (h : c < 80) where
    abbrev here : Plan → Plan
    here more = need (eqb (get_or l c 0) (get_or m c 0)) (№ 9 i (k + 1) (c + 1)) before more

    step : run (here (same_columns i k (c + 1 + 1) (drop (c + 1) l) (drop (c + 1) m))) ≡ X
    unfolding same_columns
    step =
        let a : c < length l = omega arith in
        let b : c < length m = omega arith in
        ap₂ (λ (n j : ℕ). run (here (same_columns i k n (drop j l) (drop j m)))) (add-one (c + 1)) (add-one c)
        ∙ (rw (drop-cons l c 0 a, drop-cons m c 0 b)) ∙ e

    pub columns_stop : (get_or l c 0 ≡ get_or m c 0 → ⊥) → refused (№ 9 i (k + 1) (c + 1)) ≡ X
    columns_stop n = before_broken _ _ _ (need_broken _ _ (ne_eqb _ _ n)) ∙ step

    pub columns_step : get_or l c 0 ≡ get_or m c 0 → run (same_columns i k (c + 1 + 1) (drop (c + 1) l) (drop (c + 1) m)) ≡ X
    columns_step y = before_met _ _ (need_met _ _ (eq-eqb _ _ y)) ∙ step

pub nine_row : (i k : ℕ) (l m l' m' : List ℕ) → l ≡ l' → m ≡ m' → run (same_columns i k 1 l m) ≡ run (same_columns i k 1 l' m')
nine_row i k l m l' m' p q = ap₂ (λ (x y : List ℕ). run (same_columns i k 1 x y)) p q

-- then by the number of lines
module _ (r f : Sheet) (a b n : ℕ) (p : a ≡ heads r) (q : b ≡ heads f) (s : n ≡ min a b) where
  pub both_below : (n ≤ r.count) × (n ≤ f.count)
  both_below =
      let u = heads_below r a p in
      let w = heads_below f b q in
      (omega arith, omega arith)

  module _ (i : ℕ) where
    whole_nine : run (same_lines i r f n before need (eqb a b) (№ 9 i (n + 1) 0)) ≡ run (rule9 i r f)
    unfolding same_lines rule9
    whole_nine = rw (s, p, q)

    pub nine_stops : {w : PaperRefusal} → refused w ≡ run (same_lines i r f n) → refused w ≡ run (rule9 i r f)
    nine_stops e = before_broken _ _ _ e ∙ whole_nine

    pub nine_same : fine ≡ run (same_lines i r f n) → a ≡ b → fine ≡ run (rule9 i r f)
    nine_same e y = need_met _ _ (eq-eqb a b y) ∙ before_met _ _ e ∙ whole_nine

    pub nine_other : fine ≡ run (same_lines i r f n) → (a ≡ b → ⊥) → refused (№ 9 i (n + 1) 0) ≡ run (rule9 i r f)
    nine_other e y = need_broken _ _ (ne_eqb a b y) ∙ before_met _ _ e ∙ whole_nine

-- what the check goes by in each function
pub ruleset header_walk = (data_here, least_none_yet, least_stop, least_more)

pub ruleset two_and_blank = (type_other, type_digits)

pub ruleset seven = (heads_below, seven_broken, seven_met, every_none, every_more)

pub ruleset eight = (eight_other, eight_met, eight_broken)

pub ruleset eight_walk = (heads_below, eight_of, layout_is, none_yet, one_more, stops_here)

pub ruleset columns = (columns_end, columns_step, columns_stop)

pub ruleset nine_walk = (nine_row, row_length, none_yet, one_more, stops_here)

pub ruleset nine = (both_below, nine_same, nine_other)
