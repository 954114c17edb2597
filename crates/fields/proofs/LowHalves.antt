-- A number by the low halves of its bytes is the number that the field holds, where it holds one.
--   figures_whole   = of a whole number
--   index_one, index_low = an index, by the low half of its column
--   figures_end, figures_step, room_none, room_more, room_eight = the walk over the columns, and that the number stays small
use Prim.Native.Nat.{ℕ, suc, ◌+◌, ◌-◌, ◌*◌, ◌%◌, ◌^◌, ◌≤◌, ◌<◌}
use native.Mathlib.Nat.{pow-suc, pow-le-pow_right, one-le-pow}
use native.Mathlib.Omega.{arith}
use mathlib.Core.Path.{◌≡◌, refl, sym, ap, ◌∙◌}
use mathlib.Core.Bool.{Bool, true, false}
use mathlib.Core.List.{List, [], ◌∷◌}
use lib.Dec.{eqb}
use lib.ListN.{get_or}
use borrow.Author.Tests.{eqb-true, ne_eqb}
use Rattle.rules.specs.Places.{pick}
use Rattle.rules.specs.Text.{col, cols}
use Rattle.rules.specs.Numbers.{digit, malformed, plus, digits_after, digits, justified, whole}
use Rattle.rules.proofs.Tests.{says}
use Rattle.rules.proofs.Columns.{cols_end, cols_step}
use Rattle.fields.specs.Figures.{figures_after, figures, low_index}
use Rattle.fields.proofs.Codes.{first_column}

digit_low : (b : ℕ) → digit b ≡ true → b % 16 ≡ b - 48
unfolding digit
digit_low b e = let h = simp says at e in omega arith

digits_figures : (a : ℕ) (bs : List ℕ) (n : ℕ) → digits_after a bs ≡ plus n → figures_after a bs ≡ n
unfolding digits_after figures_after pick
digits_figures a [] n e = cc
digits_figures a (b ∷ bs) n e = go (digits_figures (10 * a + (b - 48)) bs n) (digit b) refl e
  where
    go : (digits_after (10 * a + (b - 48)) bs ≡ plus n → figures_after (10 * a + (b - 48)) bs ≡ n) → (t : Bool) → digit b ≡ t
        → pick t (digits_after (10 * a + (b - 48)) bs) malformed ≡ plus n → figures_after (10 * a + b % 16) bs ≡ n
    go ih true y p = rw (digit_low b y) (ih p)
    go ih false y p = absurd (let z : ◌≡◌ {A = ℕ} 0 1 = cc in omega arith)

whole_figures : (bs : List ℕ) (n : ℕ) → justified digits bs ≡ plus n → figures_after 0 bs ≡ n
unfolding justified figures_after pick digits
whole_figures [] n e = absurd (let z : ◌≡◌ {A = ℕ} 0 1 = cc in omega arith)
whole_figures (b ∷ bs) n e = go (whole_figures bs n) (eqb b 32) refl e
  where
    go : (justified digits bs ≡ plus n → figures_after 0 bs ≡ n) → (t : Bool) → eqb b 32 ≡ t → pick t (justified digits bs) (digits (b ∷ bs)) ≡ plus n
        → figures_after (10 * 0 + b % 16) bs ≡ n
    go ih true y p =
        let q = eqb-true b 32 y in
        let z : 10 * 0 + b % 16 ≡ 0 = omega arith in
        rw z (ih p)
    go ih false y p = digits_figures 0 (b ∷ bs) n p

pub figures_whole : (bs : List ℕ) (n : ℕ) → whole bs ≡ plus n → figures bs ≡ n
unfolding whole
figures_whole bs n e = whole_figures bs n e

-- the index in column a
module _ (l : List ℕ) (a : ℕ) (o : 1 ≤ a) (d : ℕ) (e : d ≡ get_or l (a - 1) 0 % 16) where
  column : col (cols l a a) 1 % 16 ≡ d
  column = ap (λ (b : ℕ). b % 16) (first_column l a a o (omega arith)) ∙ sym e

  pub index_one : d ≡ 0 → 1 ≡ low_index (cols l a a)
  unfolding low_index pick
  index_one z = rw (column, z)

  pub index_low : (d ≡ 0 → ⊥) → d ≡ low_index (cols l a a)
  unfolding low_index pick
  index_low n = rw (column, ne_eqb d 0 n)

-- the walk over the columns
module _ (l : List ℕ) (c b : ℕ) (o : 1 ≤ c) (v X : ℕ) (e : figures_after v (cols l c b) ≡ X) where
  pub figures_end : b < c → v ≡ X
  unfolding figures_after
  figures_end h = (rw (cols_end l c o b h)) ∙ e

  pub figures_step : c ≤ b → (d : ℕ) → d ≡ get_or l (c - 1) 0 % 16 → figures_after (10 * v + d) (cols l (c + 1) b) ≡ X
  unfolding figures_after
  figures_step h d q = (rw q) ∙ ap (figures_after v) (sym (cols_step l c o b h)) ∙ e

-- what the columns a to c - 1 make leaves room
abbrev pub Room : ℕ → ℕ → ℕ → Type 0
Room v a c = 3 * v + 5 ≤ 5 * 10 ^ (c - a)

pub room_none : (a : ℕ) → Room 0 a a
room_none a = let p = one-le-pow (a - a) 10 (omega arith) in omega arith

pub room_more : (v d a c : ℕ) → a ≤ c → Room v a c → d < 16 → Room (10 * v + d) a (c + 1)
room_more v d a c h r g =
    let e : c + 1 - a ≡ suc (c - a) = omega arith in
    let p = pow-suc 10 (c - a) in
    rw e (omega arith)

pub room_eight : (v a c : ℕ) → Room v a c → c ≤ a + 8 → v < 200000000
room_eight v a c r h =
    let g : c - a ≤ 8 = omega arith in
    let p : 10 ^ (c - a) ≤ 10 ^ 8 = pow-le-pow_right (omega arith) g in
    omega arith
