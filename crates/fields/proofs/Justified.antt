-- A number after its blanks, and a decimal by its last two columns.
use Prim.Native.Nat.{ℕ, zero, suc, ◌+◌, ◌-◌, ◌^◌, ◌≤◌, ◌<◌}
use native.Mathlib.Numerals.{add-one}
use native.Mathlib.Omega.{arith}
use mathlib.Core.Path.{◌≡◌, refl, sym, ap, ◌∙◌}
use mathlib.Core.Bool.{Bool, true, false, ◌&&◌}
use mathlib.Core.List.{List, ◌∷◌}
use lib.Dec.{eqb, leb, ltb}
use lib.ListN.{length, get_or, take}
use borrow.Author.Tests.{le-leb, lt-leb, leb-true, leb-false, ltb-true, ltb-false, eq-eqb, ne_eqb}
use Rattle.rules.proofs.Tests.{says}
use Rattle.rules.proofs.Sizes.{whole_small, signed_small, Small, small_more}
use Rattle.rules.specs.Places.{pick}
use Rattle.rules.specs.Text.{col, cols}
use Rattle.rules.specs.Numbers.{digit, Number, malformed, digits, justified, negative, minus_or, then, pointed, decimal, tenths, size}
use Rattle.rules.proofs.Columns.{cols_end, cols_step, cols_length, cols_at, cols_take}
use Rattle.std.specs.Prelude.{Option, None, Some}
use Rattle.fields.specs.Paper.{number}
use Rattle.fields.specs.declared.Number.{Number as Read}
use Rattle.fields.specs.Ink.{ink_from, point_digit, tenths_of}

-- what stands after the blanks is what is read
module _ (read : List ℕ → Number) (l : List ℕ) (b : ℕ) where
  abbrev found : Option ℕ → Number
  found None = malformed
  found (Some c) = read (cols l c b)

  by_byte : (a : ℕ) (t : Bool) → 1 ≤ a → a ≤ b → found (ink_from (suc a) (cols l (a + 1) b)) ≡ justified read (cols l (a + 1) b)
      → found (pick t (ink_from (suc a) (cols l (a + 1) b)) (Some a))
      ≡ pick t (justified read (cols l (a + 1) b)) (read (get_or l (a - 1) 0 ∷ cols l (a + 1) b))
  unfolding pick
  by_byte a true o q ih = ih
  by_byte a false o q ih = ap read (cols_step l a o b q)

  by_size : (a : ℕ) (t : Bool) → 1 ≤ a → leb a b ≡ t
      → (a ≤ b → found (ink_from (suc a) (cols l (a + 1) b)) ≡ justified read (cols l (a + 1) b))
      → found (ink_from a (cols l a b)) ≡ justified read (cols l a b)
  unfolding ink_from justified
  by_size a true o e ih =
      let q = leb-true a b e in
      ap (λ (bs : List ℕ). found (ink_from a bs)) (cols_step l a o b q) ∙ by_byte a (eqb (get_or l (a - 1) 0) 32) o q (ih q)
      ∙ ap (justified read) (sym (cols_step l a o b q))
  by_size a false o e ih =
      let q = cols_end l a o b (leb-false a b e) in
      ap (λ (bs : List ℕ). found (ink_from a bs)) q ∙ ap (justified read) (sym q)

  ink_from_lem : (d a : ℕ) → 1 ≤ a → b < a + d → found (ink_from a (cols l a b)) ≡ justified read (cols l a b)
  ink_from_lem zero a o h = by_size a (leb a b) o refl (λ q. absurd (omega arith))
  ink_from_lem (suc d) a o h =
      by_size a (leb a b) o refl
      (λ q. ap (λ (m : ℕ). found (ink_from m (cols l (a + 1) b))) (sym (add-one a)) ∙ ink_from_lem d (a + 1) (omega arith) (omega arith))

  module _ (a : ℕ) (o : Option ℕ) (e : o ≡ ink_from a (cols l a b)) (f : 1 ≤ a) where
    pub ink_none : o ≡ None → malformed ≡ justified read (cols l a b)
    ink_none q = ap found (sym q ∙ e) ∙ ink_from_lem (suc b) a f (omega arith)

    pub ink_some : (c : ℕ) → o ≡ Some c → read (cols l c b) ≡ justified read (cols l a b)
    ink_some c q = ap found (sym q ∙ e) ∙ ink_from_lem (suc b) a f (omega arith)

-- a minus or digits, at the column where the number begins
module _ (l : List ℕ) (c b : ℕ) (o : 1 ≤ c) where
  module _ (h : c ≤ b) where
    pub minus_some : get_or l (c - 1) 0 ≡ 45 → negative (digits (cols l (c + 1) b)) ≡ minus_or (cols l c b)
    unfolding minus_or pick
    minus_some q = rw (cols_step l c o b h, eq-eqb _ _ q)

    pub minus_other : (get_or l (c - 1) 0 ≡ 45 → ⊥) → digits (cols l c b) ≡ minus_or (cols l c b)
    unfolding minus_or pick
    minus_other q = rw (cols_step l c o b h, ne_eqb _ _ q)

-- the last two columns
module _ (l : List ℕ) (a b : ℕ) (o : 1 ≤ a) where
  short : b ≤ a → leb 2 (length (cols l a b)) ≡ false
  short h = let n = cols_length l a o b in let z : length (cols l a b) < 2 = omega arith in lt-leb 2 (length (cols l a b)) z

  module _ (h : a < b) where
    width : length (cols l a b) ≡ b + 1 - a
    width = cols_length l a o b

    wide : leb 2 (length (cols l a b)) ≡ true
    wide = let n = width in le-leb 2 (length (cols l a b)) (omega arith)

    last : get_or (cols l a b) (length (cols l a b) - 1) 0 ≡ get_or l (b - 1) 0
    unfolding col
    last =
        let n = width in
        cols_at l a o b (length (cols l a b) - 1) (omega arith)
        ∙ ap (λ (m : ℕ). get_or l m 0) (let z : a + (length (cols l a b) - 1) - 1 ≡ b - 1 = omega arith in z)

    before : get_or (cols l a b) (length (cols l a b) - 2) 0 ≡ get_or l (b - 2) 0
    unfolding col
    before =
        let n = width in
        cols_at l a o b (length (cols l a b) - 2) (omega arith)
        ∙ ap (λ (m : ℕ). get_or l m 0) (let z : a + (length (cols l a b) - 2) - 1 ≡ b - 2 = omega arith in z)

    front : take (length (cols l a b) - 2) (cols l a b) ≡ cols l a (b - 2)
    front =
        let n = width in
        cols_take l a o b (length (cols l a b) - 2) (omega arith)
        ∙ ap (cols l a) (let z : a + (length (cols l a b) - 2) - 1 ≡ b - 2 = omega arith in z)

-- the point, where there are two columns
pub pointed_is : (l : List ℕ) (a b : ℕ) → 1 ≤ a → pointed (cols l a b) ≡ (ltb a b && eqb (get_or l (b - 2) 0) 46)
unfolding pointed
pointed_is l a b o = go (ltb a b) refl
  where
    go : (t : Bool) → ltb a b ≡ t
        → (leb 2 (length (cols l a b)) && eqb (get_or (cols l a b) (length (cols l a b) - 2) 0) 46) ≡ (t && eqb (get_or l (b - 2) 0) 46)
    go true e = let h = ltb-true a b e in rw (wide l a b o h, before l a b o h)
    go false e = rw (short l a b o (ltb-false a b e))

-- a decimal, by its last two columns
module _ (read : List ℕ → Number) (l : List ℕ) (a b : ℕ) (o : 1 ≤ a) where
  pub decimal_short : b ≤ a → malformed ≡ decimal read (cols l a b)
  unfolding decimal pointed pick
  decimal_short h = rw (short l a b o h)

  pub decimal_long : a < b → tenths_of l b (read (cols l a (b - 2))) ≡ decimal read (cols l a b)
  unfolding decimal pointed tenths_of point_digit
  decimal_long h = rw (wide l a b o h, before l a b o h, last l a b o h, front l a b o h)

-- tenths in either spelling, by whether there is a point
module _ (read : List ℕ → Number) (bs : List ℕ) (t : Bool) (e : t ≡ pointed bs) where
  pub with_point_lem : t ≡ true → decimal read bs ≡ tenths read bs
  unfolding tenths pick
  with_point_lem y = rw (← e, y)

  pub without_point : t ≡ false → read bs ≡ tenths read bs
  unfolding tenths pick
  without_point n = rw (← e, n)

-- none was read
pub none_read : (o : Option Read) (v : Number) → number o ≡ v → o ≡ None → malformed ≡ v
none_read o v e q = ap number (sym q) ∙ e

-- no number before the point
pub decimal_none : (read : List ℕ → Number) (l : List ℕ) (a b : ℕ) → 1 ≤ a → a < b → malformed ≡ read (cols l a (b - 2))
    → malformed ≡ decimal read (cols l a b)
unfolding tenths_of then pick
decimal_none read l a b o h e =
    go (point_digit l b) ∙ ap (tenths_of l b) e ∙ decimal_long read l a b o h
  where
    go : (t : Bool) → malformed ≡ pick t malformed malformed
    go true = refl
    go false = refl

pub point_digit_is : (l : List ℕ) (b : ℕ) → point_digit l b ≡ true → (48 ≤ get_or l (b - 1) 0) × (get_or l (b - 1) 0 ≤ 57)
unfolding point_digit digit
point_digit_is l b e = (simp says at e).1

-- the size of what stands in at most 16 columns
pub few : (v : Number) (l : List ℕ) (a b : ℕ) → 1 ≤ a → b < a + 16 → Small v (length (cols l a b)) → size v < 10 ^ 16
few v l a b o h s = let n = cols_length l a o b in small_more v (length (cols l a b)) 16 (omega arith) s

pub ruleset signs = (ink_none, ink_some, minus_some, minus_other)

pub ruleset decimals = (decimal_long, decimal_none, decimal_short, few, whole_small, signed_small)
