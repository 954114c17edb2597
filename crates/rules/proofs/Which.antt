-- The places that pass a test, as a list: how many they are, and sums over them.
--   which n p     = the places below n that pass, each once, in their order
--   rising_one    = places in their order are told by which they are
--   how_many, how_much = a count and a sum are those of the lines of a file of which the test passes
use Prim.Native.Nat.{ℕ, zero, suc, ◌+◌, ◌<◌}
use native.Mathlib.Nat.{not-suc-le-zero, add-zero, zero-add}
use native.Mathlib.Omega.{arith}
use mathlib.Core.Path.{◌≡◌, refl, sym, ap, ap₂, ◌∙◌}
use mathlib.Core.Logic.{◌↔◌, ⊎_elim}
use mathlib.Core.Bool.{Bool, true, false}
use mathlib.Core.List.Memᴰ
use mathlib.Core.List.{List, [], ◌∷◌, ◌++◌, Memᴰ}
use lib.ListN.{length, length-append}
use Rattle.rules.specs.Places.{pick, count, sum}
use Rattle.rules.specs.Sheet.{Sheet}
use Rattle.rules.specs.Meets.{Rising, Lines, total}
use Rattle.rules.proofs.Tests.{clash, more}

unfoldable pub if : Bool → ℕ → List ℕ
if true n = n ∷ []
if false n = []

unfoldable pub which : ℕ → (ℕ → Bool) → List ℕ
which zero p = []
which (suc n) p = which n p ++ if (p n) n

one_or_none : (b : Bool) (n k : ℕ) → Memᴰ k (if b n) ↔ ((k ≡ n) × (b ≡ true))
unfolding if
one_or_none true n k = (λ m. (Memᴰ.eq_of_singleton m, refl), λ w. Memᴰ.head w.0)
one_or_none false n k = (λ m. absurd (Memᴰ.not-nil m), λ w. clash w.1)

-- it holds just those that pass
pub which_are : (n : ℕ) (p : ℕ → Bool) (k : ℕ) → Memᴰ k (which n p) ↔ ((k < n) × (p k ≡ true))
unfolding which
which_are zero p k = (λ m. absurd (Memᴰ.not-nil m), λ w. absurd (not-suc-le-zero w.0))
which_are (suc n) p k =
    let ih = which_are n p k in
    let o = one_or_none (p n) n k in (
      λ m.
          ⊎_elim (λ i. let w = ih.0 i in let h = w.0 in (omega arith, w.1))
          (λ i. let w = o.0 i in let e = w.0 in (omega arith, ap p e ∙ w.1))
          (Memᴰ.append_cases (which n p) m),
      λ w.
          more w.0 (λ h. Memᴰ.append_left (if (p n) n) (ih.1 (h, w.1)))
          (λ e. Memᴰ.append_right (which n p) (o.1 (e, ap p (sym e) ∙ w.1))),
    )

-- each once, in their order
rising_more : (l : List ℕ) (b : Bool) (n : ℕ) → Rising l → ((k : ℕ) → Memᴰ k l → k < n) → Rising (l ++ if b n)
unfolding if
rising_more [] true n r f = ((λ k m. absurd (Memᴰ.not-nil m)), tt)
rising_more [] false n r f = tt
rising_more (a ∷ l) b n r f = (
  (λ k m.
      ⊎_elim (λ i. r.0 k i) (λ i. let e = ((one_or_none b n k).0 i).0 in let h = f a (Memᴰ.head refl) in omega arith)
      (Memᴰ.append_cases l m)),
  rising_more l b n r.1 (λ k m. f k (Memᴰ.append_right (a ∷ []) m)),
)

pub which_rise : (n : ℕ) (p : ℕ → Bool) → Rising (which n p)
unfolding which
which_rise zero p = tt
which_rise (suc n) p = rising_more (which n p) (p n) n (which_rise n p) (λ k m. ((which_are n p k).0 m).0)

-- and the count is its length
if_length : (b : Bool) (n : ℕ) → length (if b n) ≡ pick b 1 0
unfolding if pick
if_length true n = refl
if_length false n = refl

pub which_length : (n : ℕ) (p : ℕ → Bool) → length (which n p) ≡ count n p
unfolding which count
which_length zero p = refl
which_length (suc n) p = length-append (which n p) (if (p n) n) ∙ ap₂ ◌+◌ (which_length n p) (if_length (p n) n)

total_append : (g : ℕ → ℕ) (l m : List ℕ) → total g (l ++ m) ≡ total g l + total g m
total_append g [] m = sym (zero-add (total g m))
total_append g (k ∷ l) m = let ih = total_append g l m in omega arith

if_total : (g : ℕ → ℕ) (b : Bool) (n : ℕ) → total g (if b n) ≡ pick b (g n) 0
unfolding if pick
if_total g true n = add-zero (g n)
if_total g false n = refl

pub which_total : (n : ℕ) (p : ℕ → Bool) (g : ℕ → ℕ) → total g (which n p) ≡ sum n (λ k. pick (p k) (g k) 0)
unfolding which sum
which_total zero p g = refl
which_total (suc n) p g = total_append g (which n p) (if (p n) n) ∙ ap₂ ◌+◌ (which_total n p g) (if_total g (p n) n)

-- lines in their order are told by which they are
same_head : (a b : ℕ) (l m : List ℕ) → Rising (a ∷ l) → Rising (b ∷ m) → Memᴰ a (b ∷ m) → Memᴰ b (a ∷ l) → a ≡ b
same_head a b l m r q u v =
    ⊎_elim (λ e. e)
    (λ i. ⊎_elim (λ e. sym e) (λ j. absurd (let g = q.0 a i in let h = r.0 b j in omega arith)) (Memᴰ.cases_cons v))
    (Memᴰ.cases_cons u)

later_in : (a b : ℕ) (l m : List ℕ) → Rising (a ∷ l) → a ≡ b → ((k : ℕ) → Memᴰ k (a ∷ l) → Memᴰ k (b ∷ m))
    → (k : ℕ) → Memᴰ k l → Memᴰ k m
later_in a b l m r e f k i =
    ⊎_elim (λ q. absurd (let g = r.0 k i in omega arith)) (λ j. j) (Memᴰ.cases_cons (f k (Memᴰ.tail i)))

pub rising_one : (l m : List ℕ) → Rising l → Rising m → ((k : ℕ) → Memᴰ k l → Memᴰ k m)
    → ((k : ℕ) → Memᴰ k m → Memᴰ k l) → l ≡ m
rising_one [] [] r q f g = refl
rising_one [] (b ∷ m) r q f g = absurd (Memᴰ.not-nil (g b (Memᴰ.head refl)))
rising_one (a ∷ l) [] r q f g = absurd (Memᴰ.not-nil (f a (Memᴰ.head refl)))
rising_one (a ∷ l) (b ∷ m) r q f g =
    let e = same_head a b l m r q (f a (Memᴰ.head refl)) (g b (Memᴰ.head refl)) in
    ap₂ (λ (c : ℕ) (n : List ℕ). c ∷ n) e
    (rising_one l m r.1 q.1 (later_in a b l m r e f) (later_in b a m l q (sym e) g))

-- the lines of a file of which a test passes
module _ (f : Sheet) (p : ℕ → Bool) (P : ℕ → Type 0) (is : (k : ℕ) → (p k ≡ true) ↔ P k) where
  pub lines_are : Lines f P (which f.count p)
  lines_are = (
    which_rise f.count p,
    λ k.
        let b = which_are f.count p k in
        (λ m. let w = b.0 m in (w.0, (is k).0 w.1), λ w. b.1 (w.0, (is k).1 w.1)),
  )

  pub lines_one : (l : List ℕ) → Lines f P l → l ≡ which f.count p
  lines_one l w =
      let b = lines_are in
      rising_one l (which f.count p) w.0 b.0 (λ k m. (b.1 k).1 ((w.1 k).0 m)) (λ k m. (w.1 k).1 ((b.1 k).0 m))

  pub how_many : (a : ℕ) → ((l : List ℕ) × Lines f P l × (length l ≡ a)) ↔ (count f.count p ≡ a)
  how_many a =
      let n = which_length f.count p in (
        λ w. sym n ∙ ap length (sym (lines_one w.0 w.1)) ∙ w.2,
        λ e. (which f.count p, lines_are, n ∙ e),
      )

  pub how_much : (g : ℕ → ℕ) (a b : ℕ)
      → ((l : List ℕ) × Lines f P l × (length l ≡ a) × (total g l ≡ b)) ↔ ((count f.count p ≡ a) × (sum f.count (λ k. pick (p k) (g k) 0) ≡ b))
  how_much g a b =
      let n = which_length f.count p in
      let t = which_total f.count p g in (
        λ w.
            let e = sym (lines_one w.0 w.1) in
            (sym n ∙ ap length e ∙ w.2, sym t ∙ ap (total g) e ∙ w.3),
        λ e. (which f.count p, lines_are, n ∙ e.0, t ∙ e.1),
      )
