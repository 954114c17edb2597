-- Columns of a line: the first and the rest, how many, which, and parts of them.
use Prim.Native.Nat.{ℕ, zero, suc, ◌+◌, ◌-◌, ◌≤◌, ◌<◌}
use native.Mathlib.Nat.{zero-add, suc-add, not-suc-le-zero, le_of_suc-le-suc}
use native.Mathlib.Omega.{arith}
use mathlib.Core.Path.{◌≡◌, refl, ap, ◌∙◌}
use mathlib.Core.List.{List, [], ◌∷◌, ◌++◌}
use lib.ListN.{length, get_or, take, drop}
use lib.Seq.{drop_at, drop-drop, drop-nil, get_or-drop}
use Rattle.rules.specs.Text.{front, col, cols}

-- columns one by one
pub one_column : (P : List ℕ → Type 0) (n : ℕ) → ((a : ℕ) (bs : List ℕ) → length bs ≡ n → P (a ∷ bs)) → (bs : List ℕ) → length bs ≡ suc n → P bs
one_column P n f [] h = absurd (omega arith)
one_column P n f (a ∷ bs) h = f a bs (omega arith)

pub no_column : (P : List ℕ → Type 0) → P [] → (bs : List ℕ) → length bs ≡ 0 → P bs
no_column P f [] h = f
no_column P f (a ∷ bs) h = absurd (omega arith)

-- the first byte, and the rest
front_step : (n i : ℕ) (l : List ℕ) → front (suc n) (drop i l) ≡ get_or l i 0 ∷ front n (drop (suc i) l)
unfolding front
front_step n zero [] = refl
front_step n zero (x ∷ xs) = refl
front_step n (suc i) [] = refl
front_step n (suc i) (x ∷ xs) = front_step n i xs

front_length : (n : ℕ) (l : List ℕ) → length (front n l) ≡ n
unfolding front
front_length zero l = refl
front_length (suc n) [] = ap suc (front_length n [])
front_length (suc n) (x ∷ xs) = ap suc (front_length n xs)

front_at : (n i : ℕ) (l : List ℕ) → i < n → get_or (front n l) i 0 ≡ get_or l i 0
unfolding front
front_at zero i l h = absurd (not-suc-le-zero h)
front_at (suc n) zero [] h = refl
front_at (suc n) zero (x ∷ xs) h = refl
front_at (suc n) (suc i) [] h = front_at n i [] (le_of_suc-le-suc h)
front_at (suc n) (suc i) (x ∷ xs) h = front_at n i xs (le_of_suc-le-suc h)

front_take : (n m : ℕ) (l : List ℕ) → take n (front (n + m) l) ≡ front n l
unfolding front
front_take zero m l = refl
front_take (suc n) m [] = rw suc-add (ap (λ (r : List ℕ). 0 ∷ r) (front_take n m []))
front_take (suc n) m (x ∷ xs) = rw suc-add (ap (λ (r : List ℕ). x ∷ r) (front_take n m xs))

front_drop : (n m : ℕ) (l : List ℕ) → drop n (front (n + m) l) ≡ front m (drop n l)
unfolding front
front_drop zero m l = rw zero-add
front_drop (suc n) m [] = rw suc-add (front_drop n m [] ∙ ap (front m) (drop-nil n))
front_drop (suc n) m (x ∷ xs) = rw suc-add (front_drop n m xs)

front_all : (xs ys : List ℕ) → front (length xs) (xs ++ ys) ≡ xs
unfolding front
front_all [] ys = refl
front_all (x ∷ xs) ys = ap (λ (l : List ℕ). x ∷ l) (front_all xs ys)

-- a part between two others
pub cols_part : (xs ys zs : List ℕ) (a b : ℕ) → length xs + 1 ≡ a → length ys ≡ b + 1 - a → cols (xs ++ (ys ++ zs)) a b ≡ ys
unfolding cols
cols_part xs ys zs a b e h = rw (← h, drop_at xs (ys ++ zs) (a - 1) (omega arith)) (front_all ys zs)

module _ (l : List ℕ) (a : ℕ) (o : 1 ≤ a) where
  pub cols_end : (b : ℕ) → b < a → cols l a b ≡ []
  unfolding cols front
  cols_end b h = let z : b + 1 - a ≡ 0 = omega arith in rw z

  pub cols_step : (b : ℕ) → a ≤ b → cols l a b ≡ get_or l (a - 1) 0 ∷ cols l (a + 1) b
  unfolding cols
  cols_step b h =
      let w : b + 1 - a ≡ suc (b + 1 - (a + 1)) = omega arith in
      let e : suc (a - 1) ≡ a + 1 - 1 = omega arith in
      ap (λ (n : ℕ). front n (drop (a - 1) l)) w ∙ front_step (b + 1 - (a + 1)) (a - 1) l
      ∙ ap (λ (m : ℕ). get_or l (a - 1) 0 ∷ front (b + 1 - (a + 1)) (drop m l)) e

  pub cols_length : (b : ℕ) → length (cols l a b) ≡ b + 1 - a
  unfolding cols
  cols_length b = front_length (b + 1 - a) (drop (a - 1) l)

  pub cols_at : (b i : ℕ) → i < b + 1 - a → get_or (cols l a b) i 0 ≡ col l (a + i)
  unfolding cols col
  cols_at b i g =
      front_at (b + 1 - a) i (drop (a - 1) l) g ∙ get_or-drop (a - 1) l i 0
      ∙ ap (λ (n : ℕ). get_or l n 0) (let z : a - 1 + i ≡ a + i - 1 = omega arith in z)

  -- the first columns, and those after the first
  module _ (b n : ℕ) (h : a + n ≤ b + 1) where
    split : b + 1 - a ≡ n + (b + 1 - (a + n))
    split = omega arith

    pub cols_take : take n (cols l a b) ≡ cols l a (a + n - 1)
    unfolding cols
    cols_take =
        ap (λ (m : ℕ). take n (front m (drop (a - 1) l))) split ∙ front_take n (b + 1 - (a + n)) (drop (a - 1) l)
        ∙ ap (λ (m : ℕ). front m (drop (a - 1) l)) (let z : n ≡ a + n - 1 + 1 - a = omega arith in z)

    pub cols_drop : drop n (cols l a b) ≡ cols l (a + n) b
    unfolding cols
    cols_drop =
        ap (λ (m : ℕ). drop n (front m (drop (a - 1) l))) split ∙ front_drop n (b + 1 - (a + n)) (drop (a - 1) l)
        ∙ ap (front (b + 1 - (a + n))) (drop-drop n (a - 1) l ∙ ap (λ (m : ℕ). drop m l) (let z : a - 1 + n ≡ a + n - 1 = omega arith in z))
