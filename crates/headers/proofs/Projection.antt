-- Whether a header text names a projection, from its bytes.
--   tail bs xs   = what stands before the first semicolon of bs, freed of blanks after it, is xs
use Prim.Native.Nat.{ℕ, ◌+◌, ◌-◌, ◌≤◌, ◌<◌}
use native.Mathlib.Omega.{arith}
use mathlib.Core.Path.{◌≡◌, refl, sym, ap, ap₂, ◌∙◌}
use mathlib.Core.Bool.{Bool, true, false, not, ◌&&◌, and-false}
use mathlib.Core.List.{List, [], ◌∷◌}
use lib.Dec.{eqb}
use lib.ListN.{length, get_or}
use borrow.Author.Tests.{eq-eqb, ne_eqb}
use Rattle.rules.specs.Places.{pick}
use Rattle.rules.specs.Text.{cols, same, blank, bytes}
use Rattle.rules.specs.Headers.{cut, freed_before, freed_after}
use Rattle.rules.proofs.Columns.{cols_end, cols_length, cols_step}
use Rattle.headers.specs.Steps.{names}

-- blanks alone, up to a semicolon or the end
module _ (l : List ℕ) (c : ℕ) (o : 1 ≤ c) (X : Bool) (e : blank (cut (cols l c 80)) ≡ X) where
  pub ends_end : 80 < c → true ≡ X
  unfolding cut blank
  ends_end h = (rw (cols_end l c o 80 h)) ∙ e

  module _ (h : c ≤ 80) where
    pub ends_cut : get_or l (c - 1) 0 ≡ 59 → true ≡ X
    unfolding cut blank pick
    ends_cut q = (rw (cols_step l c o 80 h, eq-eqb _ 59 q)) ∙ e

    module _ (n : get_or l (c - 1) 0 ≡ 59 → ⊥) where
      pub ends_stop : (get_or l (c - 1) 0 ≡ 32 → ⊥) → false ≡ X
      unfolding cut blank pick
      ends_stop q = (rw (cols_step l c o 80 h, ne_eqb _ 59 n, ne_eqb _ 32 q)) ∙ e

      pub ends_step : get_or l (c - 1) 0 ≡ 32 → blank (cut (cols l (c + 1) 80)) ≡ X
      unfolding cut blank pick
      ends_step q = (rw (cols_step l c o 80 h, ne_eqb _ 59 n, eq-eqb _ 32 q)) ∙ e

abbrev tail : List ℕ → List ℕ → Bool
tail bs xs = same (freed_after (cut bs)) xs

tail_nothing : (bs : List ℕ) → same (freed_after bs) [] ≡ blank bs
unfolding freed_after blank pick same
tail_nothing [] = refl
tail_nothing (b ∷ bs) = go (blank (b ∷ bs))
  where
    go : (t : Bool) → same (pick t [] (b ∷ freed_after bs)) [] ≡ t
    go true = refl
    go false = refl

tail_this : (b : ℕ) (bs xs : List ℕ) → (b ≡ 59 → ⊥) → (b ≡ 32 → ⊥) → tail (b ∷ bs) (b ∷ xs) ≡ tail bs xs
unfolding cut freed_after pick same blank
tail_this b bs xs m n = rw (ne_eqb b 59 m, ne_eqb b 32 n, eq-eqb b b refl)

tail_other : (b x : ℕ) (bs xs : List ℕ) → (eqb b x && tail bs xs) ≡ false → tail (b ∷ bs) (x ∷ xs) ≡ false
unfolding cut freed_after pick same
tail_other b x bs xs e = go (eqb b 59)
  where
    freed : (t : Bool) → same (pick t [] (b ∷ freed_after (cut bs))) (x ∷ xs) ≡ false
    freed true = refl
    freed false = e

    go : (t : Bool) → same (freed_after (pick t [] (b ∷ cut bs))) (x ∷ xs) ≡ false
    go true = refl
    go false = freed (blank (b ∷ cut bs))

tail_short : (bs xs : List ℕ) → length bs < length xs → tail bs xs ≡ false
unfolding cut freed_after same
tail_short [] [] h = absurd (omega arith)
tail_short [] (x ∷ xs) h = refl
tail_short (b ∷ bs) [] h = absurd (omega arith)
tail_short (b ∷ bs) (x ∷ xs) h = tail_other b x bs xs (rw (tail_short bs xs (omega arith)) (and-false (eqb b x)))

-- a text that starts with no blank
starts : (b : ℕ) (bs : List ℕ) → (b ≡ 32 → ⊥) → freed_before (cut (b ∷ bs)) ≡ cut (b ∷ bs)
unfolding cut freed_before pick
starts b bs n = go (eqb b 59)
  where
    go : (t : Bool) → freed_before (pick t [] (b ∷ cut bs)) ≡ pick t [] (b ∷ cut bs)
    go true = refl
    go false = rw (ne_eqb b 32 n)

names_from : (b : ℕ) (bs : List ℕ) → (b ≡ 32 → ⊥) → names (b ∷ bs) ≡ (not (blank (cut (b ∷ bs))) && not (tail (b ∷ bs) (bytes "N/A")))
unfolding names
names_from b bs n = rw (starts b bs n, tail_nothing (cut (b ∷ bs)))

names_inked : (b : ℕ) (bs : List ℕ) → (b ≡ 32 → ⊥) → (b ≡ 59 → ⊥) → names (b ∷ bs) ≡ not (tail (b ∷ bs) (bytes "N/A"))
unfolding cut blank pick
names_inked b bs n m = names_from b bs n ∙ (rw (ne_eqb b 59 m, ne_eqb b 32 n))

-- the blanks before it
module _ (l : List ℕ) (c : ℕ) (o : 1 ≤ c) (X : Bool) (e : names (cols l c 80) ≡ X) where
  pub names_end : 80 < c → false ≡ X
  unfolding names cut freed_before freed_after same
  names_end h = (rw (cols_end l c o 80 h)) ∙ e

  pub names_step : c ≤ 80 → get_or l (c - 1) 0 ≡ 32 → names (cols l (c + 1) 80) ≡ X
  unfolding names cut freed_before pick
  names_step h q = (rw (cols_step l c o 80 h, q)) ∙ e

next : (l : List ℕ) (c : ℕ) → c < 80 → cols l (c + 1) 80 ≡ get_or l c 0 ∷ cols l (c + 2) 80
next l c h =
    cols_step l (c + 1) (omega arith) 80 (omega arith)
    ∙ ap₂ (λ (i j : ℕ). get_or l i 0 ∷ cols l j 80) (let z : c + 1 - 1 ≡ c = omega arith in z) (let z : c + 1 + 1 ≡ c + 2 = omega arith in z)

-- the text from its first byte on
module _ (l : List ℕ) (c : ℕ) (o : 1 ≤ c) (h : c ≤ 80) (n : get_or l (c - 1) 0 ≡ 32 → ⊥) where
  pub at_cut : get_or l (c - 1) 0 ≡ 59 → false ≡ names (cols l c 80)
  unfolding cut blank pick
  at_cut q = rw (cols_step l c o 80 h) (sym (names_from _ _ n ∙ (rw (eq-eqb _ 59 q))))

  module _ (m : get_or l (c - 1) 0 ≡ 59 → ⊥) where
    pub at_other : (get_or l (c - 1) 0 ≡ 78 → ⊥) → true ≡ names (cols l c 80)
    unfolding bytes
    at_other q = rw (cols_step l c o 80 h) (sym (names_inked _ _ n m ∙ ap not (tail_other _ 78 _ _ (rw (ne_eqb _ 78 q)))))

    module _ (q : get_or l (c - 1) 0 ≡ 78) where
      after_n : names (cols l c 80) ≡ not (tail (cols l (c + 1) 80) (bytes "/A"))
      unfolding bytes
      after_n =
          rw (cols_step l c o 80 h) (names_inked _ _ n m
          ∙ (rw q (ap not (tail_this 78 (cols l (c + 1) 80) (bytes "/A") (λ z. omega arith) (λ z. omega arith)))))

      pub at_short : 78 < c → true ≡ names (cols l c 80)
      unfolding bytes
      at_short g =
          let k = cols_length l (c + 1) (omega arith) 80 in
          sym (after_n ∙ ap not (tail_short (cols l (c + 1) 80) (bytes "/A") (omega arith)))

      module _ (g : c ≤ 78) where
        pub at_no_slash : (get_or l c 0 ≡ 47 → ⊥) → true ≡ names (cols l c 80)
        unfolding bytes
        at_no_slash p = sym (after_n ∙ (rw (next l c (omega arith)) (ap not (tail_other _ 47 _ _ (rw (ne_eqb _ 47 p))))))

        module _ (p : get_or l c 0 ≡ 47) where
          after_slash : names (cols l c 80) ≡ not (tail (cols l (c + 2) 80) (bytes "A"))
          unfolding bytes
          after_slash =
              after_n
              ∙ (rw (next l c (omega arith), p) (ap not (tail_this 47 (cols l (c + 2) 80) (bytes "A") (λ z. omega arith) (λ z. omega arith))))

          onward : cols l (c + 2) 80 ≡ get_or l (c + 1) 0 ∷ cols l (c + 3) 80
          onward =
              ap (λ (i : ℕ). cols l i 80) (let z : c + 2 ≡ c + 1 + 1 = omega arith in z) ∙ next l (c + 1) (omega arith)
              ∙ ap (λ (i : ℕ). get_or l (c + 1) 0 ∷ cols l i 80) (let z : c + 1 + 2 ≡ c + 3 = omega arith in z)

          pub at_no_a : (get_or l (c + 1) 0 ≡ 65 → ⊥) → true ≡ names (cols l c 80)
          unfolding bytes
          at_no_a r = sym (after_slash ∙ (rw onward (ap not (tail_other _ 65 _ _ (rw (ne_eqb _ 65 r))))))

          pub at_n_a : get_or l (c + 1) 0 ≡ 65 → (t : Bool) → t ≡ blank (cut (cols l (c + 3) 80)) → not t ≡ names (cols l c 80)
          unfolding bytes
          at_n_a r t w =
              sym (after_slash
              ∙ (rw (onward, r) (ap not (tail_this 65 (cols l (c + 3) 80) [] (λ z. omega arith) (λ z. omega arith) ∙ tail_nothing _ ∙ sym w))))

-- what the check goes by in each function
pub ruleset ends_told = (ends_cut, ends_stop, ends_step, ends_end)

pub ruleset blanks_before = (names_step, names_end)

pub ruleset names_told = (at_cut, at_other, at_short, at_no_slash, at_no_a, at_n_a)
