-- Fields in a medium's own bytes.
--   ranked_small   = a line of bytes stays one; cols_small, cols_told = so do its columns
--   ranked_long    = and texts of n bytes
--   ranked_alike   = texts compare as their bytes do
--   ranked_whole, ranked_index = a number and an index read by low halves from the bytes are those that the characters hold
use Prim.Native.Nat.{ℕ, zero, suc, ◌+◌, ◌-◌, ◌*◌, ◌%◌, ◌<◌}
use native.Mathlib.Omega.{arith}
use mathlib.Core.Path.{◌≡◌, refl, sym, ap, ap₂, subst, ◌∙◌}
use mathlib.Core.Logic.{⊎_elim}
use mathlib.Core.Bool.{◌&&◌}
use mathlib.Core.List.{List, [], ◌∷◌, ◌++◌}
use lib.Dec.{eqb, lit≤}
use lib.ListN.{get_or, drop, replicate}
use lib.Seq.{get_or-drop}
use borrow.Author.Tests.{eqb-true, eq-eqb, ne_eqb}
use Rattle.rules.specs.Places.{pick}
use Rattle.rules.specs.Text.{front, col, cols, same}
use Rattle.rules.specs.Names.{ranked}
use Rattle.rules.specs.Numbers.{whole, size}
use Rattle.rules.specs.Kinds.{index, whole_number, index_of}
use Rattle.rules.specs.MeetsFields.{Digits, Index, Reads}
use Rattle.rules.proofs.Tests.{agree, yes_no}
use Rattle.rules.proofs.Numbers.{whole_is}
use Rattle.rules.proofs.Medium.{ranked_column}
use Rattle.fields.specs.Figures.{figures_after, figures, low_index}
use Rattle.fields.specs.Texts.{Small, Long}
use Rattle.fields.specs.Ranks.{Ranks, Told}
use Rattle.fields.proofs.LowHalves.{figures_whole}

-- what holds of each column of a line, and of 0, holds of some of its columns
module _ (P : ℕ → Type 0) (z : P 0) where
  front_holds : (n : ℕ) (l : List ℕ) → ((i : ℕ) → P (get_or l i 0)) → (i : ℕ) → P (get_or (front n l) i 0)
  unfolding front
  front_holds zero l h i = z
  front_holds (suc n) [] h zero = z
  front_holds (suc n) [] h (suc i) = front_holds n [] h i
  front_holds (suc n) (x ∷ xs) h zero = h 0
  front_holds (suc n) (x ∷ xs) h (suc i) = front_holds n xs (λ j. h (suc j)) i

  cols_hold : (l : List ℕ) (a b : ℕ) → ((i : ℕ) → P (get_or l i 0)) → (i : ℕ) → P (get_or (cols l a b) i 0)
  unfolding cols
  cols_hold l a b h = front_holds (b + 1 - a) (drop (a - 1) l) (λ i. subst P (sym (get_or-drop (a - 1) l i 0)) (h (a - 1 + i)))

pub cols_small : (l : List ℕ) (a b : ℕ) → Small l → Small (cols l a b)
cols_small = cols_hold (λ c. c < 256) (lit≤ tt)

module _ (g : ℕ → ℕ) (w : Ranks g) where
  pub cols_told : (l : List ℕ) (a b : ℕ) → Told g l → Told g (cols l a b)
  cols_told = cols_hold (λ c. g c ≡ 0 → c ≡ 0) (λ e. refl)

  pub ranked_small : (l : List ℕ) → Small l → Small (ranked g l)
  ranked_small l s i = subst (λ (c : ℕ). c < 256) (sym (ranked_column g w.none l i)) (w.fits _ (s i))

  pub ranked_long : (n : ℕ) (xs : List ℕ) → Long n xs → Long n (ranked g xs)
  unfolding ranked
  ranked_long zero [] a = tt
  ranked_long zero (x ∷ xs) a = absurd a
  ranked_long (suc n) [] a = absurd a
  ranked_long (suc n) (x ∷ xs) a = (w.fits x a.0, ranked_long n xs a.1)

  one_alike : (x y : ℕ) → x < 256 → (g x ≡ 0 → x ≡ 0) → y < 256 → (g y ≡ 0 → y ≡ 0) → eqb (g x) (g y) ≡ eqb x y
  one_alike x y s t u v =
      agree _ _
      (λ e.
      let q = eqb-true (g x) (g y) e in
      yes_no (eqb (g x) 0)
      (λ z. let o = eqb-true (g x) 0 z in eq-eqb x y (t o ∙ sym (v (sym q ∙ o))))
      (λ z. eq-eqb x y (w.apart x y s u (λ o. z (eq-eqb (g x) 0 o)) q)))
      (λ e. eq-eqb (g x) (g y) (ap g (eqb-true x y e)))

  pub ranked_alike : (xs ys : List ℕ) → Small xs → Told g xs → Small ys → Told g ys → same (ranked g xs) (ranked g ys) ≡ same xs ys
  unfolding same ranked
  ranked_alike [] [] s t u v = refl
  ranked_alike [] (y ∷ ys) s t u v = refl
  ranked_alike (x ∷ xs) [] s t u v = refl
  ranked_alike (x ∷ xs) (y ∷ ys) s t u v =
      ap₂ ◌&&◌ (one_alike x y (s 0) (t 0) (u 0) (v 0))
      (ranked_alike xs ys (λ i. s (suc i)) (λ i. t (suc i)) (λ i. u (suc i)) (λ i. v (suc i)))

  digits_kept : (v : ℕ) (ds : List ℕ) → Digits ds → figures_after v (ranked g ds) ≡ figures_after v ds
  unfolding figures_after ranked
  digits_kept v [] d = refl
  digits_kept v (c ∷ cs) d =
      ap (λ (n : ℕ). figures_after (10 * v + n) (ranked g cs)) (w.digits c d.0) ∙ digits_kept (10 * v + c % 16) cs d.1

  blanks_kept : (v j : ℕ) (ds : List ℕ) → Digits ds → figures_after v (ranked g (replicate j 32 ++ ds)) ≡ figures_after v (replicate j 32 ++ ds)
  unfolding figures_after ranked
  blanks_kept v zero ds d = digits_kept v ds d
  blanks_kept v (suc j) ds d =
      ap (λ (n : ℕ). figures_after (10 * v + n) (ranked g (replicate j 32 ++ ds))) w.blanks ∙ blanks_kept (10 * v + 0) j ds d

  pub ranked_whole : (a b : ℕ) (bs : List ℕ) → Reads (whole_number a b) bs → figures (ranked g bs) ≡ size (whole bs)
  unfolding size
  ranked_whole a b bs r =
      let e = (whole_is bs r.0).1 r.1 in
      let q = r.1 in
      subst (λ (cs : List ℕ). figures (ranked g cs) ≡ figures cs) (sym q.2) (blanks_kept 0 q.0 q.1 q.3.1)
      ∙ figures_whole bs r.0 e ∙ sym (ap size e)

  low_is : (c : ℕ) (v : ℕ) → Index c v → pick (eqb (g c % 16) 0) 1 (g c % 16) ≡ index_of c
  unfolding index_of pick
  low_is c v i =
      ⊎_elim
      (λ q. rw q.0 (rw w.blanks))
      (λ q.
      let lo = q.0 in
      let hi = q.1 in
      let e : g c % 16 ≡ c - 48 = w.digits c (omega arith, omega arith) ∙ (let z : c % 16 ≡ c - 48 = omega arith in z) in
      let n : c - 48 ≡ 0 → ⊥ = λ z. omega arith in
      let m : c ≡ 32 → ⊥ = λ z. omega arith in
      rw (e, ne_eqb (c - 48) 0 n, ne_eqb c 32 m))
      i

  pub ranked_index : (bs : List ℕ) → Reads index bs → low_index (ranked g bs) ≡ index_of (col bs 1)
  unfolding low_index col
  ranked_index bs r = rw (ranked_column g w.none bs (1 - 1)) (low_is (get_or bs (1 - 1) 0) r.0 r.1)
