-- 8's text: the code's cutting and freeing give the one text that `MeetsHeaders` has in words.
use Prim.Native.Nat.{ℕ, zero, suc}
use native.Mathlib.Omega.{arith}
use mathlib.Core.Path.{◌≡◌, refl, sym, ap, ap₂, ◌∙◌}
use mathlib.Core.Logic.{◌⊎◌, inl, inr, ⊎_elim}
use mathlib.Core.Bool.{Bool, true, false, and-false}
use mathlib.Core.List.Memᴰ
use mathlib.Core.List.{List, [], ◌∷◌, ◌++◌, Memᴰ, append_assoc}
use lib.Dec.{eqb}
use lib.ListN.{length, replicate, length-replicate}
use borrow.Author.Tests.{eqb-true, eq-eqb, ne_eqb}
use Rattle.rules.specs.Places.{pick}
use Rattle.rules.specs.Text.{blank}
use Rattle.rules.specs.Layout.{Layout, at}
use Rattle.rules.specs.Headers.{cut, freed_before, freed_after, projection}
use Rattle.rules.specs.MeetsHeaders.{CutAt, Starts, Ends, Freed, Projected}
use Rattle.rules.proofs.Tests.{clash}
use Rattle.rules.proofs.Fields.{blank_is}

pub cut_is : (bs : List ℕ) → CutAt bs (cut bs)
unfolding cut pick
cut_is [] = ([], refl, (λ m. Memᴰ.not-nil m), inl refl)
cut_is (b ∷ bs) = go (eqb b 59) refl (cut_is bs)
  where
    go : (t : Bool) → eqb b 59 ≡ t → CutAt bs (cut bs) → CutAt (b ∷ bs) (pick t [] (b ∷ cut bs))
    go true e w = (b ∷ bs, refl, (λ m. Memᴰ.not-nil m), inr (bs, ap (λ (c : ℕ). c ∷ bs) (eqb-true b 59 e)))
    go false e w = (
      w.0,
      ap (λ (l : List ℕ). b ∷ l) w.1,
      (λ m. ⊎_elim (λ q. clash (sym e ∙ eq-eqb b 59 (sym q))) w.2 (Memᴰ.cases_cons m)),
      w.3,
    )

before_is : (bs : List ℕ) → (i : ℕ) × (bs ≡ replicate i 32 ++ freed_before bs) × Starts (freed_before bs)
unfolding freed_before pick
before_is [] = (0, refl, inl refl)
before_is (b ∷ bs) = go (eqb b 32) refl (before_is bs)
  where
    go : (t : Bool) → eqb b 32 ≡ t → (i : ℕ) × (bs ≡ replicate i 32 ++ freed_before bs) × Starts (freed_before bs)
        → (i : ℕ) × (b ∷ bs ≡ replicate i 32 ++ pick t (freed_before bs) (b ∷ bs)) × Starts (pick t (freed_before bs) (b ∷ bs))
    go true e w = let p = eqb-true b 32 e in let q = w.1 in (suc w.0, (cc), w.2)
    go false e w = (0, refl, inr (b, bs, refl, λ q. clash (sym e ∙ eq-eqb b 32 q)))

after_is : (bs : List ℕ) → (j : ℕ) × (bs ≡ freed_after bs ++ replicate j 32) × Ends (freed_after bs)
unfolding freed_after pick
after_is [] = (0, refl, inl refl)
after_is (b ∷ bs) = go (blank (b ∷ bs)) refl (after_is bs)
  where
    alone : blank (b ∷ bs) ≡ false → (j : ℕ) → bs ≡ replicate j 32 → b ≡ 32 → ⊥
    alone e j q p =
        let l : length bs ≡ j = ap length q ∙ length-replicate j 32 in
        let r : bs ≡ replicate (length bs) 32 = q ∙ ap (λ (n : ℕ). replicate n 32) (sym l) in
        let z : b ∷ bs ≡ replicate (length (b ∷ bs)) 32 = cc in
        clash (sym e ∙ (blank_is (b ∷ bs)).1 z)

    last : blank (b ∷ bs) ≡ false → (j : ℕ) → bs ≡ freed_after bs ++ replicate j 32 → Ends (freed_after bs) → Ends (b ∷ freed_after bs)
    last e j q (inl n) =
        inr ([], b, ap (λ (l : List ℕ). b ∷ l) n, alone e j (q ∙ ap (λ (l : List ℕ). l ++ replicate j 32) n))
    last e j q (inr w) = inr (b ∷ w.0, w.1, ap (λ (l : List ℕ). b ∷ l) w.2, w.3)

    go : (t : Bool) → blank (b ∷ bs) ≡ t → (j : ℕ) × (bs ≡ freed_after bs ++ replicate j 32) × Ends (freed_after bs)
        → (j : ℕ) × (b ∷ bs ≡ pick t [] (b ∷ freed_after bs) ++ replicate j 32) × Ends (pick t [] (b ∷ freed_after bs))
    go true e w = (length (b ∷ bs), (blank_is (b ∷ bs)).0 e, inl refl)
    go false e w = (w.0, ap (λ (l : List ℕ). b ∷ l) w.1, last e w.0 w.1 w.2)

-- what is freed at its end keeps its start
starts_kept : (bs : List ℕ) → Starts bs → Starts (freed_after bs)
unfolding freed_after pick
starts_kept [] s = inl refl
starts_kept (b ∷ bs) s = go (blank (b ∷ bs)) s
  where
    go : (t : Bool) → Starts (b ∷ bs) → Starts (pick t [] (b ∷ freed_after bs))
    go true s = inl refl
    go false (inl e) = let z : ◌≡◌ {A = ℕ} 0 1 = cc in absurd (omega arith)
    go false (inr w) = let e = w.2 in inr (b, freed_after bs, refl, λ q. w.3 (let p : w.0 ≡ b = cc in p ∙ q))

pub freed_is : (bs : List ℕ) → Freed bs (freed_after (freed_before bs))
freed_is bs =
    let a = before_is bs in
    let b = after_is (freed_before bs) in
    (a.0, b.0, a.1 ∙ ap (λ (l : List ℕ). replicate a.0 32 ++ l) b.1, starts_kept (freed_before bs) a.2, b.2)

pub projection_is : (L : Layout) (l : List ℕ) → Projected L l (projection L l)
unfolding projection
projection_is L l = (cut (at l L.header_text), cut_is _, freed_is _)

-- there is one such text
pub cut_one : (bs c : List ℕ) → CutAt bs c → cut bs ≡ c
unfolding cut pick
cut_one [] [] w = refl
cut_one [] (x ∷ c) w = let e = w.1 in let z : ◌≡◌ {A = ℕ} 0 1 = cc in absurd (omega arith)
cut_one (b ∷ bs) [] w = go w.3
  where
    go : (w.0 ≡ []) ⊎ ((more : List ℕ) × (w.0 ≡ 59 ∷ more)) → pick (eqb b 59) [] (b ∷ cut bs) ≡ []
    go (inl e) = let f = w.1 in let z : ◌≡◌ {A = ℕ} 0 1 = cc in absurd (omega arith)
    go (inr y) = let f = w.1 in let e = y.1 in let q : b ≡ 59 = cc in rw (eq-eqb b 59 q)
cut_one (b ∷ bs) (x ∷ c) w =
    let e = w.1 in
    let p : b ≡ x = cc in
    let q : bs ≡ c ++ w.0 = cc in
    let ih = cut_one bs c (w.0, q, (λ m. w.2 (Memᴰ.tail m)), w.3) in
    let n : eqb b 59 ≡ false = ne_eqb b 59 (λ f. w.2 (Memᴰ.head (sym f ∙ p))) in
    rw n (ap₂ (λ (y : ℕ) (l : List ℕ). y ∷ l) p ih)

blanks_before : (i : ℕ) (q : List ℕ) → freed_before (replicate i 32 ++ q) ≡ freed_before q
unfolding freed_before pick
blanks_before zero q = refl
blanks_before (suc i) q = blanks_before i q

no_blank : (qs : List ℕ) (b : ℕ) (r : List ℕ) → (b ≡ 32 → ⊥) → blank (qs ++ (b ∷ r)) ≡ false
unfolding blank
no_blank [] b r n = rw (ne_eqb b 32 n)
no_blank (x ∷ qs) b r n = rw (no_blank qs b r n, and-false)

blanks_after : (j : ℕ) → freed_after (replicate j 32) ≡ []
unfolding freed_after pick
blanks_after zero = refl
blanks_after (suc j) = rw ((blank_is (replicate (suc j) 32)).1 (ap (λ (n : ℕ). 32 ∷ replicate n 32) (sym (length-replicate j 32))))

ends_kept : (qs : List ℕ) (b j : ℕ) → (b ≡ 32 → ⊥) → freed_after (qs ++ (b ∷ replicate j 32)) ≡ qs ++ (b ∷ [])
unfolding freed_after pick
ends_kept [] b j n = rw (no_blank [] b (replicate j 32) n) (ap (λ (l : List ℕ). b ∷ l) (blanks_after j))
ends_kept (x ∷ qs) b j n =
    rw (no_blank (x ∷ qs) b (replicate j 32) n) (ap (λ (l : List ℕ). x ∷ l) (ends_kept qs b j n))

after_one : (p : List ℕ) (j : ℕ) → Ends p → freed_after (p ++ replicate j 32) ≡ p
after_one p j (inl e) = rw e (blanks_after j)
after_one p j (inr w) =
    ap (λ (l : List ℕ). freed_after (l ++ replicate j 32)) w.2 ∙ ap freed_after (append_assoc w.0 (w.1 ∷ []) (replicate j 32))
    ∙ ends_kept w.0 w.1 j w.3 ∙ sym w.2

before_one : (p : List ℕ) (j : ℕ) → Starts p → Ends p → freed_after (freed_before (p ++ replicate j 32)) ≡ p
unfolding freed_before freed_after pick
before_one p j (inl e) z =
    ap (λ (l : List ℕ). freed_after (freed_before (l ++ replicate j 32))) e ∙ ap freed_after (all j) ∙ sym e
  where
    all : (j : ℕ) → freed_before (replicate j 32) ≡ []
    all zero = refl
    all (suc j) = all j
before_one p j (inr w) z =
    ap freed_after
    (ap (λ (l : List ℕ). freed_before (l ++ replicate j 32)) w.2 ∙ (rw (ne_eqb w.0 32 w.3))
    ∙ sym (ap (λ (l : List ℕ). l ++ replicate j 32) w.2))
    ∙ after_one p j z

pub projection_one : (L : Layout) (l p : List ℕ) → Projected L l p → projection L l ≡ p
unfolding projection
projection_one L l p w =
    let f = w.2 in
    ap (λ (c : List ℕ). freed_after (freed_before c)) (cut_one (at l L.header_text) w.0 w.1 ∙ f.2)
    ∙ ap freed_after (blanks_before f.0 (p ++ replicate f.1 32)) ∙ before_one p f.1 f.3 f.4
