-- Laws that the proofs of this crate share: the walk over a line's bytes, and the look at all of them.
use Rattle.std.proofs.Common.{◌≡◌, ℕ, zero, suc, ◌+◌, ◌-◌, ◌/◌, ◌<◌, ◌≤◌, min, Bool, true, false, eqb, List, [], ◌∷◌, length, get_or, take, drop, ap, ◌∙◌}
use Rattle.std.proofs.Common.{refl, ap₂, add-one, arith, drop-cons}
use Rattle.std.proofs.Common.{eq-eqb, ne_eqb, le-leb}
use lib.Pointwise.{pointwise}
use borrow.Author.Tests.{lt-leb}
use Rattle.rules.specs.Places.{pick}
use Rattle.rules.specs.Text.{same}
use Rattle.rules.specs.Tape.{tape}
use Rattle.rules.specs.Disc.{disc}
use Rattle.rules.specs.Calls.{on, none, choice}
use Rattle.rules.specs.Plan.{Verdict, fine, refused, №, run, ◌before◌}
use Rattle.rules.specs.Sheet.{Sheet, most_lines, all_lines}
use Rattle.rules.specs.Form.{stray_from, ending, rule1, rule2, rule29}
use Rattle.rules.proofs.Least.{least_below}
use Rattle.rules.proofs.Steps.{need_met, need_broken, before_met, before_broken}
use Rattle.rules.specs.MeetsDisc.{Proper}
use Rattle.std.specs.Prelude.{Option, Some, None}
use Rattle.lines.specs.Paper.{unless_none}
use Rattle.lines.specs.declared.Reading.{Reading}
use Rattle.lines.specs.Reading.{Printed, medium_of, sheet_of}
use Rattle.lines.proofs.Sheets.{lawful, all_by, closing_by}

-- the medium of a number
pub chosen_disc : (n : ℕ) → n ≡ 1 → on disc ≡ choice n
unfolding choice pick
chosen_disc n e = rw e

pub chosen_tape : (n : ℕ) → n ≡ 2 → on tape ≡ choice n
unfolding choice pick
chosen_tape n e = rw e

pub chosen_none : (n : ℕ) → (n ≡ 1 → ⊥) → (n ≡ 2 → ⊥) → none ≡ choice n
unfolding choice pick
chosen_none n p q = rw (ne_eqb _ _ p, ne_eqb _ _ q)

-- a number above 0 is no word for none
pub some_of : (n m : ℕ) → 0 < n → n ≡ m → Some n ≡ unless_none m
some_of zero m h e = absurd (omega arith)
some_of (suc n) m h e = ap unless_none e

-- what an answer of the code says of it
pub given : (o : Option ℕ) (n c : ℕ) → o ≡ unless_none n → o ≡ Some c → (c ≡ n) × (c ≡ 0 → ⊥)
given o zero c p q = absurd (let z : ◌≡◌ {A = ℕ} 0 1 = cc in omega arith)
given o (suc n) c p q = let e : c ≡ suc n = cc in (e, λ z. omega arith)

pub not_given : (o : Option ℕ) (n : ℕ) → o ≡ unless_none n → o ≡ None → n ≡ 0
not_given o zero p q = refl
not_given o (suc n) p q = absurd (let z : ◌≡◌ {A = ℕ} 0 1 = cc in omega arith)

-- what is left of w bytes from a on, after c of them
pub rest_step : (f : List ℕ) (a w c : ℕ) → c < w → a + w ≤ length f
    → take (w - c) (drop (a + c) f) ≡ get_or f (a + c) 0 ∷ take (w - (c + 1)) (drop (a + (c + 1)) f)
rest_step f a w c h l =
    let e : w - c ≡ suc (w - (c + 1)) = omega arith in
    let n : suc (a + c) ≡ a + (c + 1) = omega arith in
    ap (take (w - c)) (drop-cons f (a + c) 0 (omega arith) ∙ ap (λ (m : ℕ). get_or f (a + c) 0 ∷ drop m f) n)
    ∙ ap (λ (m : ℕ). take m (get_or f (a + c) 0 ∷ drop (a + (c + 1)) f)) e

module _ (takes : ℕ → ℕ → Bool) (f : List ℕ) (a w c X : ℕ) (e : stray_from takes (c + 1) (take (w - c) (drop (a + c) f)) ≡ X) where
  pub stray_end : w ≤ c → 0 ≡ X
  unfolding stray_from
  stray_end h = let z : w - c ≡ 0 = omega arith in (rw z) ∙ e

  module _ (h : c < w) (l : a + w ≤ length f) (t : Bool) (q : t ≡ takes (c + 1) (get_or f (a + c) 0)) where
    pub stray_stop : t ≡ false → c + 1 ≡ X
    unfolding stray_from pick
    stray_stop n = (rw (rest_step f a w c h l, ← q, n)) ∙ e

    pub stray_step : t ≡ true → stray_from takes (c + 1 + 1) (take (w - (c + 1)) (drop (a + (c + 1)) f)) ≡ X
    unfolding stray_from pick
    stray_step y =
        ap (λ (m : ℕ). stray_from takes m (take (w - (c + 1)) (drop (a + (c + 1)) f))) (add-one (c + 1)) ∙ (rw (rest_step f a w c h l, ← q, y)) ∙ e

-- 80 printable bytes, CR and LF are a clean line
pub proper_all : (f : List ℕ) (a : ℕ) → ((c : ℕ) → c < 80 → Printed (get_or f (a + c) 0)) → get_or f (a + 80) 0 ≡ 13 → get_or f (a + 81) 0 ≡ 10
    → (c : ℕ) → c < 82 → Proper (c + 1) (get_or f (a + c) 0)
proper_all f a h e n c l = (
  (λ z. h c (omega arith)),
  (λ z. (
    (λ y. ap (λ (m : ℕ). get_or f (a + m) 0) (let q : c ≡ 80 = omega arith in q) ∙ e),
    (λ y. ap (λ (m : ℕ). get_or f (a + m) 0) (let q : c ≡ 81 = omega arith in q) ∙ n),
  )),
)

-- 1, 2 and 29 of a file of n lines
module _ (i : ℕ) (f : Sheet) (n : ℕ) (q : n ≡ all_lines f) where
  pub one_broken : (l : ℕ) → (f.left ≡ 0 → ⊥) → l ≡ min (n + 1) 10000 → refused (№ 1 i l 0) ≡ run (rule1 i f before rule2 i f before rule29 i f)
  unfolding rule1 most_lines
  one_broken l h e =
      ap (λ (l : ℕ). refused (№ 1 i l 0)) (e ∙ ap (λ (n : ℕ). min (n + 1) 10000) q) ∙ before_broken _ _ _ (need_broken _ _ (ne_eqb _ _ h))

  module _ (z : f.left ≡ 0) where
    one_met : fine ≡ run (rule1 i f)
    unfolding rule1
    one_met = need_met _ _ (eq-eqb _ _ z)

    pub two_broken : 9999 < n → refused (№ 2 i 10000 0) ≡ run (rule1 i f before rule2 i f before rule29 i f)
    unfolding rule2 most_lines
    two_broken h = before_broken _ _ _ (need_broken _ _ (lt-leb _ _ (rw q at h))) ∙ before_met _ _ one_met

    pub two_met : n ≤ 9999 → (v : Verdict) → v ≡ run (rule29 i f) → v ≡ run (rule1 i f before rule2 i f before rule29 i f)
    unfolding rule2 most_lines
    two_met h v p = p ∙ before_met _ _ (need_met _ _ (le-leb _ _ (rw q at h))) ∙ before_met _ _ one_met

  module _ (e c : ℕ) (p : e ≡ ending f) (r : c ≡ f.closing) where
    pub end_met : e + c ≡ n → fine ≡ run (rule29 i f)
    unfolding rule29
    end_met z =
        let y : ending f + f.closing ≡ all_lines f = rw (p, r, q) at z in
        need_met _ _ (eq-eqb _ _ y)

    pub end_broken : (e + c ≡ n → ⊥) → (l : ℕ) → l ≡ min (e + 2) (n + 1) → refused (№ 29 i l 0) ≡ run (rule29 i f)
    unfolding rule29
    end_broken z l y =
        ap (λ (l : ℕ). refused (№ 29 i l 0)) (y ∙ rw (p, q))
        ∙ need_broken _ _ (ne_eqb (ending f + f.closing) (all_lines f) (λ x. z (rw (p, r, q) x)))

-- the end stands within the lines
pub ending_few : (f : Sheet) → ending f ≤ all_lines f
unfolding ending
ending_few f = least_below (all_lines f) f.ends

-- the first three bytes of a record
module _ (f : List ℕ) (a : ℕ) (h : a + 80 ≤ length f) where
  first_three : (g : List ℕ → List ℕ) → take 3 (g (drop a f)) ≡ take 3 (g (get_or f a 0 ∷ get_or f (a + 1) 0 ∷ get_or f (a + 2) 0 ∷ drop (a + 3) f))
  first_three g =
      let b = drop-cons f a 0 (omega arith) in
      let c = drop-cons f (suc a) 0 (omega arith) in
      let d = drop-cons f (suc (suc a)) 0 (omega arith) in
      let y : suc a ≡ a + 1 = omega arith in
      let z : suc (suc a) ≡ a + 2 = omega arith in
      let x : suc (suc (suc a)) ≡ a + 3 = omega arith in
      ap (λ (l : List ℕ). take 3 (g l)) (b ∙ ap (λ (l : List ℕ). get_or f a 0 ∷ l) (c ∙ ap (λ (l : List ℕ). get_or f (suc a) 0 ∷ l) d))
      ∙ ap₂ (λ (m n : ℕ). take 3 (g (get_or f a 0 ∷ get_or f m 0 ∷ get_or f n 0 ∷ drop (suc (suc (suc a))) f))) y z
      ∙ ap (λ (n : ℕ). take 3 (g (get_or f a 0 ∷ get_or f (a + 1) 0 ∷ get_or f (a + 2) 0 ∷ drop n f))) x

  pub ends_is : (n : ℕ) → n ≡ 3 → pointwise eqb (take n (drop a f)) (197 ∷ 214 ∷ 198 ∷ []) ≡ tape.ends (take 80 (drop a f))
  unfolding tape same
  ends_is n e = rw (e, first_three (λ l. l), first_three (take 80))

-- how the numbers lie by which the end of a file is judged
pub end_bounds : (how : Reading) (w : ℕ) → w ≡ (medium_of how).stride → (f : List ℕ) (c : ℕ) → c ≡ (medium_of how).closing → (e : ℕ)
    → e ≡ ending (sheet_of how f) → all_lines (sheet_of how f) ≤ most_lines → (e ≤ length f / w) × ((length f / w ≤ 9999) × (c ≤ 1))
unfolding most_lines
end_bounds how w q f c p e r h =
    let n = all_by how w q f in
    let k = closing_by how w q f c p in
    let m = ending_few (sheet_of how f) in
    let o = (lawful how).once in
    (omega arith, (omega arith, omega arith))
