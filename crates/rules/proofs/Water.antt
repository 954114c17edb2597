-- A depth of water: with its point up to 99.9, in whole metres above.
--   water_small, water_large = which of the two it is written in
--   water_point, water_metres = what each is read as
--   depth_is                 = the depths that the field holds
--   water_back               = what is written is read
--   water_short              = four columns hold it
use Prim.Native.Nat.{ℕ, ◌+◌, ◌*◌, ◌/◌, ◌%◌, ◌≤◌, ◌<◌}
use native.Mathlib.Omega.{arith}
use mathlib.Core.Path.{◌≡◌, ap, ◌∙◌}
use mathlib.Core.Logic.Iff
use mathlib.Core.Logic.{◌↔◌, inl, inr, ⊎_elim, ◌⊎◌}
use mathlib.Core.Bool.{true, ◌&&◌}
use mathlib.Core.List.{List}
use lib.Dec.{leb, eqb}
use lib.ListN.{length}
use borrow.Author.Tests.{leb-true, le-leb, lt-leb}
use Rattle.rules.specs.Places.{pick}
use Rattle.rules.specs.Numbers.{plus, whole, decimal, then}
use Rattle.rules.specs.Kinds.{water}
use Rattle.rules.specs.MeetsFields.{Whole, Tenths}
use Rattle.rules.specs.Figures.{decimal_of, figures}
use Rattle.rules.specs.Spelled.{padded, with_point, water_figures, is_depth}
use Rattle.rules.proofs.Tests.{says, or_is, pick_is, yes_no}
use Rattle.rules.proofs.Numbers.{whole_is}
use Rattle.rules.proofs.Spellings.{not_both, pointed_whole}
use Rattle.rules.proofs.Fields.{between_is}
use Rattle.rules.proofs.Figures.{digits_grow}
use Rattle.rules.proofs.Padded.{padded_whole, whole_tenths}
use Rattle.rules.proofs.Short.{point_grow}

pub water_small : (n : ℕ) → n ≤ 999 → water_figures n ≡ with_point n
unfolding water_figures pick
water_small n h = rw (le-leb n 999 h)

pub water_large : (n : ℕ) → 999 < n → water_figures n ≡ decimal_of (n / 10)
unfolding water_figures pick
water_large n h = rw (lt-leb n 999 h)

pub water_point : (bs : List ℕ) (n : ℕ) → Tenths Whole bs n → n ≤ 999 → water bs ≡ plus n
unfolding water
water_point bs n w h =
    let e = (pointed_whole bs n).1 w in
    (pick_is _ _ _ _).1 ((λ t. e), λ t. absurd (t ((between_is 0 999 (decimal whole bs)).1 (n, e, omega arith, h))))

pub water_metres : (bs : List ℕ) (m : ℕ) → Whole bs m → m ≤ 999 → water bs ≡ plus (10 * m + 0)
unfolding water then
water_metres bs m w h =
    let e = (whole_is bs m).1 w in
    (pick_is _ _ _ _).1 (
      (λ t.
          let b = (between_is 0 999 (decimal whole bs)).0 t in
          absurd (not_both bs m b.0 w ((pointed_whole bs b.0).0 b.1))),
      λ t. (pick_is _ _ _ _).1 ((λ u. rw e), λ u. absurd (u ((between_is 0 999 (whole bs)).1 (m, e, omega arith, h)))),
    )

-- the depths that the field holds
pub depth_is : (n : ℕ) → (is_depth n ≡ true) ↔ ((n ≤ 999) ⊎ ((n ≤ 9990) × (n % 10 ≡ 0)))
unfolding is_depth
depth_is n =
    let u = or_is (leb n 999) (leb n 9990 && eqb (n % 10) 0) in
    let v : (leb n 9990 && eqb (n % 10) 0 ≡ true) ↔ ((n ≤ 9990) × (n % 10 ≡ 0)) = simp says Iff.rfl in (
      λ e. ⊎_elim (λ a. inl (leb-true n 999 a)) (λ a. inr (v.0 a)) (u.0 e),
      λ w. u.1 (⊎_elim (λ a. inl (le-leb n 999 a)) (λ a. inr (v.1 a)) w),
    )

pub water_back : (w n : ℕ) → is_depth n ≡ true → water (padded 32 w (water_figures n)) ≡ plus n
water_back w n e =
    yes_no (leb n 999)
    (λ t. let h = leb-true n 999 t in rw (water_small n h) (water_point _ n (whole_tenths w n) h))
    (λ t.
    let h : n ≤ 999 → ⊥ = λ h. t (le-leb n 999 h) in
    let b : (n ≤ 9990) × (n % 10 ≡ 0) = ⊎_elim (λ u. absurd (h u)) (λ u. u) ((depth_is n).0 e) in
    rw (water_large n (omega arith))
    (water_metres _ (n / 10) (padded_whole w (n / 10)) (omega arith) ∙ ap plus (let z : 10 * (n / 10) + 0 ≡ n = omega arith in z)))

-- four columns hold it
pub water_short : (n : ℕ) → n ≤ 9990 → length (water_figures n) ≤ 4
unfolding with_point decimal_of figures pick
water_short n h =
    yes_no (leb n 999)
    (λ t. let g = leb-true n 999 t in rw (water_small n g) (point_grow n 999 g))
    (λ t.
    let g : n ≤ 999 → ⊥ = λ g. t (le-leb n 999 g) in
    rw (water_large n (omega arith)) (let l : length (decimal_of (n / 10)) ≤ 3 = digits_grow (n / 10) 999 (omega arith) in omega arith))
