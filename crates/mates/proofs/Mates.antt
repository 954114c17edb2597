-- Lines of one tape and record, by their keys.
--   mates_are      = of relation lines: the same key
--   first_alone, goes_is = whether the record goes on, as the code finds it
--   some_before    = where it does, there is a line before
--   mates_with     = mates of a mate are mates
use Prim.Native.Nat.{ℕ, zero, suc, ◌-◌, ◌≤◌, ◌<◌}
use native.Mathlib.Omega.{arith}
use mathlib.Core.Path.{◌≡◌, refl, sym, ap, ◌∙◌}
use mathlib.Core.Bool.{Bool, true, false, not, ◌&&◌, ◌||◌}
use Rattle.rules.specs.Places.{if_before, is_before}
use Rattle.rules.specs.Sheet.{Sheet}
use Rattle.rules.specs.Lines.{is_data}
use Rattle.rules.specs.Relations.{reach_at}
use Rattle.rules.specs.Reaches.{reaches_of, of_record, mates}
use Rattle.rules.proofs.Tests.{clash, and_is, eqb_is, same_is}
use Rattle.form.specs.Known.{Known}
use Rattle.keys.specs.Compare.{same_key}
use Rattle.keys.specs.Keyed.{takes_at, key_at}
use Rattle.keys.specs.Held.{RelationLine}
use Rattle.keys.specs.declared.By.TheVariants.{Records}
use Rattle.keys.proofs.Lines.{takes_record}
use Rattle.keys.proofs.Records.{records_same}
use Rattle.order.specs.Repeat.{like}
use Rattle.mates.specs.Records.{goes_on}

-- the place just before
before_is : (p : ℕ → Bool) (k : ℕ) → (k ≡ 0 → ⊥) → is_before p k ≡ p (k - 1)
unfolding is_before
before_is p zero n = absurd (n refl)
before_is p (suc k) n = ap p (let z : k ≡ suc k - 1 = omega arith in z)

pub there_is_one : (p : ℕ → Bool) (k : ℕ) → is_before p k ≡ true → 1 ≤ k
unfolding is_before
there_is_one p zero e = clash e
there_is_one p (suc k) e = omega arith

-- what is asked of it where it passes p
pub before_asked : (p q : ℕ → Bool) (k : ℕ) → is_before p k ≡ true → if_before (λ j. not (p j) || q j) k ≡ q (k - 1)
unfolding is_before if_before
before_asked p q zero e = clash e
before_asked p q (suc k) e = rw e (ap q (let z : k ≡ suc k - 1 = omega arith in z))

pub before_passed : (p q : ℕ → Bool) (k : ℕ) → is_before p k ≡ false → if_before (λ j. not (p j) || q j) k ≡ true
unfolding is_before if_before
before_passed p q zero e = refl
before_passed p q (suc k) e = rw e

module _ (x : Sheet) (k j : ℕ) where
  pub mate_is_data : mates (reaches_of x) k j ≡ true → is_data x j ≡ true
  unfolding mates reaches_of
  mate_is_data e = ((and_is (is_data x j) (of_record (reach_at x k).tape (reach_at x k).number (reach_at x j))).0 e).0

  pub mate_read : mates (reaches_of x) k j ≡ true
      → (is_data x j ≡ true) × (((reach_at x j).tape ≡ (reach_at x k).tape) × ((reach_at x j).number ≡ (reach_at x k).number))
  unfolding mates reaches_of of_record
  mate_read = simp (and_is, same_is, eqb_is) (λ e. e)

  pub read_mate : (is_data x j ≡ true) × (((reach_at x j).tape ≡ (reach_at x k).tape) × ((reach_at x j).number ≡ (reach_at x k).number))
      → mates (reaches_of x) k j ≡ true
  unfolding mates reaches_of of_record
  read_mate = simp (and_is, same_is, eqb_is) (λ e. e)

pub mates_with : (x : Sheet) (k m j : ℕ) → mates (reaches_of x) k m ≡ true → mates (reaches_of x) k j ≡ true → mates (reaches_of x) m j ≡ true
mates_with x k m j e f =
    let u = mate_read x k m e in
    let v = mate_read x k j f in
    read_mate x m j (v.0, (v.1.0 ∙ sym u.1.0, v.1.1 ∙ sym u.1.1))

pub mates_on : (x : Sheet) (k m j : ℕ) → mates (reaches_of x) k m ≡ true → mates (reaches_of x) m j ≡ true → mates (reaches_of x) k j ≡ true
mates_on x k m j e f =
    let u = mate_read x k m e in
    let v = mate_read x m j f in
    read_mate x k j (v.0, (v.1.0 ∙ u.1.0, v.1.1 ∙ u.1.1))

module _ (x : Sheet) (w : Known 3 x) (k : ℕ) (h : RelationLine x k) where
  pub mates_are : (j : ℕ) → j < x.count → like Records x k j ≡ mates (reaches_of x) k j
  unfolding like mates reaches_of
  mates_are j g = rw (takes_record x j g) (go (is_data x j) refl)
    where
      go : (t : Bool) → is_data x j ≡ t
          → (t && same_key (key_at Records x j) (key_at Records x k)) ≡ (t && of_record (reach_at x k).tape (reach_at x k).number (reach_at x j))
      go true e = records_same x w j g e k h.0 h.1
      go false e = refl

  pub first_alone : k ≡ 0 → goes_on x k ≡ false
  unfolding goes_on is_before
  first_alone z = rw z

  pub goes_is : (k ≡ 0 → ⊥) → goes_on x k ≡ (takes_at Records x (k - 1) && same_key (key_at Records x (k - 1)) (key_at Records x k))
  unfolding goes_on like
  goes_is n = let o = h.0 in sym (mates_are (k - 1) (omega arith) ∙ sym (before_is (mates (reaches_of x) k) k n))

  pub line_before : goes_on x k ≡ true → RelationLine x (k - 1)
  unfolding goes_on
  line_before e =
      let o = there_is_one (mates (reaches_of x) k) k e in
      let g = h.0 in
      (omega arith, mate_is_data x k (k - 1) (sym (before_is (mates (reaches_of x) k) k (λ z. omega arith)) ∙ e))

pub some_before : (x : Sheet) (k : ℕ) → goes_on x k ≡ true → 1 ≤ k
unfolding goes_on
some_before x k e = there_is_one (mates (reaches_of x) k) k e
