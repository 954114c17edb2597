-- Where 16 is met, the lines of a record are those from its first line on.
--   start_is     = the first line of the record, by that of the line before
--   start_below  = it is no further than the line
--   start_lines  = the lines from it on are relation lines; start_same = and theirs is the same
--   MetTo        = 16 is met of the relation lines up to a line; own = then no others before it are of its record
use Prim.Native.Nat.{ℕ, zero, suc, ◌-◌, ◌≤◌, ◌<◌}
use native.Mathlib.Omega.{arith}
use native.Mathlib.Nat.{not-suc-le-zero}
use mathlib.Core.Path.{◌≡◌, refl, sym, ap, ◌∙◌}
use mathlib.Core.Bool.{Bool, true, false, not, ◌||◌}
use lib.Dec.{leb}
use borrow.Author.Tests.{le-leb, lt-leb}
use Rattle.rules.specs.Places.{pick, is_before, if_before}
use Rattle.rules.specs.Plan.{fine, run}
use Rattle.rules.specs.Sheet.{Sheet}
use Rattle.rules.specs.Lines.{is_data}
use Rattle.rules.specs.Relations.{relation_at}
use Rattle.rules.specs.Reaches.{reaches_of, mates, together}
use Rattle.rules.specs.Order.{same_shot, rule16}
use Rattle.rules.proofs.Tests.{clash, and_is, imp_is, every_is, more}
use Rattle.rules.proofs.Breach.{run_met}
use Rattle.keys.specs.Held.{RelationLine}
use Rattle.mates.specs.Records.{goes_on, start_of}
use Rattle.mates.proofs.Mates.{mate_is_data, mates_with, mates_on}

module _ (x : Sheet) where
  pub start_is : (k : ℕ) → start_of x k ≡ pick (goes_on x k) (start_of x (k - 1)) k
  unfolding start_of goes_on is_before pick
  start_is zero = refl
  start_is (suc k) = let z : suc k - 1 ≡ k = omega arith in rw z

  start_on : (k : ℕ) → goes_on x (suc k) ≡ true → start_of x (suc k) ≡ start_of x k
  unfolding start_of pick
  start_on k e = rw e

  start_off : (k : ℕ) → goes_on x (suc k) ≡ false → start_of x (suc k) ≡ suc k
  unfolding start_of pick
  start_off k e = rw e

  on_before : (k : ℕ) → goes_on x (suc k) ≡ true → mates (reaches_of x) (suc k) k ≡ true
  unfolding goes_on is_before
  on_before k e = e

  -- the line goes on, or starts
  either : {A : Type 0} (k : ℕ) → (start_of x (suc k) ≡ start_of x k → mates (reaches_of x) (suc k) k ≡ true → A)
      → (start_of x (suc k) ≡ suc k → A) → A
  either {A} k f g = go (goes_on x (suc k)) refl
    where
      go : (t : Bool) → goes_on x (suc k) ≡ t → A
      go true e = f (start_on k e) (on_before k e)
      go false e = g (start_off k e)

  pub start_below : (k : ℕ) → start_of x k ≤ k
  unfolding start_of
  start_below zero = omega arith
  start_below (suc k) = either k (λ s o. let l = start_below k in omega arith) (λ s. omega arith)

  start_data : (k : ℕ) → is_data x k ≡ true → (j : ℕ) → start_of x k ≤ j → j ≤ k → is_data x j ≡ true
  start_data zero d j l h = ap (is_data x) (let z : j ≡ 0 = omega arith in z) ∙ d
  start_data (suc k) d j l h =
      let b : j < suc (suc k) = omega arith in
      more b
      (λ b.
      either k (λ s o. start_data k (mate_is_data x (suc k) k o) j (omega arith) (omega arith)) (λ s. absurd (omega arith)))
      (λ e. ap (is_data x) e ∙ d)

  pub start_lines : (k : ℕ) → RelationLine x k → (j : ℕ) → start_of x k ≤ j → j ≤ k → RelationLine x j
  start_lines k h j l g = let i = h.0 in (omega arith, start_data k h.1 j l g)

  pub start_same : (k j : ℕ) → start_of x k ≤ j → j ≤ k → start_of x j ≡ start_of x k
  start_same zero j l h = ap (start_of x) (let z : j ≡ 0 = omega arith in z)
  start_same (suc k) j l h =
      let b : j < suc (suc k) = omega arith in
      more b (λ b. either k (λ s o. start_same k j (omega arith) (omega arith) ∙ sym s) (λ s. absurd (omega arith)))
      (λ e. ap (start_of x) e)

  -- those between are of the record
  from_start : (k j : ℕ) → start_of x k ≤ j → j < k → mates (reaches_of x) k j ≡ true
  from_start zero j l h = absurd (not-suc-le-zero h)
  from_start (suc k) j l h =
      either k
      (λ s o.
      more h (λ b. mates_on x (suc k) k j o (from_start k j (omega arith) b)) (λ z. ap (mates (reaches_of x) (suc k)) z ∙ o))
      (λ s. absurd (omega arith))

  -- where 16 is met, a line with a mate before it goes on
  goes : (k j : ℕ) → fine ≡ run (rule16 x k) → j < k → mates (reaches_of x) k j ≡ true → goes_on x k ≡ true
  unfolding rule16 together goes_on
  goes k j m l e =
      let Q = reaches_of x in
      let u = (run_met (rule16 x k)).0 (sym m) in
      let v = ((and_is (together Q k) (if_before (λ j. not (mates Q k j) || same_shot (relation_at x k) (relation_at x j)) k)).0 u).0 in
      (imp_is (mates Q k j) (is_before (mates Q k) k)).0 ((every_is k _).0 v j l) e

  abbrev pub MetTo : ℕ → Type 0
  MetTo k = (j : ℕ) → j ≤ k → RelationLine x j → fine ≡ run (rule16 x j)

  to_start : (k : ℕ) → MetTo k → RelationLine x k → (j : ℕ) → j < k → mates (reaches_of x) k j ≡ true → start_of x k ≤ j
  to_start zero m h j l e = absurd (not-suc-le-zero l)
  to_start (suc k) m h j l e =
      let y = goes (suc k) j (m (suc k) (omega arith) h) l e in
      let s = start_on k y in
      let o = on_before k y in
      let i = h.0 in
      more l
      (λ b.
      let z = to_start k (λ n g r. m n (omega arith) r) (omega arith, mate_is_data x (suc k) k o) j b (mates_with x (suc k) k j o e) in
      omega arith)
      (λ z. let p = start_below k in omega arith)

  pub own : (k : ℕ) → MetTo k → RelationLine x k → (j : ℕ) → j < k → mates (reaches_of x) k j ≡ leb (start_of x k) j
  own k m h j l =
      go (mates (reaches_of x) k j) refl
    where
      go : (t : Bool) → mates (reaches_of x) k j ≡ t → t ≡ leb (start_of x k) j
      go true e = sym (le-leb (start_of x k) j (to_start k m h j l e))
      go false e =
          let n : start_of x k ≤ j → ⊥ = λ b. clash (sym e ∙ from_start k j b l) in
          sym (lt-leb (start_of x k) j (omega arith))
