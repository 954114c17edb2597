-- Dead traces: how many channels of a relation line lead to a killed receiver, and their sum.
--   count_alike, count_shift = two tests that say the same count as many; places counted from a on
--   dead_list                = the channels of a relation line that lead to a killed receiver, in their order
--   dead_is                  = the fifth number is how many these are, over the relation lines of a set that meets the rules
use Prim.Native.Nat.{ℕ, zero, suc, ◌+◌, ◌-◌, ◌≤◌, ◌<◌}
use native.Mathlib.Nat.{lt-suc_self}
use native.Mathlib.Omega.{arith}
use mathlib.Core.Path.{◌≡◌, refl, sym, ap, ap₂, ◌∙◌}
use mathlib.Core.Logic.{◌↔◌}
use mathlib.Core.Bool.{Bool, true, false, ◌&&◌}
use mathlib.Core.List.{List, [], ◌∷◌, Memᴰ}
use lib.Dec.{leb}
use lib.ListN.{length}
use borrow.Author.Tests.{le-leb, lt-leb}
use Rattle.rules.specs.Places.{pick, count, sum}
use Rattle.rules.specs.Sheet.{Sheet}
use Rattle.rules.specs.Lines.{is_data}
use Rattle.rules.specs.Points.{point_at, is_killed}
use Rattle.rules.specs.Relations.{Reach, reach_at}
use Rattle.rules.specs.Cover.{traces, carries, leads}
use Rattle.rules.specs.Order.{receiver_line}
use Rattle.rules.specs.Check.{leads_to_killed, dead_of}
use Rattle.rules.specs.MeetsForm.{Data}
use Rattle.rules.specs.Meets.{Meets, Rising, Lines, total, DeadTrace}
use Rattle.rules.proofs.Tests.{and_is}
use Rattle.rules.proofs.Form.{data_is}
use Rattle.rules.proofs.Order.{killed_is}
use Rattle.rules.proofs.Cover.{carries_is, reached}
use Rattle.rules.proofs.Accepted.{sound, receiver_line_lem, receiver_there}
use Rattle.rules.proofs.Which.{which, which_are, which_rise, which_length, which_total, rising_one, lines_are, lines_one}

-- counting
pub count_alike : (n : ℕ) (p q : ℕ → Bool) → ((k : ℕ) → k < n → p k ≡ q k) → count n p ≡ count n q
unfolding count
count_alike zero p q f = refl
count_alike (suc n) p q f =
    ap₂ ◌+◌ (count_alike n p q (λ k h. f k (omega arith))) (ap (λ (b : Bool). pick b 1 0) (f n (lt-suc_self n)))

pub count_none : (n : ℕ) (p : ℕ → Bool) → ((k : ℕ) → k < n → p k ≡ false) → count n p ≡ 0
unfolding count pick
count_none zero p f = refl
count_none (suc n) p f = rw (f n (lt-suc_self n)) (let z = count_none n p (λ k h. f k (omega arith)) in omega arith)

pub count_shift : (a n : ℕ) (p : ℕ → Bool) → count (a + n) (λ c. leb a c && p c) ≡ count n (λ c. p (a + c))
unfolding count
count_shift a zero p = ap (λ (m : ℕ). count m (λ c. leb a c && p c)) (let z : a + 0 ≡ a = omega arith in z) ∙ count_none a _ (λ k h. rw (lt-leb a k h))
count_shift a (suc n) p =
    ap (λ (m : ℕ). count m (λ c. leb a c && p c)) (let z : a + suc n ≡ suc (a + n) = omega arith in z)
    ∙ ap₂ ◌+◌ (count_shift a n p) (ap (λ (b : Bool). pick (b && p (a + n)) 1 0) (le-leb a (a + n) (omega arith)))

-- sums over a list
pub total_alike : (g h : ℕ → ℕ) (l : List ℕ) → ((k : ℕ) → Memᴰ k l → g k ≡ h k) → total g l ≡ total h l
total_alike g h [] f = refl
total_alike g h (k ∷ l) f = ap₂ ◌+◌ (f k (Memᴰ.head refl)) (total_alike g h l (λ j m. f j (Memᴰ.tail m)))

-- one relation line
module _ (r : Sheet) (q : Reach) where
  abbrev dead : ℕ → Bool
  dead c = carries q c && leads_to_killed r q c

  pub dead_list : List ℕ
  dead_list = which (q.upto + 1) dead

  unroll : (c : ℕ) → dead c ≡ (leb q.from c && (leb c q.upto && leads_to_killed r q c))
  unfolding carries
  unroll c = assoc (leb q.from c)
    where
      assoc : (a : Bool) → ((a && leb c q.upto) && leads_to_killed r q c) ≡ (a && (leb c q.upto && leads_to_killed r q c))
      assoc true = refl
      assoc false = refl

  pub dead_length : q.from ≤ q.upto → length dead_list ≡ dead_of r q
  unfolding dead_list dead_of traces
  dead_length h =
      let n = q.upto + 1 - q.from in
      let e : q.upto + 1 ≡ q.from + n = omega arith in
      which_length (q.upto + 1) dead ∙ count_alike (q.upto + 1) dead _ (λ c _. unroll c)
      ∙ ap (λ (m : ℕ). count m (λ c. leb q.from c && (leb c q.upto && leads_to_killed r q c))) e
      ∙ count_shift q.from n (λ c. leb c q.upto && leads_to_killed r q c)
      ∙ count_alike n _ (λ c. leads_to_killed r q (q.from + c)) (λ c g. rw (le-leb (q.from + c) q.upto (omega arith)))

module _ (r s x : Sheet) (ok : Meets r s x) where
  -- the channels of line k that lead to a killed receiver
  dead_trace : (k : ℕ) → k < x.count → Data x k → (c : ℕ) → (dead r (reach_at x k) c ≡ true) ↔ DeadTrace r x k c
  unfolding leads_to_killed
  dead_trace k h z c =
      let q = reach_at x k in
      let b = and_is (carries q c) (leads_to_killed r q c) in
      let w = sound r s x ok k h z in (
        λ t.
            let f = (carries_is q c).0 (b.0 t).0 in
            let v = receiver_there r s x ok k (leads q c) h z (reached _ q w c f).0 in
            (f, (receiver_line r q (leads q c), v.0, (v.1, (killed_is _).0 (b.0 t).1))),
        λ y.
            let j = y.1 in
            let e = receiver_line_lem r ok.rule10 q (leads q c) j.0 j.1 j.2.0 in
            b.1 ((carries_is q c).1 y.0, ap (λ (i : ℕ). is_killed (point_at r i)) e ∙ (killed_is _).1 j.2.1),
      )

  listed : (k : ℕ) → k < x.count → Data x k
      → Rising (dead_list r (reach_at x k)) × ((c : ℕ) → Memᴰ c (dead_list r (reach_at x k)) ↔ DeadTrace r x k c)
  unfolding dead_list
  listed k h z =
      let q = reach_at x k in (
        which_rise (q.upto + 1) (dead r q),
        λ c.
            let a = which_are (q.upto + 1) (dead r q) c in
            let d = dead_trace k h z c in
            (λ m. d.0 (a.0 m).1, λ y. let u = y.0.1 in a.1 (omega arith, d.1 y)),
      )

  pub dead_is : (e : ℕ)
      → (sum x.count (λ k. pick (is_data x k) (dead_of r (reach_at x k)) 0) ≡ e)
      ↔ ((l : List ℕ) × (cs : ℕ → List ℕ) × Lines x (Data x) l
      × ((k : ℕ) → k < x.count → Data x k → Rising (cs k) × ((c : ℕ) → Memᴰ c (cs k) ↔ DeadTrace r x k c))
      × (total (λ k. length (cs k)) l ≡ e))
  dead_is e =
      let w = which x.count (is_data x) in
      let is = data_is x in
      let same = which_total x.count (is_data x) (λ k. dead_of r (reach_at x k)) in (
        λ p. (
          w,
          (λ k. dead_list r (reach_at x k)),
          lines_are x (is_data x) (Data x) is,
          listed,
          total_alike _ (λ k. dead_of r (reach_at x k)) w (λ k m.
              let a = (which_are x.count (is_data x) k).0 m in
              dead_length r (reach_at x k) (sound r s x ok k a.0 ((is k).0 a.1)).channels)
              ∙ same ∙ p,
        ),
        λ y.
            let cs = y.1 in
            let f = lines_one x (is_data x) (Data x) is y.0 y.2 in
            let one : (k : ℕ) → Memᴰ k w → dead_of r (reach_at x k) ≡ length (cs k) = λ k m.
            let a = (which_are x.count (is_data x) k).0 m in
            let z = (is k).0 a.1 in
            let u = listed k a.0 z in
            let v = y.3 k a.0 z in
            sym (dead_length r (reach_at x k) (sound r s x ok k a.0 z).channels)
            ∙ ap length (rising_one _ (cs k) u.0 v.0 (λ c i. (v.1 c).1 ((u.1 c).0 i)) (λ c i. (u.1 c).1 ((v.1 c).0 i))) in
            sym same ∙ total_alike _ _ w one ∙ ap (total (λ k. length (cs k))) (sym f) ∙ y.4,
      )
