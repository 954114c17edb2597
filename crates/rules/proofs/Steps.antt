-- The laws by which code meets a definition: a plan taken rule by rule, and a definition over places taken place by place.
-- Each is stated as a step of a loop has it: what holds of the first k places, and what place k says.
use Prim.Native.Nat.{ℕ, suc, ◌+◌, ◌<◌, max}
use native.Mathlib.Numerals.{add-one}
use native.Mathlib.Omega.{arith}
use mathlib.Core.Path.{◌≡◌, refl, sym, ap, ◌∙◌}
use mathlib.Core.Bool.{Bool, true, false}
use borrow.Author.Tests.{le-ltb}
use Rattle.rules.specs.Places.{pick, every, some, least, count, sum, greatest}
use Rattle.rules.specs.Plan.{Refusal, fine, refused, ◌or_else◌, first_of, Plan, need, ◌before◌, up_to, when, run}
use Rattle.rules.proofs.Tests.{clash, every_is, some_is}
use Rattle.rules.proofs.Least.{least_first, least_there}
use Rattle.rules.proofs.Breach.{first_fine, first_refused}

-- one rule, and a rule before others
pub need_met : (t : Bool) (w : Refusal) → t ≡ true → fine ≡ run (need t w)
unfolding run pick
need_met t w e = rw e

pub need_broken : (t : Bool) (w : Refusal) → t ≡ false → refused w ≡ run (need t w)
unfolding run pick
need_broken t w e = rw e

pub before_met : (p q : Plan) → fine ≡ run p → run q ≡ run (p before q)
unfolding run ◌or_else◌
before_met p q e = rw (← e)

pub before_broken : (p q : Plan) (w : Refusal) → refused w ≡ run p → refused w ≡ run (p before q)
unfolding run ◌or_else◌
before_broken p q w e = rw (← e)

pub when_on : (t : Bool) (p : Plan) → t ≡ true → run p ≡ run (when t p)
unfolding run pick
when_on t p e = rw e

pub when_off : (t : Bool) (p : Plan) → t ≡ false → fine ≡ run (when t p)
unfolding run pick
when_off t p e = rw e

-- a plan for each of n places
module _ (p : ℕ → Plan) where
  pub none_yet : fine ≡ run (up_to 0 p)
  unfolding run first_of
  none_yet = refl

  pub one_more : (k : ℕ) → fine ≡ run (up_to k p) → fine ≡ run (p k) → fine ≡ run (up_to (k + 1) p)
  unfolding run first_of ◌or_else◌
  one_more k e f =
      let s : fine ≡ run (up_to (suc k) p) = rw (← e, ← f) in
      s ∙ ap (λ (n : ℕ). run (up_to n p)) (sym (add-one k))

  pub stops_here : (k n : ℕ) (w : Refusal) → k < n → fine ≡ run (up_to k p) → refused w ≡ run (p k) → refused w ≡ run (up_to n p)
  unfolding run
  stops_here k n w h e f =
      sym ((first_refused n (λ k. run (p k)) w).1 (k, h, (first_fine k (λ k. run (p k))).0 (sym e), sym f))

-- each, one, the least, how many, the sum, the greatest
module _ (p : ℕ → Bool) where
  pub every_none : every 0 p ≡ true
  unfolding every
  every_none = refl

  pub every_more : (k : ℕ) → every k p ≡ true → p k ≡ true → every (k + 1) p ≡ true
  unfolding every
  every_more k e f = rw add-one (rw (e, f))

  pub every_stop : (k n : ℕ) → k < n → p k ≡ false → every n p ≡ false
  every_stop k n h f =
      go (every n p) refl
    where
      go : (t : Bool) → every n p ≡ t → every n p ≡ false
      go false e = e
      go true e = clash (sym f ∙ (every_is n p).0 e k h)

  pub some_none : some 0 p ≡ false
  unfolding some
  some_none = refl

  pub some_more : (k : ℕ) → some k p ≡ false → p k ≡ false → some (k + 1) p ≡ false
  unfolding some
  some_more k e f = rw add-one (rw (e, f))

  pub some_stop : (k n : ℕ) → k < n → p k ≡ true → some n p ≡ true
  some_stop k n h f = (some_is n p).1 (k, h, f)

  pub least_none_yet : least 0 p ≡ 0
  unfolding least
  least_none_yet = refl

  pub least_more : (k : ℕ) → least k p ≡ k → p k ≡ false → least (k + 1) p ≡ k + 1
  unfolding least pick
  least_more k e f = rw add-one (rw (e, le-ltb k k (omega arith), f))

  pub least_stop : (k n : ℕ) → k < n → least k p ≡ k → p k ≡ true → least n p ≡ k
  least_stop k n h e f =
      least_first n k p (h, f, λ j l t. let w = least_there k j p l t in let z = w.0 in omega arith)

  pub count_none : count 0 p ≡ 0
  unfolding count
  count_none = refl

  pub count_yes : (k m : ℕ) → m ≡ count k p → p k ≡ true → m + 1 ≡ count (k + 1) p
  unfolding count pick
  count_yes k m e f = rw (add-one k) (rw (e, f))

  pub count_no : (k m : ℕ) → m ≡ count k p → p k ≡ false → m ≡ count (k + 1) p
  unfolding count pick
  count_no k m e f = rw (add-one k) (rw f (let z : m ≡ count k p + 0 = omega arith in z))

module _ (g : ℕ → ℕ) where
  pub sum_none : sum 0 g ≡ 0
  unfolding sum
  sum_none = refl

  pub sum_more : (k m : ℕ) → m ≡ sum k g → m + g k ≡ sum (k + 1) g
  unfolding sum
  sum_more k m e = rw (add-one k) (ap (λ (n : ℕ). n + g k) e)

  pub greatest_none : greatest 0 g ≡ 0
  unfolding greatest
  greatest_none = refl

  pub greatest_more : (k m : ℕ) → m ≡ greatest k g → max m (g k) ≡ greatest (k + 1) g
  unfolding greatest
  greatest_more k m e = rw (add-one k) (ap (λ (n : ℕ). max n (g k)) e)
