-- One relation line of an accepted set.
--   sound_line, all_there = its channels fit its receivers, and each of these is there
--   dead_by_receivers     = its dead traces: its killed receivers, counted from the lowest on, times the increment
use Prim.Native.Nat.{ℕ, ◌+◌, ◌-◌, ◌*◌, ◌/◌, ◌≤◌, ◌<◌}
use native.Mathlib.Nat.{div-add-mod', add-sub_cancel_left}
use native.Mathlib.Omega.{arith}
use mathlib.Core.Path.{◌≡◌, sym, ap, ◌∙◌}
use mathlib.Core.Bool.{Bool, true}
use lib.Dec.{leb}
use borrow.Author.Tests.{leb-true, le-leb, lt-leb}
use Rattle.rules.specs.Places.{pick, count}
use Rattle.rules.specs.Sheet.{Sheet}
use Rattle.rules.specs.Points.{point_at, is_killed}
use Rattle.rules.specs.Relations.{Reach, reach_at}
use Rattle.rules.specs.Cover.{traces, lowest, highest, receivers, receiver_on, leads}
use Rattle.rules.specs.Order.{receiver_line, receivers_there}
use Rattle.rules.specs.Check.{leads_to_killed, dead_of}
use Rattle.rules.proofs.Tests.{yes_no}
use Rattle.rules.proofs.Form.{data_is}
use Rattle.rules.proofs.Cover.{Sound}
use Rattle.rules.proofs.Order.{receivers_there_lem}
use Rattle.rules.proofs.Accepted.{sound, receiver_there}
use Rattle.rules.proofs.Dead.{count_alike}
use Rattle.keys.specs.Held.{RelationLine}
use Rattle.dead.specs.Dead.{Accepted}
use Rattle.dead.proofs.Counting.{count_back, count_steps}

-- receivers counted on from the first, and from the lowest
pub from_lowest : (q : Reach) (p : ℕ → Bool) → count (receivers q) (λ d. p (receiver_on q d)) ≡ count (receivers q) (λ d. p (lowest q + d))
unfolding receivers receiver_on pick
from_lowest q p =
    yes_no (leb q.from_receiver q.to_receiver)
    (λ t. let l = leb-true q.from_receiver q.to_receiver t in rw t (count_alike _ _ _ (λ d h. ap p (omega arith))))
    (λ t.
    let n : q.from_receiver ≤ q.to_receiver → ⊥ = λ l. t (le-leb q.from_receiver q.to_receiver l) in
    let l : q.to_receiver < q.from_receiver = omega arith in
    rw (lt-leb _ _ l)
    (count_alike _ _ (λ d. p (lowest q + (highest q - lowest q + 1 - 1 - d))) (λ d h. ap p (omega arith))
    ∙ sym (count_back (highest q - lowest q + 1) (λ d. p (lowest q + d)))))

-- the receiver of R that is d above the lowest of a line is killed
abbrev pub killed_on : Sheet → Reach → ℕ → Bool
killed_on r q d = is_killed (point_at r (receiver_line r q (lowest q + d)))

module _ (r x : Sheet) (ok : Accepted r x) (k : ℕ) (h : RelationLine x k) where
  abbrev q : Reach
  q = reach_at x k

  sound_line : Sound x.layout.most_channel q
  sound_line = sound r ok.shots x ok.met k h.0 ((data_is x k).0 h.1)

  pub all_there : receivers_there r q ≡ true
  all_there = (receivers_there_lem r q).1 (ok.met.rule18 k h.0 ((data_is x k).0 h.1))

  pub there : (d : ℕ) → d < receivers q → receiver_line r q (lowest q + d) < r.count
  unfolding receivers
  there d g = (receiver_there r ok.shots x ok.met k (lowest q + d) h.0 ((data_is x k).0 h.1) (omega arith, omega arith)).0

  whole : traces q ≡ receivers q * q.step
  whole =
      let w = sound_line in
      let d = div-add-mod' (traces q) q.step in
      let z : traces q / q.step * q.step ≡ traces q = omega (arith, w.even) in
      sym z ∙ ap (λ (n : ℕ). n * q.step) w.fit

  led : (c : ℕ) → leads_to_killed r q (q.from + c) ≡ is_killed (point_at r (receiver_line r q (receiver_on q (c / q.step))))
  unfolding leads_to_killed leads
  led c = rw (add-sub_cancel_left q.from c)

  pub dead_by_receivers : dead_of r q ≡ count (receivers q) (killed_on r q) * q.step
  unfolding dead_of
  dead_by_receivers =
      count_alike (traces q) _ _ (λ c _. led c)
      ∙ ap (λ (n : ℕ). count n (λ c. is_killed (point_at r (receiver_line r q (receiver_on q (c / q.step)))))) whole
      ∙ count_steps q.step sound_line.one (λ d. is_killed (point_at r (receiver_line r q (receiver_on q d)))) (receivers q)
      ∙ ap (λ (n : ℕ). n * q.step) (from_lowest q (λ n. is_killed (point_at r (receiver_line r q n))))
