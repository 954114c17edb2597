-- The arithmetic of one relation line: its channels against its receivers and components.
--   counted_on, counted_back = the receiver that is d on from the first, and how far on a receiver is
--   meet_overlap    = two lines cover one receiver where each begins before the other ends
--   Sound q         = what 5 and 6 leave of a relation line
use Prim.Native.Nat.{ℕ, suc, ◌+◌, ◌-◌, ◌*◌, ◌/◌, ◌%◌, ◌≤◌, ◌<◌}
use native.Mathlib.Nat.{div-lt_iff_lt-mul, div-add-mod', mod-lt, mul-add-div_right, mul-add-mod_self_right, div-eq_of_lt}
use native.Mathlib.Nat.{mod-eq_of_lt, mul-le-mul_right, suc-mul, add-sub_cancel, add-zero}
use native.Mathlib.Omega.{arith}
use mathlib.Core.Path.{◌≡◌, sym, ap, ◌∙◌, subst}
use mathlib.Core.Logic.Iff
use mathlib.Core.Logic.{◌↔◌}
use mathlib.Core.Bool.{Bool, true, ◌&&◌}
use lib.Dec.{eqb, leb}
use borrow.Author.Tests.{leb-true, le-leb, lt-leb}
use Rattle.rules.specs.Places.{pick, every, some}
use Rattle.rules.specs.Names.{same_name}
use Rattle.rules.specs.Relations.{Reach}
use Rattle.rules.specs.Cover.{traces, carries, lowest, highest, receivers, receiver_on, on_to, covers, leads, component, channel_of, meet}
use Rattle.rules.specs.MeetsCover.{Covers, Carries, Reached, Meet}
use Rattle.rules.proofs.Tests.{says, agree, and_is, every_is, some_is, yes_no}
use Rattle.rules.proofs.Contrary.{not_every}

pub covers_is : (q : Reach) (n : ℕ) → (covers q n ≡ true) ↔ Covers q n
unfolding covers
covers_is q n = simp says Iff.rfl

pub carries_is : (q : Reach) (c : ℕ) → (carries q c ≡ true) ↔ Carries q c
unfolding carries
carries_is q c = simp says Iff.rfl

-- counting on from the first receiver: the one that is d on is covered, and how far on it is tells d; and back
module _ (q : Reach) where
  upwards : leb q.from_receiver q.to_receiver ≡ true → q.from_receiver ≤ q.to_receiver
  upwards t = leb-true q.from_receiver q.to_receiver t

  downwards : (leb q.from_receiver q.to_receiver ≡ true → ⊥) → q.to_receiver < q.from_receiver
  downwards t = let n : q.from_receiver ≤ q.to_receiver → ⊥ = λ l. t (le-leb q.from_receiver q.to_receiver l) in omega arith

  pub counted_on : (d : ℕ) → d < receivers q → Covers q (receiver_on q d) × (on_to q (receiver_on q d) ≡ d)
  unfolding receivers receiver_on on_to pick
  counted_on d h =
      yes_no (leb q.from_receiver q.to_receiver) (λ t. let l = upwards t in rw t ((omega arith, omega arith), omega arith))
      (λ t. let l = downwards t in rw (lt-leb _ _ l) ((omega arith, omega arith), omega arith))

  pub counted_back : (n : ℕ) → Covers q n → (on_to q n < receivers q) × (receiver_on q (on_to q n) ≡ n)
  unfolding receivers receiver_on on_to pick
  counted_back n c =
      let a = c.0 in
      let b = c.1 in
      yes_no (leb q.from_receiver q.to_receiver) (λ t. let l = upwards t in rw t (omega arith, omega arith))
      (λ t. let l = downwards t in rw (lt-leb _ _ l) (omega arith, omega arith))

-- of every receiver number, and of some
module _ (q : Reach) (p : ℕ → Bool) where
  pub every_receiver : (every (receivers q) (λ d. p (receiver_on q d)) ≡ true) ↔ ((n : ℕ) → Covers q n → p n ≡ true)
  every_receiver =
      let b = every_is (receivers q) (λ d. p (receiver_on q d)) in (
        λ e n h. let w = counted_back q n h in subst (λ (n : ℕ). p n ≡ true) w.1 (b.0 e (on_to q n) w.0),
        λ f. b.1 (λ d h. f (receiver_on q d) (counted_on q d h).0),
      )

  pub not_every_receiver : (every (receivers q) (λ d. p (receiver_on q d)) ≡ true → ⊥) ↔ ((n : ℕ) × Covers q n × (p n ≡ true → ⊥))
  not_every_receiver =
      let b = not_every (receivers q) (λ d. p (receiver_on q d)) in (
        λ f. let w = b.0 f in (receiver_on q w.0, (counted_on q w.0 w.1).0, w.2),
        λ w e. w.2 (every_receiver.0 e w.0 w.1),
      )

  pub some_receiver : (some (receivers q) (λ d. p (receiver_on q d)) ≡ true) ↔ ((n : ℕ) × Covers q n × (p n ≡ true))
  some_receiver =
      let b = some_is (receivers q) (λ d. p (receiver_on q d)) in (
        λ e. let w = b.0 e in (receiver_on q w.0, (counted_on q w.0 w.1).0, w.2),
        λ w. let v = counted_back q w.0 w.1 in b.1 (on_to q w.0, v.0, subst (λ (n : ℕ). p n ≡ true) (sym v.1) w.2),
      )

pub meet_is : (p q : Reach) → (meet p q ≡ true) ↔ Meet p q
unfolding meet
meet_is p q =
    let b = some_receiver p (covers q) in (
      λ e.
          let w = simp (says) at e in
          let v = b.0 ((some_is (receivers p) (λ d. covers q (receiver_on p d))).1 w.1.1) in
          (w.0, (w.1.0, (v.0, v.1, (covers_is q _).0 v.2))),
      λ w.
          simp says
          (w.0, (w.1.0, (some_is (receivers p) (λ d. covers q (receiver_on p d))).0 (b.1 (w.1.1.0, w.1.1.1, (covers_is q _).1 w.1.1.2)))),
    )

-- a number of both intervals
overlap : (a b c d : ℕ) → a ≤ b → c ≤ d → a ≤ d → c ≤ b → (n : ℕ) × ((a ≤ n) × (n ≤ b)) × ((c ≤ n) × (n ≤ d))
overlap a b c d p q r s =
    yes_no (leb a c) (λ t. let l = leb-true a c t in (c, (l, s), (omega arith, q)))
    (λ t. let m : a ≤ c → ⊥ = λ l. t (le-leb a c l) in (a, (omega arith, p), (omega arith, r)))

module _ (p q : Reach) where
  in_common : (leb (lowest p) (highest q) && leb (lowest q) (highest p)) ≡ some (receivers p) (λ d. covers q (receiver_on p d))
  in_common =
      let s = some_receiver p (covers q) in
      let b = and_is (leb (lowest p) (highest q)) (leb (lowest q) (highest p)) in
      agree _ _
      (λ t.
      let y = b.0 t in
      let o = overlap (lowest p) (highest p) (lowest q) (highest q) (omega arith) (omega arith) (leb-true _ _ y.0) (leb-true _ _ y.1) in
      s.1 (o.0, o.1, (covers_is q o.0).1 o.2))
      (λ t.
      let o = s.0 t in
      let u = o.1 in
      let z = (covers_is q o.0).0 o.2 in
      b.1 (le-leb (lowest p) (highest q) (omega arith), le-leb (lowest q) (highest p) (omega arith)))

  pub meet_overlap : (same_name p.receiver q.receiver
      && (eqb p.receiver_index q.receiver_index && (leb (lowest p) (highest q) && leb (lowest q) (highest p))))
      ≡ meet p q
  unfolding meet
  meet_overlap = ap (λ (t : Bool). same_name p.receiver q.receiver && (eqb p.receiver_index q.receiver_index && t)) in_common

pub record Sound (most_channel : ℕ) (q : Reach) : Type 0 where
  pub one : 1 ≤ q.step
  pub few : q.step ≤ 9
  pub first : 1 ≤ q.from
  pub most : q.upto ≤ most_channel
  pub channels : q.from ≤ q.upto
  pub even : traces q % q.step ≡ 0
  pub fit : traces q / q.step ≡ receivers q

module _ (most : ℕ) (q : Reach) (w : Sound most q) where
  all : q.upto + 1 - q.from ≡ receivers q * q.step
  unfolding traces
  all =
      let d = div-add-mod' (q.upto + 1 - q.from) q.step in
      let z : (q.upto + 1 - q.from) / q.step * q.step ≡ q.upto + 1 - q.from = omega (arith, w.even) in
      sym z ∙ ap (λ (n : ℕ). n * q.step) w.fit

  module _ (c : ℕ) (h : Carries q c) where
    which : (c - q.from) / q.step < receivers q
    which =
        let e = all in
        let a = h.0 in
        let b = h.1 in
        (div-lt_iff_lt-mul w.one).1 (let d : c - q.from < receivers q * q.step = omega arith in d)

    pub reached : Reached q (leads q c) (component q c)
    unfolding leads component
    reached = let m : (c - q.from) % q.step < q.step = mod-lt (c - q.from) w.one in ((counted_on q _ which).0, (omega arith, omega arith))

    pub channel_back : channel_of q (leads q c) (component q c) ≡ c
    unfolding leads component channel_of
    channel_back =
        let d = div-add-mod' (c - q.from) q.step in
        let a = h.0 in
        rw ((counted_on q _ which).1, add-sub_cancel) (omega arith)

  module _ (n m : ℕ) (h : Reached q n m) where
    pub carried : Carries q (channel_of q n m)
    unfolding channel_of
    carried =
        let e = all in
        let f = h.1 in
        let k : suc (on_to q n) * q.step ≤ receivers q * q.step = mul-le-mul_right q.step (counted_back q n h.0).0 in
        let s : suc (on_to q n) * q.step ≡ on_to q n * q.step + q.step = suc-mul (on_to q n) q.step in
        let t = w.channels in
        (omega arith, omega arith)

    offset : channel_of q n m - q.from ≡ on_to q n * q.step + (m - 1)
    unfolding channel_of
    offset = omega arith

    below : m - 1 < q.step
    below = let f = h.1 in omega arith

    pub leads_back : leads q (channel_of q n m) ≡ n
    unfolding leads
    leads_back =
        rw (offset, mul-add-div_right w.one (on_to q n) (m - 1), div-eq_of_lt below, add-zero) (counted_back q n h.0).1

    pub component_back : component q (channel_of q n m) ≡ m
    unfolding component
    component_back =
        let f = h.1 in
        rw (offset, mul-add-mod_self_right (on_to q n) q.step (m - 1), mod-eq_of_lt below) (omega arith)
