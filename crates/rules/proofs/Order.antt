-- The tests of refusals 10 to 19 say what `MeetsSet` has in words, and fail where its breaches are.
use Prim.Native.Nat.{ℕ, suc, ◌+◌, ◌<◌}
use native.Mathlib.Omega.{arith}
use mathlib.Core.Path.{◌≡◌, refl}
use mathlib.Core.Logic.Iff
use mathlib.Core.Logic.{◌↔◌, inl, inr, ⊎_elim}
use mathlib.Core.Bool.{true, not, ◌&&◌, ◌||◌}
use mathlib.Core.List.{List}
use lib.Dec.{eqb, ltb}
use Rattle.rules.specs.Places.{every, some, if_before, is_before}
use Rattle.rules.specs.Plan.{Refusal, №, file_r, file_s, up_to, ◌before◌}
use Rattle.rules.specs.Names.{Name}
use Rattle.rules.specs.Layout.{letter_column}
use Rattle.rules.specs.Sheet.{Sheet}
use Rattle.rules.specs.Points.{Point as PointValues, State, live, killed, marker, is_dead, is_at, same_point, is_killed}
use Rattle.rules.specs.Relations.{Reach, Relation, relation_at}
use Rattle.rules.specs.Reaches.{reaches_of, of_record, mates, together, rises, once}
use Rattle.rules.specs.Order.{earlier, is_point_at, is_live, is_shot_of, names, same_shot, receivers_there}
use Rattle.rules.specs.Order.{rule10, rule11, rule12, rule13, rule15, rule16}
use Rattle.rules.specs.MeetsForm.{Point}
use Rattle.rules.specs.MeetsCover.{Covers}
use Rattle.rules.specs.MeetsSet.{Earlier, At, PointAt, Killed, Shot, Receiver, OfRecord, Mates, SameShot, Rule10, Rule11, Rule12, Rule13, Rule15}
use Rattle.rules.specs.MeetsSet.{Rule16, Rule17, Rule19, Breach10, Breach11, Breach12, Breach13, Breach15, Breach16, Breach17}
use Rattle.rules.specs.MeetsSet.{Breach19}
use Rattle.rules.specs.Refuses.{By}
use Rattle.rules.proofs.Tests.{says, clash, and_is, or_is, eqb_is, ltb_is}
use Rattle.rules.proofs.Contrary.{fails, not_and}
use Rattle.rules.proofs.Breach.{Met, Broken}
use Rattle.rules.proofs.Form.{data_is, point_is, when_breaks}
use Rattle.rules.proofs.Above.{above_is}
use Rattle.rules.proofs.Cover.{every_receiver, not_every_receiver, meet_is}

pub at_is : (n : Name) (p i : ℕ) (v : PointValues) → (is_at n p i v ≡ true) ↔ At n p i v
unfolding is_at
at_is n p i v = simp says Iff.rfl

pub point_at_is : (f : Sheet) (n : Name) (p i j : ℕ) → (is_point_at f n p i j ≡ true) ↔ PointAt f n p i j
unfolding is_point_at
point_at_is f n p i j = simp (and_is, point_is, at_is) Iff.rfl

-- 10
pub rule10_at : (r : Sheet) (k : ℕ) → Met (rule10 r k) ↔ Rule10 r k
unfolding rule10
rule10_at r k = simp (says, point_is, above_is) Iff.rfl

pub rule10_is : (r : Sheet) → Met (up_to r.count (rule10 r)) ↔ ((k : ℕ) → k < r.count → Rule10 r k)
rule10_is r = (λ m k h. (rule10_at r k).0 (m k h), λ e k h. (rule10_at r k).1 (e k h))

pub rule10_breaks : (r : Sheet) (k : ℕ) (w : Refusal)
    → Broken w (rule10 r k) ↔ By (Breach10 r k) (№ 10 file_r (k + 1) r.layout.name.first) w
unfolding rule10
rule10_breaks r k = when_breaks _ _ _ (point_is r k) (simp (fails, point_is, above_is) Iff.rfl)

-- 11
earlier_is : (v w : PointValues) → (earlier v w ≡ true) ↔ Earlier v w
unfolding earlier
earlier_is v w =
    let a = or_is (ltb v.day w.day) (eqb v.day w.day && ltb v.time w.time) in
    let b = and_is (eqb v.day w.day) (ltb v.time w.time) in
    let d = ltb_is v.day w.day in
    let e = eqb_is v.day w.day in
    let t = ltb_is v.time w.time in (
      λ h. ⊎_elim (λ u. inl (d.0 u)) (λ u. let z = b.0 u in inr (e.0 z.0, t.0 z.1)) (a.0 h),
      λ h. a.1 (⊎_elim (λ u. inl (d.1 u)) (λ u. inr (b.1 (e.1 u.0, t.1 u.1))) h),
    )

pub rule11_is : (s : Sheet) (k : ℕ) → Met (rule11 s k) ↔ Rule11 s k
unfolding rule11
rule11_is s k = simp (says, point_is, earlier_is) Iff.rfl

pub rule11_breaks : (s : Sheet) (k : ℕ) (w : Refusal)
    → Broken w (rule11 s k) ↔ By (Breach11 s k) (№ 11 file_s (k + 1) s.layout.day.first) w
unfolding rule11
rule11_breaks s k = when_breaks _ _ _ (point_is s k) (simp (fails, point_is, earlier_is) Iff.rfl)

-- 12
pub rule12_is : (s : Sheet) (k : ℕ) → Met (rule12 s k) ↔ Rule12 s k
unfolding rule12 same_point
rule12_is s k = simp (says, point_is, at_is) Iff.rfl

pub rule12_breaks : (s : Sheet) (k : ℕ) (w : Refusal)
    → Broken w (rule12 s k) ↔ By (Breach12 s k) (№ 12 file_s (k + 1) s.layout.name.first) w
unfolding rule12 same_point
rule12_breaks s k = when_breaks _ _ _ (point_is s k) (simp (fails, point_is, at_is) Iff.rfl)

pub shots_are : (s : Sheet) → Met (up_to s.count (λ k. rule11 s k before rule12 s k)) ↔ ((k : ℕ) → k < s.count → Rule11 s k × Rule12 s k)
shots_are s = (
  λ m k h. let a = m k h in ((rule11_is s k).0 a.0, (rule12_is s k).0 a.1),
  λ e k h. let a = e k h in ((rule11_is s k).1 a.0, (rule12_is s k).1 a.1),
)

-- 13
pub killed_is : (v : PointValues) → (is_killed v ≡ true) ↔ (v.state ≡ killed)
unfolding is_killed
killed_is v = go v.state
  where
    go : (s : State) → (is_dead s ≡ true) ↔ (s ≡ killed)
    go live = (λ e. clash e, λ e. absurd (let z : ◌≡◌ {A = ℕ} 0 1 = cc in omega arith))
    go killed = (λ e. refl, λ e. refl)
    go marker = (λ e. clash e, λ e. absurd (let z : ◌≡◌ {A = ℕ} 0 1 = cc in omega arith))

pub live_is : (f : Sheet) (j : ℕ) → (is_live f j ≡ true) ↔ (Point f j × (Killed f j → ⊥))
unfolding is_live
live_is f j = simp (says, point_is, killed_is) Iff.rfl

pub shot_of_is : (s : Sheet) (v : Relation) (j : ℕ) → (is_shot_of s v j ≡ true) ↔ (Shot s v j × (Killed s j → ⊥))
unfolding is_shot_of
shot_of_is s v j = simp (says, point_at_is, killed_is) Iff.rfl

pub rule13_is : (s x : Sheet) (k : ℕ) → Met (rule13 s x k) ↔ Rule13 s x k
unfolding rule13
rule13_is s x k = simp (says, shot_of_is) Iff.rfl

pub rule13_breaks : (s x : Sheet) (k : ℕ)
    → (some s.count (is_shot_of s (relation_at x k)) ≡ true → ⊥) ↔ Breach13 s x k
rule13_breaks s x k = simp (fails, shot_of_is) Iff.rfl

-- 15
pub rule15_is : (s x : Sheet) (k : ℕ) → Met (rule15 s x k) ↔ Rule15 s x k
unfolding rule15 names
rule15_is s x k = simp (says, live_is, data_is, at_is) Iff.rfl

pub rule15_breaks : (s x : Sheet) (k : ℕ) (w : Refusal)
    → Broken w (rule15 s x k) ↔ By (Breach15 s x k) (№ 15 file_s (k + 1) letter_column) w
unfolding rule15 names
rule15_breaks s x k = when_breaks _ _ _ (live_is s k) (simp (fails, and_is, data_is, at_is) Iff.rfl)

-- 16
pub of_record_is : (t : List ℕ) (n : ℕ) (q : Reach) → (of_record t n q ≡ true) ↔ OfRecord t n q
unfolding of_record
of_record_is t n q = simp says Iff.rfl

mates_are : (x : Sheet) (k j : ℕ) → (mates (reaches_of x) k j ≡ true) ↔ Mates x k j
unfolding mates reaches_of
mates_are x k j = simp (and_is, data_is, of_record_is) Iff.rfl

same_shot_is : (v w : Relation) → (same_shot v w ≡ true) ↔ SameShot v w
unfolding same_shot
same_shot_is v w = simp says Iff.rfl

pub rule16_is : (x : Sheet) (k : ℕ) → Met (rule16 x k) ↔ Rule16 x k
unfolding rule16 together
rule16_is x k = simp (says, mates_are, same_shot_is) Iff.rfl

pub rule16_breaks : (x : Sheet) (k : ℕ)
    → ((together (reaches_of x) k && if_before (λ j. not (mates (reaches_of x) k j) || same_shot (relation_at x k) (relation_at x j)) k) ≡ true → ⊥)
    ↔ Breach16 x k
unfolding together
rule16_breaks x k =
    let Q = reaches_of x in
    let apart : (every k (λ j. not (mates Q k j) || is_before (mates Q k) k) ≡ true → ⊥)
    ↔ ((j : ℕ) × (j < k) × (Mates x k j × ((i : ℕ) → suc i ≡ k → Mates x k i → ⊥))) = simp (fails, mates_are) Iff.rfl in
    let other : (if_before (λ j. not (mates Q k j) || same_shot (relation_at x k) (relation_at x j)) k ≡ true → ⊥)
    ↔ ((j : ℕ) × (suc j ≡ k) × (Mates x k j × (SameShot (relation_at x k) (relation_at x j) → ⊥))) =
    simp (fails, mates_are, same_shot_is) Iff.rfl in
    let b =
    not_and (every k (λ j. not (mates Q k j) || is_before (mates Q k) k))
    (if_before (λ j. not (mates Q k j) || same_shot (relation_at x k) (relation_at x j)) k) in (
      λ n. ⊎_elim (λ u. inl (apart.0 u)) (λ u. inr (other.0 u)) (b.0 n),
      λ w. b.1 (⊎_elim (λ u. inl (apart.1 u)) (λ u. inr (other.1 u)) w),
    )

-- 17
pub rule17_is : (x : Sheet) (k : ℕ) → (rises (reaches_of x) k ≡ true) ↔ Rule17 x k
unfolding rises reaches_of
rule17_is x k = simp (says, mates_are) Iff.rfl

pub rule17_breaks : (x : Sheet) (k : ℕ) → (rises (reaches_of x) k ≡ true → ⊥) ↔ Breach17 x k
unfolding rises reaches_of
rule17_breaks x k = simp (fails, mates_are) Iff.rfl

-- 18
pub receivers_there_lem : (r : Sheet) (q : Reach)
    → (receivers_there r q ≡ true) ↔ ((n : ℕ) → Covers q n → (j : ℕ) × (j < r.count) × Receiver r q n j)
unfolding receivers_there
receivers_there_lem r q =
    Iff.trans (every_receiver q (λ n. some r.count (is_point_at r q.receiver n q.receiver_index)))
    (simp (says, point_at_is) Iff.rfl)

pub receivers_missing : (r : Sheet) (q : Reach)
    → (receivers_there r q ≡ true → ⊥) ↔ ((n : ℕ) × Covers q n × ((j : ℕ) → j < r.count → Receiver r q n j → ⊥))
unfolding receivers_there
receivers_missing r q =
    Iff.trans (not_every_receiver q (λ n. some r.count (is_point_at r q.receiver n q.receiver_index)))
    (simp (fails, point_at_is) Iff.rfl)

-- 19
pub once_is : (x : Sheet) (k : ℕ) → (once (reaches_of x) k ≡ true) ↔ Rule19 x k
unfolding once reaches_of
once_is x k = simp (says, mates_are, meet_is) Iff.rfl

pub once_breaks : (x : Sheet) (k : ℕ) → (once (reaches_of x) k ≡ true → ⊥) ↔ Breach19 x k
unfolding once reaches_of
once_breaks x k = simp (fails, mates_are, meet_is) Iff.rfl
