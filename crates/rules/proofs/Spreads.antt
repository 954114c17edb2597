-- The spread table: it agrees with the lookup at every place up to the highest covered channel; later places stay; a refusal writes nothing.
use Prim.Native.Nat.{ℕ, zero, suc, ◌+◌, ◌*◌, ◌/◌, ◌≤◌, ◌<◌}
use native.Mathlib.Nat.{not-suc-le-zero, lt-suc_self}
use native.Mathlib.Omega.{arith}
use mathlib.Core.Path.{◌≡◌, refl, sym, ap, ◌∙◌}
use mathlib.Core.Logic.Iff
use mathlib.Core.Logic.{◌↔◌, ◌⊎◌, inl, inr, ⊎_elim}
use mathlib.Core.Bool.{Bool, true, false, ◌&&◌}
use mathlib.Core.List.{List}
use lib.Dec.{leb}
use lib.ListN.{length, get_or}
use Rattle.rules.specs.Places.{pick, some, greatest}
use Rattle.rules.specs.Plan.{Refusal, Verdict, fine, refused, ◌before◌}
use Rattle.rules.specs.Sheet.{Sheet}
use Rattle.rules.specs.Lines.{is_data}
use Rattle.rules.specs.Relations.{reach_at}
use Rattle.rules.specs.Reaches.{of_record}
use Rattle.rules.specs.Check.{Answer, refusal, highest, rules, verdict, answer}
use Rattle.rules.specs.Questions.{record_asked, channel_asked, rule20}
use Rattle.rules.specs.Lookup.{found, lookup}
use Rattle.rules.specs.Hosts.{numbers_of}
use Rattle.rules.specs.Spread.{highest_of, turns, place, byte_place, rule21, spread_verdict, spread, unless_refused, Put, slice}
use Rattle.rules.specs.Meets.{Meets}
use Rattle.rules.specs.Refuses.{First}
use Rattle.rules.specs.MeetsQuestions.{Asked, Of, Absent, Highest, Room, Short, spread_order}
use Rattle.rules.proofs.Tests.{says, clash, more, yes_no, and_is, some_is, leb_is}
use Rattle.rules.proofs.Contrary.{not_and, not_leb}
use Rattle.rules.proofs.Breach.{run_met}
use Rattle.rules.proofs.Form.{data_is, need_breaks}
use Rattle.rules.proofs.Order.{of_record_is}
use Rattle.rules.proofs.Refuses.{rules_same}
use Rattle.rules.proofs.Same.{same_look, same_then}
use Rattle.rules.proofs.Meets.{verdict_meets}
use Rattle.rules.proofs.Turns.{turns_length, turns_after, turns_at, bytes_after, bytes_numbers}
use Rattle.rules.proofs.Accepted.{sound}
use Rattle.rules.proofs.Demand3.{asked_is, asked_then, asked_not, asking_same, refused_is, highest_answered}

-- the highest channel
greatest_is : (n : ℕ) (g : ℕ → ℕ) (b : ℕ) → (greatest n g ≤ b) ↔ ((k : ℕ) → k < n → g k ≤ b)
unfolding greatest
greatest_is zero g b = (λ e k h. absurd (not-suc-le-zero h), λ f. omega arith)
greatest_is (suc n) g b = (
  λ e k h. more h ((greatest_is n g b).0 (omega arith) k) (λ q. let z : g n ≤ b = omega arith in rw q z),
  λ f.
      let u = (greatest_is n g b).1 (λ k h. f k (omega arith)) in
      let v = f n (lt-suc_self n) in
      omega arith,
)

pick_le : (b : ℕ) (a : Bool) (m : ℕ) → (pick a m 0 ≤ b) ↔ (a ≡ true → m ≤ b)
unfolding pick
pick_le b true m = (λ e h. e, λ f. f refl)
pick_le b false m = (λ e h. clash h, λ f. omega arith)

pub highest_is : (x : Sheet) (t : List ℕ) (n b : ℕ) → (highest_of x t n ≤ b) ↔ ((k : ℕ) → k < x.count → Of x t n k → (reach_at x k).upto ≤ b)
unfolding highest_of
highest_is x t n b =
    let u = greatest_is x.count (λ k. pick (is_data x k && of_record t n (reach_at x k)) (reach_at x k).upto 0) b in (
      λ e k h o. (pick_le b _ _).0 (u.0 e k h) ((and_is _ _).1 ((data_is x k).1 o.0, (of_record_is t n _).1 o.1)),
      λ f.
          u.1
          (λ k h. (pick_le b _ _).1 (λ e. let o = (and_is _ _).0 e in f k h ((data_is x k).0 o.0, (of_record_is t n _).0 o.1))),
    )

-- it is some line's, where there is a line
greatest_at : (n : ℕ) (g : ℕ → ℕ) → (greatest n g ≡ 0) ⊎ ((k : ℕ) × (k < n) × (g k ≡ greatest n g))
unfolding greatest
greatest_at zero g = inl refl
greatest_at (suc n) g =
    yes_no (leb (greatest n g) (g n))
    (λ t. let l = (leb_is (greatest n g) (g n)).0 t in inr (n, lt-suc_self n, omega arith))
    (λ t.
    let l = (not_leb (greatest n g) (g n)).0 t in
    ⊎_elim (λ e. absurd (omega arith)) (λ w. let e = w.2 in let h = w.1 in inr (w.0, omega arith, omega arith)) (greatest_at n g))

module _ (x : Sheet) (t : List ℕ) (n : ℕ) where
  of : ℕ → Bool
  of k = is_data x k && of_record t n (reach_at x k)

  of_is : (k : ℕ) → (of k ≡ true) ↔ Of x t n k
  unfolding of
  of_is k = simp (and_is, data_is, of_record_is) Iff.rfl

  ends_there : (k₀ k h : ℕ) → k₀ < x.count → Of x t n k₀ → (reach_at x k₀).upto ≤ h → k < x.count → pick (of k) (reach_at x k).upto 0 ≡ h
      → (j : ℕ) × (j < x.count) × Of x t n j × ((reach_at x j).upto ≡ h)
  unfolding pick
  ends_there k₀ k h h₀ o₀ l hk = go (of k) refl
    where
      go : (b : Bool) → of k ≡ b → pick b (reach_at x k).upto 0 ≡ h → (j : ℕ) × (j < x.count) × Of x t n j × ((reach_at x j).upto ≡ h)
      go true e q = (k, hk, (of_is k).0 e, q)
      go false e q = (k₀, h₀, o₀, omega arith)

  pub highest_there : Highest x t n (highest_of x t n)
  unfolding highest_of of
  highest_there = (
    (highest_is x t n (highest_of x t n)).0 (omega arith),
    yes_no (some x.count of)
        (λ e. let w = (some_is x.count of).0 e in inr (there w.0 w.1 ((of_is _).0 w.2)))
        (λ e.
        let none : Absent x t n = λ k h o. e ((some_is x.count of).1 (k, h, (of_is k).1 o)) in
        inl (none, (let z = (highest_is x t n 0).1 (λ k h o. absurd (none k h o)) in omega arith))),
  )
    where
      there : (k : ℕ) → k < x.count → Of x t n k → (j : ℕ) × (j < x.count) × Of x t n j × ((reach_at x j).upto ≡ highest_of x t n)
      there k h o =
          let l = (highest_is x t n (highest_of x t n)).0 (omega arith) k h o in
          ⊎_elim (λ e. let e' : highest_of x t n ≡ 0 = e in (k, h, o, omega arith)) (λ w. ends_there k w.0 _ h o l w.1 w.2)
          (greatest_at x.count (λ k. pick (of k) (reach_at x k).upto 0))

  pub highest_one : (h : ℕ) → Highest x t n h → highest_of x t n ≡ h
  highest_one h w =
      let l = (highest_is x t n h).1 w.0 in
      let m : h ≤ highest_of x t n =
      ⊎_elim (λ u. let z = u.1 in omega arith)
      (λ u. let e = u.3 in let y = (highest_is x t n (highest_of x t n)).0 (omega arith) u.0 u.1 u.2 in omega arith) w.1 in
      omega arith

module _ (r s x : Sheet) (t : List ℕ) (n a b : ℕ) where
  room_is : (leb (highest_of x t n) a && leb (highest_of x t n) b ≡ true) ↔ Room x t n a b
  room_is =
      let e : (leb (highest_of x t n) a && leb (highest_of x t n) b ≡ true) ↔ ((highest_of x t n ≤ a) × (highest_of x t n ≤ b)) = simp says Iff.rfl in (
        λ q. (highest_of x t n, highest_there x t n, e.0 q),
        λ w.
            let q = highest_one x t n w.0 w.1 in
            let u = w.2.0 in
            let v = w.2.1 in
            e.1 (omega arith, omega arith),
      )

  short_is : (leb (highest_of x t n) a && leb (highest_of x t n) b ≡ true → ⊥) ↔ Short x t n a b
  short_is =
      let e = not_and (leb (highest_of x t n) a) (leb (highest_of x t n) b) in
      let p = not_leb (highest_of x t n) a in
      let q = not_leb (highest_of x t n) b in (
        λ f. (highest_of x t n, highest_there x t n, ⊎_elim (λ u. inl (p.0 u)) (λ u. inr (q.0 u)) (e.0 f)),
        λ w.
            let z = highest_one x t n w.0 w.1 in
            e.1 (⊎_elim (λ u. inl (p.1 (omega arith))) (λ u. inr (q.1 (omega arith))) w.2),
      )

  -- 20, the set's own, then 21
  pub spread_refuses : (w : Refusal) → (spread r s x t n a b ≡ refusal w) ↔ First (spread_order r s x t n a b) w
  unfolding spread spread_verdict rule21
  spread_refuses w =
      refused_is _ _
      (asking_same (record_asked x.layout t n) (asked_is _ t n) (asked_not _ t n)
      (same_then (rules_same r s x) (λ _. same_look room_is (need_breaks _ _ short_is))))
      (highest (highest_of x t n)) (highest_answered _) w

  -- the table is filled exactly when the question is in range, the rules are met and both slices are long enough
  pub spread_fine : (spread_verdict r s x t n a b ≡ fine)
      ↔ (Asked x.layout t n × (Meets r s x × ((highest_of x t n ≤ a) × (highest_of x t n ≤ b))))
  unfolding spread_verdict verdict rule20 rule21
  spread_fine =
      let u = run_met (rule20 (record_asked x.layout t n) before rules r s x before rule21 (highest_of x t n) a b) in
      let v = run_met (rules r s x) in
      let m = verdict_meets r s x in (
        λ e. let w = u.0 e in ((asked_is _ t n).0 w.0, (m.0 (v.1 w.1.0), simp says at w.1.1)),
        λ w. u.1 ((asked_is _ t n).1 w.0, (v.0 (m.1 w.1.0), simp says w.1.1)),
      )

  -- either slice, by how a turn puts a place: `part` is its part of an answer
  module _ (put : Put) (part : Answer → ℕ) (d : List ℕ) where
    pub refused_stays : (w : Refusal) → spread_verdict r s x t n a b ≡ refused w → slice put part r s x t n a b d ≡ d
    unfolding slice unless_refused
    refused_stays w e = rw e

    pub filled : spread_verdict r s x t n a b ≡ fine
        → slice put part r s x t n a b d ≡ turns (put (λ c. part (found r x t n c))) (highest_of x t n) d
    unfolding slice unless_refused
    filled e = rw e

  module _ (e : spread_verdict r s x t n a b ≡ fine) where
    pub few : highest_of x t n ≤ x.layout.most_channel
    few = (highest_is x t n _).1 (λ k h o. (sound r s x (spread_fine.0 e).1.0 k h o.0).most)

    looked : (c : ℕ) → c < highest_of x t n → lookup r s x t n (c + 1) ≡ found r x t n (c + 1)
    unfolding lookup verdict channel_asked answer
    looked c h =
        let w = spread_fine.0 e in
        let l = few in
        let v =
        (asked_then (record_asked x.layout t n && channel_asked x.layout (c + 1)) (rules r s x) (verdict r s x) refl).1
        (simp (says, asked_is, verdict_meets) ((w.0, (omega arith, omega arith)), w.1.0)) in
        rw v

    module _ (part : Answer → ℕ) (d : List ℕ) where
      pub slice_length : length (slice place part r s x t n a b d) ≡ length d
      slice_length = ap length (filled place part d e) ∙ turns_length (λ c. part (found r x t n c)) (highest_of x t n) d

      pub slice_later : (c : ℕ) → highest_of x t n ≤ c → get_or (slice place part r s x t n a b d) c 0 ≡ get_or d c 0
      slice_later c h =
          ap (λ (l : List ℕ). get_or l c 0) (filled place part d e) ∙ turns_after (λ c. part (found r x t n c)) (highest_of x t n) d c h

      pub slice_agrees : (c : ℕ) → highest_of x t n ≤ length d → c < highest_of x t n
          → get_or (slice place part r s x t n a b d) c 0 ≡ part (lookup r s x t n (c + 1))
      slice_agrees c l h =
          ap (λ (l : List ℕ). get_or l c 0) (filled place part d e) ∙ turns_at (λ c. part (found r x t n c)) (highest_of x t n) d c l h
          ∙ ap part (sym (looked c h))

  -- a byte slice of a places, read as numbers, is the slice of numbers; what is beyond the places stays
  module _ (part : Answer → ℕ) (d : List ℕ) where
    pub slice_numbers : a ≡ length d / 2
        → numbers_of (slice byte_place part r s x t n a b d) ≡ slice place part r s x t n a b (numbers_of d)
    slice_numbers places = go (spread_verdict r s x t n a b) refl
      where
        go : (v : Verdict) → spread_verdict r s x t n a b ≡ v
            → numbers_of (slice byte_place part r s x t n a b d) ≡ slice place part r s x t n a b (numbers_of d)
        go fine e =
            let h = (spread_fine.0 e).1.1.0 in
            ap numbers_of (filled byte_place part d e)
            ∙ bytes_numbers (λ c. part (found r x t n c)) (highest_of x t n) d (omega arith)
            ∙ sym (filled place part (numbers_of d) e)
        go (refused w) e =
            ap numbers_of (refused_stays byte_place part d w e) ∙ sym (refused_stays place part (numbers_of d) w e)

    pub odd_stays : (c : ℕ) → 2 * a ≤ c → get_or (slice byte_place part r s x t n a b d) c 0 ≡ get_or d c 0
    odd_stays c l = go (spread_verdict r s x t n a b) refl
      where
        go : (v : Verdict) → spread_verdict r s x t n a b ≡ v → get_or (slice byte_place part r s x t n a b d) c 0 ≡ get_or d c 0
        go fine e =
            let h = (spread_fine.0 e).1.1.0 in
            ap (λ (l : List ℕ). get_or l c 0) (filled byte_place part d e)
            ∙ bytes_after (λ c. part (found r x t n c)) (highest_of x t n) d c (omega arith)
        go (refused w) e = ap (λ (l : List ℕ). get_or l c 0) (refused_stays byte_place part d w e)
