-- Rows that two relation lines cover, and what the marks say of them.
--   covered_is       = the receiver in a row is one of line k's
--   both_meet        = a row that two lines cover is a receiver of both
--   meet_both        = two lines that meet cover one row, since the receivers of each are rows
--   marked_broken, marked_fine = 19 by the marks
use Prim.Native.Nat.{ℕ, ◌+◌, ◌<◌}
use mathlib.Core.Path.{◌≡◌, refl, sym, subst, ◌∙◌}
use mathlib.Core.Logic.Iff
use mathlib.Core.Logic.{◌↔◌}
use mathlib.Core.Bool.{Bool, true, false, ◌&&◌}
use mathlib.Core.List.{List}
use lib.Dec.{eqb, leb}
use lib.ListN.{length}
use Rattle.rules.specs.Places.{some}
use Rattle.rules.specs.Sheet.{Sheet}
use Rattle.rules.specs.Lines.{is_point}
use Rattle.rules.specs.Points.{point_at}
use Rattle.rules.specs.Relations.{reach_at}
use Rattle.rules.specs.Cover.{meet}
use Rattle.rules.specs.Order.{is_point_at, receivers_there}
use Rattle.rules.proofs.Tests.{says, clash, and_is, some_is, every_is, imp_is, not_is}
use Rattle.rules.proofs.Steps.{every_stop}
use Rattle.rules.proofs.Form.{point_is}
use Rattle.rules.specs.MeetsCover.{Covers}
use Rattle.rules.proofs.Cover.{covers_is, every_receiver, meet_is}
use Rattle.rules.proofs.Order.{point_at_is}
use Rattle.order.specs.Sorted.{nth}
use Rattle.order.specs.Listed.{Placed}
use Rattle.once.specs.Covered.{covered, apart, some_marked}
use Rattle.once.specs.Marks.{Marked}

module _ (r : Sheet) (o : List ℕ) (x : Sheet) where
  abbrev Covered : ℕ → ℕ → Type 0
  Covered k e =
      ((reach_at x k).receiver ≡ (point_at r (nth o e)).name)
      × (((reach_at x k).receiver_index ≡ (point_at r (nth o e)).index) × Covers (reach_at x k) (point_at r (nth o e)).number)

  pub covered_is : (k e : ℕ) → (covered r o x k e ≡ true) ↔ Covered k e
  unfolding covered
  covered_is k e = simp (says, covers_is) Iff.rfl

  pub both_meet : (k j e : ℕ) → covered r o x k e ≡ true → covered r o x j e ≡ true → meet (reach_at x k) (reach_at x j) ≡ true
  both_meet k j e s t =
      let u = (covered_is k e).0 s in
      let v = (covered_is j e).0 t in
      (meet_is (reach_at x k) (reach_at x j)).1
      (u.0 ∙ sym v.0, (u.1.0 ∙ sym v.1.0, ((point_at r (nth o e)).number, u.1.1, v.1.1)))

  -- the receiver of number n that line k names stands in row e
  abbrev Holds : ℕ → ℕ → ℕ → Type 0
  Holds k n i =
      ((point_at r i).name ≡ (reach_at x k).receiver)
      × (((point_at r i).number ≡ n) × ((point_at r i).index ≡ (reach_at x k).receiver_index))

  holds_covered : (k n e : ℕ) → Holds k n (nth o e) → (j : ℕ) → (reach_at x j).receiver ≡ (reach_at x k).receiver
      → (reach_at x j).receiver_index ≡ (reach_at x k).receiver_index → Covers (reach_at x j) n → covered r o x j e ≡ true
  holds_covered k n e h j a b c =
      (covered_is j e).1
      (a ∙ sym h.0, (b ∙ sym h.1.1, subst (λ (n : ℕ). Covers (reach_at x j) n) (sym h.1.0) c))

  -- each receiver of R has a row
  module _ (row : (j : ℕ) → j < r.count → is_point r j ≡ true → Placed o (length o) j) where
    pub meet_both : (k j : ℕ) → receivers_there r (reach_at x k) ≡ true → meet (reach_at x k) (reach_at x j) ≡ true
        → (e : ℕ) × (e < length o) × ((covered r o x k e ≡ true) × (covered r o x j e ≡ true))
    unfolding receivers_there
    meet_both k j there t =
        let q = reach_at x k in
        let m = (meet_is q (reach_at x j)).0 t in
        let n = m.1.1.0 in
        let h = (every_receiver q (λ n. some r.count (is_point_at r q.receiver n q.receiver_index))).0 there n m.1.1.1 in
        let w = (some_is r.count (is_point_at r q.receiver n q.receiver_index)).0 h in
        let p = (point_at_is r q.receiver n q.receiver_index w.0).0 w.2 in
        let z = row w.0 w.1 ((point_is r w.0).1 p.0) in
        let own = holds_covered k n z.place (subst (λ (i : ℕ). Holds k n i) (sym z.back) p.1) in
        (z.place, z.inside, (own k refl refl m.1.1.1, own j (sym m.0) (sym m.1.0) m.1.1.2))

    -- by the marks; s is what the code finds
    module _ (t : List ℕ) (a k : ℕ) (w : Marked r o x t a k) (s : Bool) (f : s ≡ some_marked r o x k t (a + 1)) where
      abbrev is_marked : ℕ → Bool
      is_marked e = eqb (nth t e) (a + 1)

      abbrev covers_it : ℕ → ℕ → Bool
      covers_it e j = leb a j && covered r o x j e

      pub marked_broken : s ≡ true → apart x a k ≡ false
      unfolding some_marked apart
      marked_broken y =
          let u = (some_is (length o) (λ e. covered r o x k e && is_marked e)).0 (sym f ∙ y) in
          let e = u.0 in
          let v = (and_is (covered r o x k e) (is_marked e)).0 u.2 in
          let z = (some_is k (covers_it e)).0 (sym (w.at e u.1) ∙ v.1) in
          let l = (and_is (leb a z.0) (covered r o x z.0 e)).0 z.2 in
          every_stop _ z.0 k z.1 (rw (l.0, both_meet k z.0 e v.0 l.1))

      seen_twice : (j e : ℕ) → j < k → leb a j ≡ true → e < length o → covered r o x k e ≡ true → covered r o x j e ≡ true
          → some_marked r o x k t (a + 1) ≡ true
      unfolding some_marked
      seen_twice j e h l g b c =
          let d : is_marked e ≡ true = w.at e g ∙ (some_is k (covers_it e)).1 (j, h, (and_is (leb a j) (covered r o x j e)).1 (l, c)) in
          (some_is (length o) (λ e. covered r o x k e && is_marked e)).1 (e, g, (and_is (covered r o x k e) (is_marked e)).1 (b, d))

      pub marked_fine : receivers_there r (reach_at x k) ≡ true → s ≡ false → apart x a k ≡ true
      unfolding apart
      marked_fine there y =
          (every_is k _).1
          (λ j h.
          (imp_is (leb a j) _).1
          (λ l.
          (not_is _).1
          (λ m.
          let b = meet_both k j there m in
          clash (sym y ∙ f ∙ seen_twice j b.0 h l b.1 b.2.0 b.2.1))))
