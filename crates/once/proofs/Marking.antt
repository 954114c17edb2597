-- The rows of relation lines are marked.
--   span_put, span_seen        = the rows of line k are places that follow each other
--   marked_none, marked_more   = the rows of one line of a record after another
use Prim.Native.Nat.{ℕ, ◌+◌, ◌≤◌, ◌<◌}
use native.Mathlib.Numerals.{add-one}
use native.Mathlib.Omega.{arith}
use mathlib.Core.Path.{◌≡◌, refl, sym, ap, ◌∙◌}
use mathlib.Core.Bool.{Bool, true, false, ◌&&◌, ◌||◌, and-false, or-true, or-false}
use mathlib.Core.List.{List}
use lib.Dec.{eqb, leb, ltb}
use lib.ListN.{length}
use borrow.Author.Tests.{ltb-true, leb-true, lt-ltb, le-ltb, le-leb, eq-eqb, ne_eqb}
use Rattle.rules.specs.Places.{pick, some}
use Rattle.rules.specs.Sheet.{Sheet}
use Rattle.rules.proofs.Tests.{clash, agree, and_is, some_is, yes_no}
use Rattle.order.specs.Sorted.{nth}
use Rattle.once.specs.Covered.{covered, covered_in, some_marked, Spanned}
use Rattle.once.specs.Marks.{Below, Put, Marked}
use Rattle.once.proofs.Spans.{within}

-- the rows of line k are those from e on and before e + n
module _ (r : Sheet) (o : List ℕ) (x : Sheet) (k e n : ℕ) (inside : e + n ≤ length o)
    (rows : (i : ℕ) → i < length o → covered r o x k i ≡ within e (e + n) i) (v : ℕ) (t : List ℕ) where
  pub span_put : (u : List ℕ) → Spanned e (e + n) v t u → Put r o x k v t u
  unfolding pick
  span_put u w =
      record {
        size = w.size;
        at = λ i h. w.at i ∙ ap (λ (b : Bool). pick b v (nth t i)) (sym (rows i h));
        beyond = λ i h. w.at i ∙ out i h;
      }
    where
      out : (i : ℕ) → length o ≤ i → pick (within e (e + n) i) v (nth t i) ≡ nth t i
      out i h = rw (le-ltb i (e + n) (omega arith), and-false (leb e i))

  pub span_seen : (s : Bool) → s ≡ some (e + n) (λ i. leb e i && eqb (nth t i) v) → s ≡ some_marked r o x k t v
  unfolding some_marked
  span_seen s f =
      f
      ∙ agree _ _
      (λ b.
      let w = (some_is (e + n) seen).0 b in
      let i = w.0 in
      let u = (and_is (leb e i) (eqb (nth t i) v)).0 w.2 in
      let g = w.1 in
      let h : i < length o = omega arith in
      let c = rows i h ∙ (and_is (leb e i) (ltb i (e + n))).1 (u.0, lt-ltb i (e + n) g) in
      (some_is (length o) hit).1 (i, h, (and_is (covered r o x k i) (eqb (nth t i) v)).1 (c, u.1)))
      (λ b.
      let w = (some_is (length o) hit).0 b in
      let i = w.0 in
      let u = (and_is (covered r o x k i) (eqb (nth t i) v)).0 w.2 in
      let z = (and_is (leb e i) (ltb i (e + n))).0 (sym (rows i w.1) ∙ u.0) in
      (some_is (e + n) seen).1 (i, ltb-true i (e + n) z.1, (and_is (leb e i) (eqb (nth t i) v)).1 (z.0, u.1)))
    where
      seen : ℕ → Bool
      seen i = leb e i && eqb (nth t i) v

      hit : ℕ → Bool
      hit i = covered r o x k i && eqb (nth t i) v

-- the rows of the lines of a record
module _ (r : Sheet) (o : List ℕ) (x : Sheet) (a : ℕ) where
  pub marked_none : (t : List ℕ) → Below t (a + 1) → Marked r o x t a a
  marked_none t b =
      record {
        below = λ e. let z = b e in omega arith;
        at = λ e h. ne_eqb (nth t e) (a + 1) (λ z. let y = b e in omega arith) ∙ sym (none e);
      }
    where
      none : (e : ℕ) → covered_in r o x a a e ≡ false
      none e =
          agree _ _
          (λ b. let w = (some_is a _).0 b in let u = (and_is _ _).0 w.2 in
          let l = leb-true a w.0 u.0 in let g = w.1 in absurd (omega arith))
          (λ b. clash b)

  pub marked_more : (t u : List ℕ) (k v : ℕ) → v ≡ a + 1 → a ≤ k → Marked r o x t a k → Put r o x k v t u → Marked r o x u a (k + 1)
  unfolding some pick
  marked_more t u k v q l m z =
      let p : Put r o x k (a + 1) t u = rw q at z in
      record {
        below =
            λ e.
            yes_no (ltb e (length o)) (λ b. rw (p.at e (ltb-true _ _ b)) (small (covered r o x k e) (nth t e) (m.below e)))
            (λ b. let z : e < length o → ⊥ = λ h. b (lt-ltb _ _ h) in rw (p.beyond e (omega arith)) (m.below e));
        at =
            λ e h.
            rw (p.at e h, add-one k, le-leb a k l)
            (marks (covered r o x k e) (nth t e) ∙ ap (λ (s : Bool). s || covered r o x k e) (m.at e h));
      }
    where
      small : (b : Bool) (n : ℕ) → n < a + 2 → pick b (a + 1) n < a + 2
      small true n h = omega arith
      small false n h = h

      marks : (b : Bool) (n : ℕ) → eqb (pick b (a + 1) n) (a + 1) ≡ (eqb n (a + 1) || b)
      marks true n = eq-eqb (a + 1) (a + 1) refl ∙ sym (or-true (eqb n (a + 1)))
      marks false n = sym (or-false (eqb n (a + 1)))
