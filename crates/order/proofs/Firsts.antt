-- A line repeats an earlier one's key exactly where its neighbour before it in the order has that key, and, of relation lines, is not
-- the line just before.
--   like_is          = a line that has a key, that of line k
--   joined_is        = of relation lines: the last earlier line like k is the one just before
--   neighbour, head  = the first place repeats nothing; any other repeats what its neighbour has
--   is_first         = a line that repeats one and that no pair of neighbours undercuts is the first to
--   lesser_this      = what repeats its neighbour
use Prim.Native.Nat.{ℕ, zero, suc, ◌+◌, ◌≤◌, ◌<◌}
use mathlib.Core.Path.{◌≡◌, refl, sym, ap, ◌∙◌}
use mathlib.Core.Logic.{◌↔◌, ⊎_elim}
use mathlib.Core.Bool.{Bool, true, false, not, ◌&&◌}
use mathlib.Core.List.{List}
use native.Mathlib.Nat.{eq-or-lt_of_le}
use native.Mathlib.Decide.{dec_lt}
use native.Mathlib.Numerals.{add-one}
use native.Mathlib.Omega.{arith}
use lib.Dec.{eqb}
use borrow.Author.Tests.{eq-eqb, ne_eqb, not-true}
use Rattle.rules.specs.Places.{some, least, is_before}
use Rattle.rules.specs.Sheet.{Sheet}
use Rattle.rules.proofs.Tests.{clash, and_is, some_is}
use Rattle.rules.proofs.Least.{None, least_first, least_none}
use Rattle.lines.proofs.Tests.{untrue}
use Rattle.keys.specs.Compare.{same_key}
use Rattle.keys.specs.Keyed.{takes_at, key_at}
use Rattle.keys.specs.declared.By.{By}
use Rattle.keys.specs.declared.By.TheVariants.{Points, Receivers, Records}
use Rattle.order.specs.Sorted.{nth, value, rank, Small}
use Rattle.order.specs.Listed.{Placed, InOrder}
use Rattle.order.specs.Repeat.{like, linked, joined, repeats, Low, Seen}
use Rattle.order.proofs.Ranks.{same_value, value_same, rank_up, rank_value, rank_line}
use Rattle.order.proofs.Rising.{low_line, ascend_on, place_below}

pub like_is : (t : By) (f : Sheet) (k j : ℕ) → (like t f k j ≡ true) ↔ ((takes_at t f j ≡ true) × (same_key (key_at t f j) (key_at t f k) ≡ true))
unfolding like
like_is t f k j = and_is _ _

-- j is the last place before k that passes
pub joined_is : (t : By) (p : ℕ → Bool) (j k : ℕ) → p j ≡ true → j < k → ((i : ℕ) → i < k → p i ≡ true → i ≤ j) → joined t p k ≡ linked t j k
unfolding is_before
joined_is Points p j k y l h = refl
joined_is Receivers p j k y l h = refl
joined_is Records p j zero y l h = absurd (omega arith)
joined_is Records p j (suc k) y l h = go (p k) refl
  where
    go : (b : Bool) → p k ≡ b → p k ≡ eqb (j + 1) (suc k)
    go true e = e ∙ sym (eq-eqb (j + 1) (suc k) (omega (arith, h k (omega arith) e)))
    go false e = e ∙ sym (ne_eqb (j + 1) (suc k) (λ z. clash (sym e ∙ ap p (let q : k ≡ j = omega arith in q) ∙ y)))

module _ (t : By) (f : Sheet) (k : ℕ) (h : repeats t f k ≡ true) where
  repeats_takes : takes_at t f k ≡ true
  unfolding repeats
  repeats_takes = ((and_is _ _).0 h).0

  repeats_some : (i : ℕ) × (i < k) × (like t f k i ≡ true)
  unfolding repeats
  repeats_some =
      let w = ((and_is (takes_at t f k) (some k (like t f k) && not (joined t (like t f k) k))).0 h).1 in
      (some_is k (like t f k)).0 ((and_is (some k (like t f k)) (not (joined t (like t f k) k))).0 w).0

module _ (t : By) (f : Sheet) (o : List ℕ) (m : ℕ) (s : Small (key_at t f)) (small : f.count ≤ 4294967296) (ord : InOrder t f o m) where
  -- an earlier line like the one at place e has an earlier place
  ahead : (i e : ℕ) → e < m → i < nth o e → like t f (nth o e) i ≡ true → (p : Placed o m i) → p.place < e
  ahead i e l h y p =
      let v = same_value (key_at t f) s i (nth o e) ((like_is t f (nth o e) i).0 y).1 in
      place_below (takes_at t f) (key_at t f) o m f.count s small ord p.place e p.inside
      (rw p.back (rank_up (key_at t f) i (nth o e) v h))

  its_place : (i e : ℕ) → e < m → i < nth o e → like t f (nth o e) i ≡ true → Placed o m i
  its_place i e l h y = ord.placed i (omega (arith, ord.own e l)) ((like_is t f (nth o e) i).0 y).0

  pub head : 0 < m → repeats t f (nth o 0) ≡ true → ⊥
  head l y =
      let w = repeats_some t f (nth o 0) y in
      omega (arith, ahead w.0 0 l w.1 w.2 (its_place w.0 0 l w.1 w.2))

  module _ (e : ℕ) (l : e + 1 < m) where
    -- what stands between two lines of one key has that key; the neighbour is the last line like the next
    like_before : (i : ℕ) → i < nth o (e + 1) → like t f (nth o (e + 1)) i ≡ true
        → (same_key (key_at t f (nth o e)) (key_at t f (nth o (e + 1))) ≡ true) × (i ≤ nth o e)
    like_before i h y = go (its_place i (e + 1) l h y)
      where
        go : Placed o m i → (same_key (key_at t f (nth o e)) (key_at t f (nth o (e + 1))) ≡ true) × (i ≤ nth o e)
        go p =
            let K = key_at t f in
            let v : value (K i) ≡ value (K (nth o (e + 1))) = same_value K s i (nth o (e + 1)) ((like_is t f (nth o (e + 1)) i).0 y).1 in
            let a : rank K i ≤ rank K (nth o e)
            = rw (← p.back) (ascend_on (takes_at t f) K o m f.count s small ord p.place e (omega (arith, ahead i (e + 1) l h y p)) (omega arith)) in
            let b : value (K i) ≤ value (K (nth o e))
            = rank_value K i (nth o e) (low_line (takes_at t f) K o m f.count s small ord e (omega arith)) a in
            let c : value (K (nth o e)) ≤ value (K (nth o (e + 1)))
            = rank_value K (nth o e) (nth o (e + 1)) (low_line (takes_at t f) K o m f.count s small ord (e + 1) l) (omega (arith, ord.next e l)) in (
              value_same K s (nth o e) (nth o (e + 1)) (omega arith),
              rank_line K i (nth o e) (omega arith) a,
            )

    module _ (q : same_key (key_at t f (nth o e)) (key_at t f (nth o (e + 1))) ≡ true) where
      lower : nth o e < nth o (e + 1)
      lower =
          let z = ord.next e l in
          ⊎_elim
          (λ (y : nth o e ≡ nth o (e + 1)). absurd (omega (arith, ap (rank (key_at t f)) y)))
          (λ (y : nth o e < nth o (e + 1)). y)
          (eq-or-lt_of_le
          (rank_line (key_at t f) (nth o e) (nth o (e + 1)) (same_value (key_at t f) s (nth o e) (nth o (e + 1)) q) (omega arith)))

      alike : like t f (nth o (e + 1)) (nth o e) ≡ true
      alike = (like_is t f (nth o (e + 1)) (nth o e)).1 (ord.part e (omega arith), q)

      repeats_next : repeats t f (nth o (e + 1)) ≡ not (linked t (nth o e) (nth o (e + 1)))
      unfolding repeats
      repeats_next =
          rw (
            ord.part (e + 1) l,
            (some_is (nth o (e + 1)) (like t f (nth o (e + 1)))).1 (nth o e, lower, alike),
            joined_is t (like t f (nth o (e + 1))) (nth o e) (nth o (e + 1)) alike lower (λ i h y. (like_before i h y).1),
          )

    pub neighbour : repeats t f (nth o (e + 1))
        ≡ (same_key (key_at t f (nth o e)) (key_at t f (nth o (e + 1))) && not (linked t (nth o e) (nth o (e + 1))))
    neighbour = go (same_key (key_at t f (nth o e)) (key_at t f (nth o (e + 1)))) refl
      where
        go : (b : Bool) → same_key (key_at t f (nth o e)) (key_at t f (nth o (e + 1))) ≡ b
            → repeats t f (nth o (e + 1)) ≡ (b && not (linked t (nth o e) (nth o (e + 1))))
        go true q = repeats_next q
        go false q =
            untrue _
            (λ y. let w = repeats_some t f (nth o (e + 1)) y in clash (sym q ∙ (like_before w.0 w.1 w.2).0))

  module _ (r : ℕ) (low : (e : ℕ) → e + 1 < m → Low t (key_at t f) o r e) (most : r ≤ f.count) where
    none_before : None r (repeats t f)
    none_before k l y = go (ord.placed k (omega arith) (repeats_takes t f k y))
      where
        at : (d : ℕ) → d < m → nth o d ≡ k → ⊥
        at zero h q = head h (ap (repeats t f) q ∙ y)
        at (suc d) h q =
            let z : nth o (d + 1) ≡ k = ap (nth o) (add-one d) ∙ q in
            let w = (and_is _ _).0 (sym (neighbour d (omega arith)) ∙ ap (repeats t f) z ∙ y) in
            omega (arith, low d (omega arith) (not-true _ w.1) w.0, z)

        go : Placed o m k → ⊥
        go p = at p.place p.inside p.back

    pub is_first : Seen t f r → r ≡ least f.count (repeats t f)
    is_first seen = go (dec_lt r f.count)
      where
        go : Dec (r < f.count) → r ≡ least f.count (repeats t f)
        go (yes l) = sym (least_first f.count r (repeats t f) (l, seen l, none_before))
        go (no l) =
            let e : r ≡ f.count = omega arith in
            e ∙ sym (least_none f.count (repeats t f) (λ k h. none_before k (omega arith)))

-- the line at place e + 1 repeats the one at place e
pub lesser_this : (t : By) (f : Sheet) (o : List ℕ) (e m : ℕ) → Small (key_at t f) → f.count ≤ 4294967296 → InOrder t f o m → e + 1 < m
    → linked t (nth o e) (nth o (e + 1)) ≡ false → same_key (key_at t f (nth o e)) (key_at t f (nth o (e + 1))) ≡ true
    → repeats t f (nth o (e + 1)) ≡ true
lesser_this t f o e m s small ord l u v = neighbour t f o m s small ord e l ∙ rw (u, v)
