-- Places of an array from lo on and before hi: v is put there, and looked for.
--   within lo hi e    = place e is one of them
--   Reached lo hi i   = how far a walk from lo towards hi has come
--   spanned_none, spanned_more, spanned_all    = v is put at one place after another
--   spanned_one, cleared_one                   = what is put is one
--   seen_none, seen_more, seen_all             = v is looked for at one place after another
use Prim.Native.Nat.{ℕ, ◌+◌, ◌≤◌, ◌<◌}
use native.Mathlib.Numerals.{add-one}
use native.Mathlib.Omega.{arith}
use mathlib.Core.Path.{◌≡◌, refl, sym, ap, ◌∙◌}
use mathlib.Core.Bool.{Bool, false, ◌&&◌, ◌||◌}
use mathlib.Core.List.{List}
use lib.Dec.{eqb, leb, ltb}
use lib.ListN.{length, set, length-set}
use lib.Seq.{get_or-set_same, get_or-set_other, ext_get_or}
use borrow.Author.Tests.{ltb-true, leb-true, eqb-true, lt-ltb, le-leb, eq-eqb}
use Rattle.rules.specs.Places.{pick, some}
use Rattle.rules.proofs.Tests.{clash, agree, and_is, some_is, yes_no}
use Rattle.order.specs.Sorted.{nth}
use Rattle.once.specs.Covered.{Spanned}

abbrev pub within : ℕ → ℕ → ℕ → Bool
within lo hi e = leb lo e && ltb e hi

abbrev pub Reached : ℕ → ℕ → ℕ → Type 0
Reached lo hi i = lo < i → i ≤ hi

within_all : (lo hi i : ℕ) → Reached lo hi i → hi ≤ i → (e : ℕ) → within lo i e ≡ within lo hi e
within_all lo hi i w h e =
    agree _ _
    (λ t. let u = (and_is (leb lo e) (ltb e i)).0 t in
    let p = leb-true lo e u.0 in
    let q = ltb-true e i u.1 in
    let z = w (omega arith) in
    (and_is (leb lo e) (ltb e hi)).1 (u.0, lt-ltb e hi (omega arith)))
    (λ t. let u = (and_is (leb lo e) (ltb e hi)).0 t in
    let q = ltb-true e hi u.1 in
    (and_is (leb lo e) (ltb e i)).1 (u.0, lt-ltb e i (omega arith)))

module _ (lo v : ℕ) (t : List ℕ) where
  pub spanned_none : Spanned lo lo v t t
  unfolding pick
  spanned_none = record { size = refl; at = λ e. rw (empty e) }
    where
      empty : (e : ℕ) → within lo lo e ≡ false
      empty e = agree _ _ (λ b. let u = (and_is (leb lo e) (ltb e lo)).0 b in
          let p = leb-true lo e u.0 in
          let q = ltb-true e lo u.1 in absurd (omega arith)) (λ b. clash b)

  pub spanned_more : (u : List ℕ) (i : ℕ) → lo ≤ i → i < length u → Spanned lo i v t u → Spanned lo (i + 1) v t (set u i v)
  unfolding pick
  spanned_more u i l h w =
      record {
        size = length-set u i v ∙ w.size;
        at = λ e. yes_no (eqb e i) (λ b. here e (eqb-true e i b)) (λ b. other e (λ z. b (eq-eqb e i z)));
      }
    where
      here : (e : ℕ) → e ≡ i → nth (set u i v) e ≡ pick (within lo (i + 1) e) v (nth t e)
      here e z = rw (z, le-leb lo i l, lt-ltb i (i + 1) (omega arith), get_or-set_same u i v 0 h)

      other : (e : ℕ) → (e ≡ i → ⊥) → nth (set u i v) e ≡ pick (within lo (i + 1) e) v (nth t e)
      other e n =
          get_or-set_other u i e v 0 n ∙ w.at e
          ∙ ap (λ (b : Bool). pick (leb lo e && b) v (nth t e))
          (agree (ltb e i) (ltb e (i + 1)) (λ b. let z = ltb-true e i b in lt-ltb e (i + 1) (omega arith))
          (λ b. let z = ltb-true e (i + 1) b in lt-ltb e i (omega arith)))

  pub spanned_all : (u : List ℕ) (hi i : ℕ) → Reached lo hi i → hi ≤ i → Spanned lo i v t u → Spanned lo hi v t u
  spanned_all u hi i r h w =
      record { size = w.size; at = λ e. w.at e ∙ ap (λ (b : Bool). pick b v (nth t e)) (within_all lo hi i r h e) }

  -- a look at the same places
  abbrev pub is_mark : ℕ → Bool
  is_mark e = leb lo e && eqb (nth t e) v

  unseen : (i : ℕ) → i ≤ lo → some i is_mark ≡ false
  unseen i h =
      agree _ _
      (λ b. let w = (some_is i is_mark).0 b in let u = (and_is _ _).0 w.2 in
      let l = leb-true lo w.0 u.0 in let g = w.1 in absurd (omega arith))
      (λ b. clash b)

  pub seen_none : false ≡ some lo is_mark
  seen_none = sym (unseen lo (omega arith))

  pub seen_more : (i : ℕ) → lo ≤ i → (s : Bool) → s ≡ some i is_mark → (s || eqb (nth t i) v) ≡ some (i + 1) is_mark
  unfolding some
  seen_more i l s e = rw (e, add-one i, le-leb lo i l) refl

  pub seen_all : (hi i : ℕ) → Reached lo hi i → hi ≤ i → (s : Bool) → s ≡ some i is_mark → s ≡ some hi is_mark
  seen_all hi i r h s e =
      e
      ∙ agree _ _
      (λ b. let w = (some_is i is_mark).0 b in let u = (and_is _ _).0 w.2 in
      let l = leb-true lo w.0 u.0 in let g = w.1 in let z = r (omega arith) in
      (some_is hi is_mark).1 (w.0, omega arith, w.2))
      (λ b. let w = (some_is hi is_mark).0 b in let g = w.1 in (some_is i is_mark).1 (w.0, omega arith, w.2))

-- what is put is one
pub spanned_one : (lo hi v : ℕ) (t u w : List ℕ) → Spanned lo hi v t u → Spanned lo hi v t w → u ≡ w
spanned_one lo hi v t u w p q = ext_get_or 0 u w (p.size ∙ sym q.size) (λ e h. p.at e ∙ sym (q.at e))

pub cleared_one : (u w : List ℕ) → length u ≡ length w → ((e : ℕ) → nth u e < 1) → ((e : ℕ) → nth w e < 1) → u ≡ w
cleared_one u w l p q = ext_get_or 0 u w l (λ e h. omega (arith, p e, q e))
