-- Rows of receivers: their keys rise as numbers, since no two receivers are the same.
--   row_value r o e  = the key of row e as a number
--   row_point       = a row is a line that has a receiver
--   rises           = rows rise
--   row_same        = a row has a key where its number is the key's
--   up              = rows behind one that is not below a key are not below it either
--   row_none, row_here, row_other = the row of a key, by the first that is not below it
use Prim.Native.Nat.{ℕ, ◌<◌}
use native.Mathlib.Nat.{eq-or-lt_of_le}
use native.Mathlib.Omega.{arith}
use mathlib.Core.Path.{◌≡◌, sym, ap, ◌∙◌}
use mathlib.Core.Logic.{◌↔◌, ⊎_elim}
use mathlib.Core.Bool.{Bool, true, false}
use mathlib.Core.List.{List}
use lib.Dec.{eqb}
use lib.ListN.{length}
use borrow.Author.Tests.{lt-ltb}
use Rattle.rules.specs.Places.{least}
use Rattle.rules.specs.Plan.{up_to}
use Rattle.rules.specs.Sheet.{Sheet}
use Rattle.rules.specs.Lines.{is_point}
use Rattle.rules.specs.Points.{point_at, same_point}
use Rattle.rules.specs.Order.{rule10}
use Rattle.rules.proofs.Tests.{clash, not_is}
use Rattle.rules.proofs.Least.{least_first, least_none, least_there, least_below}
use Rattle.rules.proofs.Breach.{run_met}
use Rattle.rules.proofs.Form.{point_is}
use Rattle.rules.proofs.Above.{above_self}
use Rattle.rules.specs.MeetsSet.{Rule10}
use Rattle.rules.proofs.Order.{at_is, rule10_is}
use Rattle.rules.proofs.Accepted.{receivers_rise}
use Rattle.keys.specs.declared.Key.{Key}
use Rattle.keys.specs.declared.By.TheVariants.{Receivers}
use Rattle.keys.specs.Held.{KnownReceivers}
use Rattle.keys.specs.Compare.{same_key, less_or}
use Rattle.keys.specs.Keyed.{takes_at, key_at}
use Rattle.keys.proofs.Lines.{takes_receiver}
use Rattle.keys.proofs.Points.{receivers_same}
use Rattle.keys.proofs.Fit.{key_small}
use Rattle.order.specs.Sorted.{nth, value}
use Rattle.order.proofs.Ranks.{Digits, few_lines, same_test}
use Rattle.order.proofs.Rising.{value_climbs}
use Rattle.receivers.specs.Rows.{Rows, is_row, not_below, row_of}
use Rattle.receivers.proofs.Values.{less_value}
use Rattle.receivers.proofs.Below.{Below, below_is, below_join, below_same, below_self}
use Rattle.receivers.proofs.Rising.{Rising}
use Rattle.receivers.proofs.Halves.{Up}

abbrev pub row_value : Sheet → List ℕ → ℕ → ℕ
row_value r o e = value (key_at Receivers r (nth o e))

module _ (r : Sheet) (w : KnownReceivers r) where
  pub ten : (k : ℕ) → k < r.count → Rule10 r k
  ten = (rule10_is r).0 ((run_met (up_to r.count (rule10 r))).0 (sym w.1))

  apart : (j k : ℕ) → j < k → k < r.count → takes_at Receivers r j ≡ true → takes_at Receivers r k ≡ true
      → same_key (key_at Receivers r j) (key_at Receivers r k) ≡ true → ⊥
  unfolding same_point
  apart j k l h a b e =
      let g : j < r.count = omega arith in
      let p = sym (takes_receiver r j g) ∙ a in
      let q = sym (takes_receiver r k h) ∙ b in
      let s = (at_is _ _ _ _).0 (sym (receivers_same 1 r w.0 (λ z. omega arith) j g p k h q) ∙ e) in
      above_self r.rank (point_at r k) (point_at r j)
      (receivers_rise r ten j k l h ((point_is r j).0 p) ((point_is r k).0 q)) s.0 s.1.0 s.1.1

module _ (r : Sheet) (o : List ℕ) (w : KnownReceivers r) (v : Rows r o) where
  pub row_point : (e : ℕ) → e < length o → is_point r (nth o e) ≡ true
  row_point e h = sym (takes_receiver r (nth o e) (v.own e h)) ∙ v.part e h

  pub rises : Rising (row_value r o) (length o)
  rises =
      value_climbs (takes_at Receivers r) (key_at Receivers r) o (length o) r.count
      (record { second = λ k. (key_small 1 r w.0 k Receivers).0; third = λ k. (key_small 1 r w.0 k Receivers).1 })
      (few_lines r.count w.0.few) v (apart r w)

  row_digits : (e : ℕ) → Digits (key_at Receivers r (nth o e))
  row_digits e = key_small 1 r w.0 (nth o e) Receivers

  -- a row is below each that stands behind it
  row_behind : (i j : ℕ) → i < j → j < length o → Below (key_at Receivers r (nth o i)) (key_at Receivers r (nth o j))
  row_behind i j h l =
      (below_is _ _).0
      (less_value (key_at Receivers r (nth o i)) (key_at Receivers r (nth o j)) (row_digits i) (row_digits j)
      ∙ lt-ltb _ _ (rises i j h l))

  -- against a key y
  module _ (y : Key) where
    pub row_same : Digits y → (e : ℕ) → is_row r o y e ≡ eqb (row_value r o e) (value y)
    unfolding is_row
    row_same s e = same_test (key_at Receivers r (nth o e)) y (row_digits e) s

    not_below_is : (e : ℕ) → (not_below r o y e ≡ true) ↔ (Below (key_at Receivers r (nth o e)) y → ⊥)
    unfolding not_below
    not_below_is e =
        let a = not_is (less_or (key_at Receivers r (nth o e)) y false) in
        let b = below_is (key_at Receivers r (nth o e)) y in
        (λ t l. a.0 t (b.1 l), λ f. a.1 (λ t. f (b.0 t)))

    pub up : Up (length o) (not_below r o y)
    up i j h l t =
        ⊎_elim (λ (z : i ≡ j). ap (not_below r o y) (sym z) ∙ t)
        (λ (z : i < j).
        (not_below_is j).1 (λ b. (not_below_is i).0 t (below_join _ (key_at Receivers r (nth o j)) y (row_behind i j z l) b)))
        (eq-or-lt_of_le h)

    module _ (e : ℕ) (first : e ≡ least (length o) (not_below r o y)) where
      only : (i : ℕ) → i < length o → is_row r o y i ≡ true → i ≡ e
      unfolding is_row
      only i h t =
          let p : not_below r o y i ≡ true = (not_below_is i).1 (below_self _ y t) in
          let f = least_there (length o) i (not_below r o y) h p in
          let g : e < length o = omega (arith, f.0) in
          let u : i < e → ⊥ = λ l. f.2 i (omega arith) p in
          let z : e < i → ⊥
          = λ l. (not_below_is e).0 (ap (not_below r o y) first ∙ f.1) (below_same _ (key_at Receivers r (nth o i)) y t (row_behind e i l h)) in
          omega arith

      pub row_none : e ≡ length o → e ≡ row_of r o y
      unfolding row_of
      row_none g = g ∙ sym (least_none (length o) (is_row r o y) (λ i h t. omega (arith, only i h t)))

      pub row_here : (e ≡ length o → ⊥) → (t : Bool) → t ≡ is_row r o y e → t ≡ true → e ≡ row_of r o y
      unfolding row_of
      row_here g t q z =
          let b = least_below (length o) (not_below r o y) in
          sym (least_first (length o) e (is_row r o y) (omega arith, sym q ∙ z, λ i l u. omega (arith, only i (omega arith) u)))

      pub row_other : (t : Bool) → t ≡ is_row r o y e → t ≡ false → length o ≡ row_of r o y
      unfolding row_of
      row_other t q z =
          sym (least_none (length o) (is_row r o y) (λ i h u. clash (sym z ∙ q ∙ ap (is_row r o y) (sym (only i h u)) ∙ u)))

      -- a row that can be looked at
      pub row_first : (e ≡ length o → ⊥) → e < length o
      row_first g = let b = least_below (length o) (not_below r o y) in omega arith
