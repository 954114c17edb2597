-- 18 by two looks, and where the receivers of a relation line stand.
--   key_on x k n    = the key of its receiver number n
--   stand          = where each is there, they stand in rows that follow each other
--   inside, row_line_lem, rows_covered = so the rows of its receivers are those from the first on, as many as they are
--   too_few, last_tells = what the two looks tell
use Prim.Native.Nat.{ℕ, ◌+◌, ◌-◌, ◌≤◌, ◌<◌}
use native.Mathlib.Omega.{arith}
use mathlib.Core.Path.{◌≡◌, sym, ap, subst, ◌∙◌}
use mathlib.Core.Logic.{⊎_elim}
use mathlib.Core.Bool.{Bool, true, false, ◌&&◌}
use mathlib.Core.List.{List}
use lib.Dec.{eqb, leb, ltb}
use lib.ListN.{length}
use borrow.Author.Tests.{eqb-true, eq-eqb}
use Rattle.rules.specs.Names.{same_name}
use Rattle.rules.specs.Sheet.{Sheet}
use Rattle.rules.specs.Points.{point_at, is_at}
use Rattle.rules.specs.Relations.{Reach, reach_at}
use Rattle.rules.specs.Places.{some}
use Rattle.rules.specs.Cover.{lowest, highest, receivers, covers}
use Rattle.rules.specs.MeetsCover.{Covers}
use Rattle.rules.specs.Order.{is_point_at, receiver_line, receivers_there}
use Rattle.rules.proofs.Tests.{and_is, some_is, leb_is, ltb_is, same_name_is, agree}
use Rattle.rules.proofs.Least.{least_is, least_there, least_below}
use Rattle.rules.proofs.Form.{point_is}
use Rattle.rules.proofs.Order.{at_is}
use Rattle.rules.proofs.Accepted.{receiver_line_lem}
use Rattle.rules.proofs.Cover.{covers_is, every_receiver}
use Rattle.lines.proofs.Tests.{untrue}
use Rattle.form.specs.Known.{owned, Known}
use Rattle.form.proofs.Known.{from_receiver_small, to_receiver_small}
use Rattle.keys.specs.declared.Key.{Key}
use Rattle.keys.specs.Held.{RelationLine, KnownReceivers}
use Rattle.keys.specs.Keys.{receiver_key}
use Rattle.keys.proofs.Lines.{takes_receiver}
use Rattle.keys.proofs.Points.{receiver_is}
use Rattle.keys.proofs.Fit.{asked_small}
use Rattle.order.specs.Sorted.{nth, value}
use Rattle.receivers.specs.Rows.{Rows, is_row, row_of, first_row}
use Rattle.receivers.proofs.Values.{pair_more}
use Rattle.receivers.proofs.Rising.{one_place, stands, between}
use Rattle.receivers.proofs.Rows.{row_value, ten, row_point, rises, row_same}

abbrev pub key_on : Sheet → ℕ → ℕ → Key
key_on x k n = receiver_key x.layout (owned x k) n

-- a number that is d more makes a key whose number is d more
key_more : (x : Sheet) (k n d : ℕ) → value (key_on x k (n + d)) ≡ value (key_on x k n) + d
unfolding receiver_key value
key_more x k n d = pair_more 18446744073709551616 _ _ n d

-- a number between two others, counted from the lower
gap : (lo hi n e m : ℕ) → lo ≤ n → n ≤ hi → hi - lo < m - e → (n - lo < hi - lo + 1) × (lo + (n - lo) ≡ n) × (e + (n - lo) < m) × (n - lo ≤ hi - lo)
gap lo hi n e m a b l = (omega arith, omega arith, omega arith, omega arith)

module _ (r : Sheet) (o : List ℕ) (w : KnownReceivers r) (v : Rows r o) (x : Sheet) (k : ℕ) (wx : Known 3 x)
    (alike : r.rank ≡ x.rank) (lx : RelationLine x k) where
  abbrev q : Reach
  q = reach_at x k

  -- the number of its lowest receiver's key
  abbrev base : ℕ
  base = value (key_on x k (lowest q))

  pub some_receiver : 1 ≤ receivers q
  unfolding receivers
  some_receiver = omega arith

  few : (d : ℕ) → d < receivers q → lowest q + d < 4294967296
  unfolding receivers
  few d h = omega (arith, to_receiver_small 3 x wx k lx.0, from_receiver_small 3 x wx k lx.0)

  -- its receivers are the numbers from the lowest on
  within : (d : ℕ) → d < receivers q → Covers q (lowest q + d)
  unfolding receivers
  within d h = (omega arith, omega arith)

  -- row e has the receiver that is d after the first where its number is d more
  look_is : (d e : ℕ) → d < receivers q → is_row r o (key_on x k (lowest q + d)) e ≡ eqb (row_value r o e) (base + d)
  look_is d e h =
      row_same r o w v (key_on x k (lowest q + d)) (asked_small 3 x wx k lx.0 (lowest q + d) (few d h)) e
      ∙ ap (eqb (row_value r o e)) (key_more x k (lowest q) d)

  row_is : (d e : ℕ) → d < receivers q → e < length o
      → is_at q.receiver (lowest q + d) q.receiver_index (point_at r (nth o e)) ≡ eqb (row_value r o e) (base + d)
  unfolding is_row
  row_is d e h l =
      sym
      (receiver_is 1 r w.0 (λ z. omega arith) (nth o e) (v.own e l) (row_point r o w v e l) x wx alike k lx.0 lx.1
      (lowest q + d) (few d h))
      ∙ look_is d e h

  all_rows : receivers_there r q ≡ true → (d : ℕ) → d < receivers q → (j : ℕ) × (j < length o) × (row_value r o j ≡ base + d)
  unfolding receivers_there is_point_at
  all_rows t d h =
      let s = (some_is r.count _).0 ((every_receiver q (λ n. some r.count (is_point_at r q.receiver n q.receiver_index))).0 t (lowest q + d)
      (within d h)) in
      let a = (and_is _ _).0 s.2 in
      let p = v.placed s.0 s.1 (takes_receiver r s.0 s.1 ∙ a.0) in (
        p.place,
        p.inside,
        eqb-true _ _
            (sym (row_is d p.place h p.inside)
            ∙ ap (λ (j : ℕ). is_at q.receiver (lowest q + d) q.receiver_index (point_at r j)) p.back
            ∙ a.1),
      )

  first_look : lowest q < 4294967296 → (e : ℕ) → is_row r o (key_on x k (lowest q)) e ≡ true → row_value r o e ≡ base
  first_look z e t =
      eqb-true _ _ (sym (row_same r o w v (key_on x k (lowest q)) (asked_small 3 x wx k lx.0 (lowest q) z) e) ∙ t)

  first_value : first_row r o x k < length o → row_value r o (first_row r o x k) ≡ base
  unfolding first_row row_of
  first_value h =
      let z : lowest q < 4294967296 = omega (arith, few 0 some_receiver) in
      ⊎_elim (λ f. first_look z _ f.1)
      (λ f. absurd (let g = f.0 in omega arith))
      (least_is (length o) (is_row r o (key_on x k (lowest q))))

  first_inside : receivers_there r q ≡ true → first_row r o x k < length o
  unfolding first_row row_of
  first_inside t =
      let a = all_rows t 0 some_receiver in
      let z : lowest q + 0 ≡ lowest q = omega arith in
      (least_there (length o) a.0 (is_row r o (key_on x k (lowest q))) a.1
      (subst (λ (n : ℕ). is_row r o (key_on x k n) a.0 ≡ true) z (look_is 0 a.0 some_receiver ∙ eq-eqb _ _ a.2))
      ).0

  -- where each is there
  module _ (t : receivers_there r q ≡ true) where
    pub stand : (d : ℕ) → d < receivers q → (first_row r o x k + d < length o) × (row_value r o (first_row r o x k + d) ≡ base + d)
    stand =
        stands (row_value r o) (length o) (rises r o w v) (first_row r o x k) base (first_inside t) (first_value (first_inside t))
        (receivers q) (all_rows t)

    pub inside : first_row r o x k + receivers q ≤ length o
    inside = let s = some_receiver in omega (arith, (stand (receivers q - 1) (omega arith)).0)

    at_row : (d : ℕ) → d < receivers q
        → is_at q.receiver (lowest q + d) q.receiver_index (point_at r (nth o (first_row r o x k + d))) ≡ true
    at_row d h = let s = stand d h in row_is d (first_row r o x k + d) h s.0 ∙ eq-eqb _ _ s.1

    pub row_line_lem : (d : ℕ) → d < receivers q → nth o (first_row r o x k + d) ≡ receiver_line r q (lowest q + d)
    row_line_lem d h =
        let l = (stand d h).0 in
        let e : ℕ = first_row r o x k + d in
        sym
        (receiver_line_lem r (ten r w) q (lowest q + d) (nth o e) (v.own e l)
        ((point_is r (nth o e)).0 (row_point r o w v e l), (at_is _ _ _ _).0 (at_row d h)))

    module _ (ρ : ℕ) (l : ρ < length o) where
      covered_in_lem : same_name q.receiver (point_at r (nth o ρ)).name ≡ true → eqb q.receiver_index (point_at r (nth o ρ)).index ≡ true
          → covers q (point_at r (nth o ρ)).number ≡ true → (d : ℕ) × (d < receivers q) × (ρ ≡ first_row r o x k + d)
      unfolding receivers
      covered_in_lem a b c =
          let n : ℕ = (point_at r (nth o ρ)).number in
          let h = (covers_is q n).0 c in
          let d : ℕ = n - lowest q in
          let g : d < receivers q = omega arith in
          let f : is_at q.receiver (lowest q + d) q.receiver_index (point_at r (nth o ρ)) ≡ true
          = (at_is _ _ _ _).1 (sym ((same_name_is _ _).0 a), (omega arith, sym (eqb-true _ _ b))) in
          let s = stand d g in
          let y : row_value r o ρ ≡ base + d = eqb-true _ _ (sym (row_is d ρ g l) ∙ f) in
          (d, g, one_place (row_value r o) (length o) (rises r o w v) ρ (first_row r o x k + d) l s.0 (y ∙ sym s.1))

      covered_out : first_row r o x k ≤ ρ → ρ < first_row r o x k + receivers q
          → (same_name q.receiver (point_at r (nth o ρ)).name ≡ true)
          × ((eqb q.receiver_index (point_at r (nth o ρ)).index ≡ true) × (covers q (point_at r (nth o ρ)).number ≡ true))
      unfolding receivers
      covered_out a b =
          let d : ℕ = ρ - first_row r o x k in
          let g : d < receivers q = omega arith in
          let z : first_row r o x k + d ≡ ρ = omega arith in
          let f = (at_is _ _ _ _).0 (subst (λ (e : ℕ). is_at q.receiver (lowest q + d) q.receiver_index (point_at r (nth o e)) ≡ true) z (at_row d g)) in
          let n = f.1.0 in (
            (same_name_is _ _).1 (sym f.0),
            (eq-eqb _ _ (sym f.1.1), (covers_is q _).1 (omega arith, omega arith)),
          )

      pub rows_covered : (same_name q.receiver (point_at r (nth o ρ)).name
          && (eqb q.receiver_index (point_at r (nth o ρ)).index && covers q (point_at r (nth o ρ)).number))
          ≡ (leb (first_row r o x k) ρ && ltb ρ (first_row r o x k + receivers q))
      rows_covered =
          agree _ _
          (λ u.
          let a = (and_is _ _).0 u in
          let b = (and_is _ _).0 a.1 in
          let c = covered_in_lem a.0 b.0 b.1 in
          let g = c.1 in
          let z = c.2 in
          (and_is _ _).1 ((leb_is (first_row r o x k) ρ).1 (omega arith), (ltb_is ρ (first_row r o x k + receivers q)).1 (omega arith)))
          (λ u.
          let a = (and_is _ _).0 u in
          let c = covered_out ((leb_is _ _).0 a.0) ((ltb_is _ _).0 a.1) in
          (and_is _ _).1 (c.0, (and_is _ _).1 c.1))

  pub first_below : first_row r o x k ≤ length o
  unfolding first_row row_of
  first_below = least_below (length o) (is_row r o (key_on x k (lowest q)))

  -- the two looks
  module _ (e : ℕ) (first : e ≡ first_row r o x k) where
    module _ (low high : ℕ) (el : low ≡ lowest q) (eh : high ≡ highest q) where
      pub too_few : length o - e ≤ high - low → false ≡ receivers_there r q
      unfolding receivers
      too_few g = sym (untrue _ (λ t. omega (arith, inside t)))

      module _ (g : e ≡ length o → ⊥) (l : high - low < length o - e) where
        far : high - low < receivers q
        unfolding receivers
        far = omega arith

        here : row_value r o e ≡ base
        here = ap (row_value r o) first ∙ first_value (omega arith)

        -- the lowest and the highest leave no gap
        both : row_value r o (e + (high - low)) ≡ base + (high - low) → receivers_there r q ≡ true
        unfolding receivers_there is_point_at receivers
        both last =
            (every_receiver q (λ n. some r.count (is_point_at r q.receiver n q.receiver_index))).1
            (λ n c.
            let y : highest q - lowest q < length o - e = rw (← el, ← eh) l in
            let g = gap (lowest q) (highest q) n e (length o) c.0 c.1 y in
            let d : ℕ = n - lowest q in
            let i : e + d < length o = g.2 in
            let u : d ≤ high - low = rw (el, eh) g.3 in
            let s = between (row_value r o) (length o) (rises r o w v) e base (omega arith) here (high - low) (omega arith) last d u in
            (some_is r.count _).1 (
              nth o (e + d),
              v.own (e + d) i,
              (and_is _ _).1 (
                row_point r o w v (e + d) i,
                subst (λ (m : ℕ). is_at q.receiver m q.receiver_index (point_at r (nth o (e + d))) ≡ true) g.1
                    (row_is d (e + d) g.0 i ∙ eq-eqb _ _ s),
              ),
            ))

        pub last_tells : (y : Key) → y ≡ key_on x k high → (t : Bool) → t ≡ is_row r o y (e + (high - low)) → t ≡ receivers_there r q
        last_tells y b t a =
            let z : high ≡ lowest q + (high - low) = omega arith in
            a
            ∙ ap (λ (y : Key). is_row r o y (e + (high - low))) (b ∙ ap (key_on x k) z)
            ∙ agree _ _ (λ u. both (eqb-true _ _ (sym (look_is (high - low) (e + (high - low)) far) ∙ u)))
            (λ t.
            let s = (stand t (high - low) far).1 in
            look_is (high - low) (e + (high - low)) far
            ∙ eq-eqb _ _ (subst (λ (i : ℕ). row_value r o (i + (high - low)) ≡ base + (high - low)) (sym first) s))
