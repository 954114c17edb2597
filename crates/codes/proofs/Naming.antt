-- What is noted of the header decides 24 and 25, and which line names a code.
--   names_by                  = a line names a code where it has its place
--   noted_none, noted_more, noted_same = the noting of one header line after another
--   once_met, once_none, once_broken   = 24 of a line, by what is noted of those before it
--   used_is                   = 25 of a line, by what is noted of all
--   naming_at, naming_end     = the first line that names a code
use Prim.Native.Nat.{ℕ, zero, suc, ◌+◌, ◌-◌, ◌≤◌, ◌<◌}
use native.Mathlib.Numerals.{add-one}
use native.Mathlib.Omega.{arith}
use mathlib.Core.Path.{◌≡◌, refl, sym, ap, subst, fun_ext, ◌∙◌}
use mathlib.Core.Bool.{Bool, true, false, not, ◌&&◌, ◌||◌, or-true, or-false}
use mathlib.Core.List.{List, [], ◌∷◌}
use lib.Dec.{eqb, ltb, lit≤}
use lib.ListN.{length, get_or, set, replicate, length-set, length-replicate, get_or-eq_default}
use lib.Seq.{get_or-set_same, get_or-set_other}
use borrow.Author.Tests.{eqb-true, eq-eqb, ne_eqb, ltb-true, lt-ltb, le-ltb}
use Rattle.rules.specs.Places.{pick, some, least}
use Rattle.rules.specs.Plan.{fine, refused, №, Refusal, file_x, need, when, run}
use Rattle.rules.specs.Layout.{Layout, sps93, at}
use Rattle.rules.specs.Sheet.{Sheet}
use Rattle.rules.specs.Lines.{is_data, heads}
use Rattle.rules.specs.Points.{point_at, point}
use Rattle.rules.specs.Relations.{relation_at}
use Rattle.rules.specs.Codes.{tables_of, names, named, named_before, rule24, used_code, line_naming}
use Rattle.rules.proofs.Tests.{clash, agree, yes_no, and_is, not_is, every_is, some_is}
use Rattle.lines.proofs.Sheets.{layout_is}
use Rattle.headers.proofs.Laws.{heads_below}
use Rattle.rules.proofs.Steps.{none_yet, one_more, stops_here, least_none_yet, least_more}
use Rattle.rules.proofs.Steps.{need_met, need_broken, when_off, when_on, every_stop, least_stop}
use Rattle.fields.proofs.Codes.{two_columns}
use Rattle.codes.specs.Named.{Kind, place_of, place_for, place_on, place_used, is_noted, allowed, Noted}
use Rattle.codes.proofs.Placed.{equal_places, place_few, code_bytes, placed, names_placed}

off : (t : Bool) → (t ≡ true → ⊥) → t ≡ false
off true n = absurd (n refl)
off false n = refl

module _ (r : Sheet) (y : r.layout ≡ sps93) where
  abbrev place : ℕ → ℕ
  place j = place_on sps93 (r.row j)

  -- of a code of two bytes
  module _ (i b d : ℕ) (k : Kind i) (t : (tables_of i).is_code (b ∷ d ∷ []) ≡ true) where
    abbrev has : ℕ → Bool
    has j = eqb (place j) (place_of i (b ∷ d ∷ []))

    pub names_by : (λ j. names r.layout i (b ∷ d ∷ []) (r.row j)) ≡ has
    names_by =
        ap (λ (L : Layout). λ (j : ℕ). names L i (b ∷ d ∷ []) (r.row j)) y
        ∙ fun_ext (λ j.
        let n = names_placed (r.row j) i b d k in
        agree _ _ (λ u. eq-eqb _ _ (n.0 u).1) (λ u. n.1 (t, eqb-true _ _ u)))

    named_by : named r i (b ∷ d ∷ []) ≡ some (heads r) has
    unfolding named
    named_by = ap (some (heads r)) names_by

    -- the first line that names it
    naming_here : (j : ℕ) → j < heads r → least j has ≡ j → has j ≡ true → j + 1 ≡ line_naming r i (b ∷ d ∷ [])
    unfolding line_naming pick
    naming_here j h e u =
        let q : least (heads r) (λ j. names r.layout i (b ∷ d ∷ []) (r.row j)) ≡ j =
        ap (least (heads r)) names_by ∙ least_stop has j (heads r) h e u in
        rw (q, lt-ltb j (heads r) h)

    naming_none : (n : ℕ) → n ≡ heads r → least n has ≡ n → 0 ≡ line_naming r i (b ∷ d ∷ [])
    unfolding line_naming pick
    naming_none n z e =
        let q : least (heads r) (λ j. names r.layout i (b ∷ d ∷ []) (r.row j)) ≡ heads r =
        ap (least (heads r)) names_by ∙ subst (λ (m : ℕ). least m has ≡ m) z e in
        rw (q, le-ltb (heads r) (heads r) (omega arith))

  -- the same by the place that the code has at hand
  module _ (i b d : ℕ) (k : Kind i) (t : (tables_of i).is_code (b ∷ d ∷ []) ≡ true) (p : ℕ) (e : p ≡ place_for i (b ∷ d ∷ [])) where
    at_hand : p ≡ place_of i (b ∷ d ∷ [])
    unfolding pick
    at_hand = e ∙ (rw t)

    alike : (λ j. eqb (place j) p) ≡ has i b d k t
    alike = ap (λ (q : ℕ). λ (j : ℕ). eqb (place j) q) at_hand

    pub naming_at : (j : ℕ) → j < heads r → least j (λ j. eqb (place j) p) ≡ j → place j ≡ p → j + 1 ≡ line_naming r i (b ∷ d ∷ [])
    naming_at j h q z =
        naming_here i b d k t j h (ap (least j) (sym alike) ∙ q) (eq-eqb _ _ (z ∙ at_hand))

    pub naming_end : (n : ℕ) → n ≡ heads r → least n (λ j. eqb (place j) p) ≡ n → 0 ≡ line_naming r i (b ∷ d ∷ [])
    naming_end n z q = naming_none i b d k t n z (ap (least n) (sym alike) ∙ q)

  -- nothing is noted yet
  none : (n p : ℕ) → get_or (replicate n false) p false ≡ false
  none zero p = refl
  none (suc n) zero = refl
  none (suc n) (suc p) = none n p

  pub noted_none : (a : List Bool) → a ≡ replicate 243 false → Noted r 0 a
  unfolding some
  noted_none a e = record { size = ap length e ∙ length-replicate {A = Bool} 243 false; at = λ p h. rw (e, none 243 p) }

  module _ (k : ℕ) (a : List Bool) (w : Noted r k a) where
    beyond : (p : ℕ) → 243 ≤ p → is_noted a p ≡ false
    beyond p h = let s = w.size in get_or-eq_default a false {n = p} (omega arith)

    -- line k has place p
    module _ (p : ℕ) (e : p ≡ place k) where
      one : (q : ℕ) → some (k + 1) (λ j. eqb (place j) q) ≡ (some k (λ j. eqb (place j) q) || eqb p q)
      unfolding some
      one q = rw (add-one k, e)

      pub noted_same : 243 ≤ p → Noted r (k + 1) a
      noted_same h =
          record {
            size = w.size;
            at = λ q g. w.at q g ∙ sym (one q ∙ (rw (ne_eqb p q (λ x. omega arith), or-false (some k (λ j. eqb (place j) q)))));
          }

      pub noted_more : p < 243 → Noted r (k + 1) (set a p true)
      noted_more h =
          let s = w.size in
          record { size = length-set a p true ∙ s; at = λ q g. within q g (eqb p q) refl }
        where
          within : (q : ℕ) → q < 243 → (t : Bool) → eqb p q ≡ t → is_noted (set a p true) q ≡ some (k + 1) (λ j. eqb (place j) q)
          within q g true u =
              let s = w.size in
              let x = eqb-true p q u in
              ap (λ (q : ℕ). get_or (set a p true) q false) (sym x) ∙ get_or-set_same a p true false (omega arith)
              ∙ sym (one q ∙ (rw (u, or-true (some k (λ j. eqb (place j) q)))))
          within q g false u =
              let m : q ≡ p → ⊥ = λ x. clash (sym u ∙ eq-eqb p q (sym x)) in
              get_or-set_other a p q true false m ∙ w.at q g
              ∙ sym (one q ∙ (rw (u, or-false (some k (λ j. eqb (place j) q)))))

      -- 24 of line k
      pub once_met : is_noted a p ≡ false → fine ≡ run (rule24 r k)
      unfolding rule24 named_before
      once_met n =
          need_met _ _ ((every_is 3 (λ i. not (named_before r k (suc i)))).1 (λ i h. (not_is (named_before r k (suc i))).1 (λ t.
          let c = at (r.row k) r.layout.header_code in
          let v = (and_is (names r.layout (suc i) c (r.row k)) _).0 t in
          let u = (some_is k (λ j. names r.layout (suc i) c (r.row j))).0 v.1 in
          absurd (twice (suc i) (omega arith, omega arith) (subst (λ (L : Layout). names L (suc i) (at (r.row k) L.header_code) (r.row k) ≡ true) y v.0)
          u.0 u.1 (subst (λ (L : Layout). names L (suc i) (at (r.row k) L.header_code) (r.row u.0) ≡ true) y u.2)))))
        where
          twice : (i : ℕ) → Kind i → names sps93 i (at (r.row k) sps93.header_code) (r.row k) ≡ true
              → (j : ℕ) → j < k → names sps93 i (at (r.row k) sps93.header_code) (r.row j) ≡ true → ⊥
          twice i m s j h t =
              let c = code_bytes (r.row k) in
              let v = (names_placed (r.row k) i _ _ m).0 (subst (λ (c : List ℕ). names sps93 i c (r.row k) ≡ true) c s) in
              let u = (names_placed (r.row j) i _ _ m).0 (subst (λ (c : List ℕ). names sps93 i c (r.row j) ≡ true) c t) in
              let f = place_few i _ _ v.0 in
              let z : p ≡ place_of i (get_or (r.row k) 32 0 ∷ get_or (r.row k) 33 0 ∷ []) = e ∙ v.1 in
              clash (sym n ∙ w.at p (omega arith) ∙ (some_is k (λ j. eqb (place j) p)).1 (j, h, eq-eqb _ _ (u.1 ∙ sym z)))

      pub once_none : 243 ≤ p → fine ≡ run (rule24 r k)
      once_none h = once_met (beyond p h)

      column : refused (№ 24 1 (k + 1) 33) ≡ refused (№ 24 1 (k + 1) r.layout.header_code.first)
      unfolding sps93
      column = rw y

      again : (i : ℕ) → Kind i → names sps93 i (at (r.row k) sps93.header_code) (r.row k) ≡ true → (j : ℕ) → j < k
          → place j ≡ place_of i (at (r.row k) sps93.header_code) → named_before r k i ≡ true
      unfolding named_before
      again i m s j h q =
          let c = code_bytes (r.row k) in
          let v = (names_placed (r.row k) i _ _ m).0 (subst (λ (c : List ℕ). names sps93 i c (r.row k) ≡ true) c s) in
          let t = (names_placed (r.row j) i _ _ m).1 (v.0, q ∙ ap (place_of i) c) in
          (and_is _ _).1 (
            subst (λ (L : Layout). names L i (at (r.row k) L.header_code) (r.row k) ≡ true) (sym y) s,
            (some_is k _).1 (
              j,
              h,
              subst (λ (L : Layout). names L i (at (r.row k) L.header_code) (r.row j) ≡ true) (sym y)
                  (subst (λ (c : List ℕ). names sps93 i c (r.row j) ≡ true) (sym c) t),
            ),
          )

      pub once_broken : is_noted a p ≡ true → refused (№ 24 1 (k + 1) 33) ≡ run (rule24 r k)
      unfolding rule24
      once_broken n =
          let few : p < 243 =
          yes_no (ltb p 243) (ltb-true p 243) (λ t. clash (sym (beyond p (let m : p < 243 → ⊥ = λ h. t (lt-ltb p 243 h) in omega arith)) ∙ n)) in
          let u = (some_is k (λ j. eqb (place j) p)).0 (sym (w.at p few) ∙ n) in
          let v = placed (r.row k) (subst (λ (q : ℕ). q < 243) e few) in
          let q : place u.0 ≡ place_of v.0 (at (r.row k) sps93.header_code) = eqb-true _ _ u.2 ∙ e ∙ v.3 in
          let h = v.1.0 in
          let g = v.1.1 in
          let z : v.0 ≡ suc (v.0 - 1) = omega arith in
          column
          ∙ need_broken _ _
          (every_stop (λ i. not (named_before r k (suc i))) (v.0 - 1) 3 (omega arith)
          (ap not (subst (λ (i : ℕ). named_before r k i ≡ true) z (again v.0 v.1 v.2 u.0 u.1 q))))

  -- 25 of line k of file i, by what is noted of the whole header
  module _ (a : List Bool) (w : Noted r (heads r) a) (i : ℕ) (m : Kind i) (f : Sheet) (x : f.layout ≡ sps93) (k : ℕ) where
    abbrev c : List ℕ
    c = used_code i f k

    two_bytes : (b : ℕ) × (d : ℕ) × (c ≡ b ∷ d ∷ [])
    unfolding used_code pick point_at point at sps93
    two_bytes =
        yes_no (eqb i file_x)
        (λ t. (48 + (relation_at f k).instrument, 44, rw t))
        (λ t. (
          get_or (f.row k) 26 0,
          get_or (f.row k) 27 0,
          (rw (off _ t)) ∙ ap (λ (L : Layout). at (f.row k) L.code) x ∙ two_columns (f.row k) 27 (lit≤ tt),
        ))

    -- of a code: it is noted exactly where it is named
    named_noted : (tables_of i).is_code c ≡ true → allowed a (place_of i c) ≡ named r i c
    named_noted t =
        let b = two_bytes.0 in
        let d = two_bytes.1 in
        let q = two_bytes.2 in
        let u : (tables_of i).is_code (b ∷ d ∷ []) ≡ true = subst (λ (c : List ℕ). (tables_of i).is_code c ≡ true) q t in
        let h = place_few i b d u in
        let s = w.size in
        subst (λ (c : List ℕ). allowed a (place_of i c) ≡ named r i c) (sym q)
        ((rw (lt-ltb (place_of i (b ∷ d ∷ [])) (length a) (omega arith))) ∙ w.at _ h ∙ sym (named_by i b d m u))

    none_used : allowed a 243 ≡ true
    none_used = let s = w.size in rw (le-ltb 243 (length a) (omega arith))

    pub used_is : (v : Refusal) → run (need (allowed a (place_used i f k)) v) ≡ run (when (is_data f k && (tables_of i).is_code c) (need (named r i c) v))
    unfolding place_used pick
    used_is v = go (is_data f k) ((tables_of i).is_code c) refl
      where
        go : (s t : Bool) → (tables_of i).is_code c ≡ t
            → run (need (allowed a (pick s (pick t (place_of i c) 243) 243)) v) ≡ run (when (s && t) (need (named r i c) v))
        go false t e = sym (need_met _ v none_used) ∙ when_off false (need (named r i c) v) refl
        go true false e = sym (need_met _ v none_used) ∙ when_off false (need (named r i c) v) refl
        go true true e = ap (λ (b : Bool). run (need b v)) (named_noted e) ∙ when_on true (need (named r i c) v) refl

-- what the check goes by in each function
pub ruleset noted_walk = (heads_below, layout_is, none_yet, one_more, stops_here, noted_none, noted_more, noted_same, once_met, once_none, once_broken)

pub ruleset naming_walk = (heads_below, layout_is, equal_places, least_none_yet, least_more, naming_at, naming_end)
