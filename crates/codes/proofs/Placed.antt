-- A place tells its code, and the place of a header line tells what it names.
--   equal_places, one_place = places that are at hand are the same exactly where their numbers are
--   code_told      = what is no code has no place
--   place_one      = two codes in one place are one, of one kind
--   names_placed   = a header line names a code exactly where it has its place
--   placed         = a header line that has a place names the code that stands in it
use Prim.Native.Nat.{ℕ, ◌+◌, ◌-◌, ◌*◌, ◌/◌, ◌%◌, ◌≤◌, ◌<◌}
use native.Mathlib.Omega.{arith}
use mathlib.Core.Path.{◌≡◌, refl, sym, ap, ap₂, subst, ◌∙◌}
use mathlib.Core.Logic.{◌↔◌, ◌⊎◌, inl, inr, ⊎_elim}
use mathlib.Core.Bool.{Bool, true, false}
use mathlib.Core.List.{List, [], ◌∷◌}
use lib.Dec.{eqb, lit≤}
use lib.ListN.{get_or}
use borrow.Author.Tests.{eqb-true, eq-eqb, ne_eqb}
use Rattle.rules.specs.Places.{pick}
use Rattle.rules.specs.Plan.{file_r, file_x}
use Rattle.rules.specs.Text.{col, same}
use Rattle.rules.specs.Layout.{sps93, at}
use Rattle.rules.specs.Headers.{two_digits}
use Rattle.rules.specs.Codes.{tables_of, three_digits, opens, names}
use Rattle.rules.specs.MeetsFields.{OneOf, Family}
use Rattle.rules.proofs.Tests.{yes_no, and_is, pick_is, same_is, some_is}
use Rattle.rules.proofs.Codes.{code_of}
use Rattle.fields.proofs.Codes.{two_columns}
use Rattle.std.specs.Prelude.{Option, Some, None, IfSome, is_some}
use Rattle.std.specs.Option.{option_eq}
use Rattle.codes.specs.Named.{Kind, place_or, place_of, place_for, kind_on, place_on}

-- the letters of receivers, and of sources
receiver_letters : (b : ℕ) → OneOf "GHR" b → (71 ≤ b) × (b ≤ 82)
receiver_letters b (inl e) = let z : b ≡ 71 = e in (omega arith, omega arith)
receiver_letters b (inr (inl e)) = let z : b ≡ 72 = e in (omega arith, omega arith)
receiver_letters b (inr (inr (inl e))) = let z : b ≡ 82 = e in (omega arith, omega arith)
receiver_letters b (inr (inr (inr e))) = elim e [ ]

source_letters : (b : ℕ) → OneOf "VEAWS" b → ((65 ≤ b) × (b ≤ 69)) ⊎ ((83 ≤ b) × (b ≤ 87))
source_letters b (inl e) = let z : b ≡ 86 = e in inr (omega arith, omega arith)
source_letters b (inr (inl e)) = let z : b ≡ 69 = e in inl (omega arith, omega arith)
source_letters b (inr (inr (inl e))) = let z : b ≡ 65 = e in inl (omega arith, omega arith)
source_letters b (inr (inr (inr (inl e)))) = let z : b ≡ 87 = e in inr (omega arith, omega arith)
source_letters b (inr (inr (inr (inr (inl e))))) = let z : b ≡ 83 = e in inr (omega arith, omega arith)
source_letters b (inr (inr (inr (inr (inr e))))) = elim e [ ]

pub capital : (i b : ℕ) → Family i b → (65 ≤ b) × (b ≤ 90)
capital i b w =
    yes_no (eqb i file_r)
    (λ t. let z = receiver_letters b (w.0 (eqb-true i file_r t)) in (omega (arith, z.0), omega (arith, z.1)))
    (λ t.
    ⊎_elim (λ z. (omega (arith, z.0), omega (arith, z.1))) (λ z. (omega (arith, z.0), omega (arith, z.1)))
    (source_letters b (w.1 (λ e. t (eq-eqb i file_r e)))))

mixed : (b : ℕ) → OneOf "GHR" b → OneOf "VEAWS" b → ⊥
mixed b r s =
    let p = receiver_letters b r in
    let q = p.0 in
    let h = p.1 in
    ⊎_elim (λ z. let u = z.1 in omega arith) (λ z. let u = z.0 in omega arith) (source_letters b s)

same_family : (i j b : ℕ) → Kind i → Kind j → (i ≡ 3 → ⊥) → (j ≡ 3 → ⊥) → Family i b → Family j b → i ≡ j
same_family i j b k m p q v w =
    yes_no (eqb i file_r)
    (λ t.
    let e = eqb-true i file_r t in
    yes_no (eqb j file_r) (λ u. e ∙ sym (eqb-true j file_r u)) (λ u. absurd (mixed b (v.0 e) (w.1 (λ z. u (eq-eqb j file_r z))))))
    (λ t.
    let n : i ≡ 1 → ⊥ = λ z. t (eq-eqb i file_r z) in
    yes_no (eqb j file_r) (λ u. absurd (mixed b (w.0 (eqb-true j file_r u)) (v.1 n)))
    (λ u.
    let o : j ≡ 1 → ⊥ = λ z. u (eq-eqb j file_r z) in
    let a = k.0 in
    let c = k.1 in
    let d = m.0 in
    let f = m.1 in
    omega arith))

-- what a code's place says
abbrev Instrument : ℕ → ℕ → ℕ → ℕ → Type 0
Instrument i b d p = (i ≡ 3) × (((49 ≤ b) × (b ≤ 57)) × ((d ≡ 44) × (p ≡ b - 49)))

abbrev Point : ℕ → ℕ → ℕ → ℕ → Type 0
Point i b d p = (i ≡ 3 → ⊥) × (Family i b × (((65 ≤ b) × (b ≤ 90)) × (((49 ≤ d) × (d ≤ 57)) × (p ≡ 9 + 9 * (b - 65) + (d - 49)))))

view : (i b d : ℕ) → (tables_of i).is_code (b ∷ d ∷ []) ≡ true
    → Instrument i b d (place_of i (b ∷ d ∷ [])) ⊎ Point i b d (place_of i (b ∷ d ∷ []))
unfolding pick col
view i b d t =
    let w = (code_of i (b ∷ d ∷ [])).0 t in
    yes_no (eqb i file_x)
    (λ x. let e = eqb-true i file_x x in let v = w.0 e in inl (e, (v.0, (v.1, (rw x)))))
    (λ x.
    let n : i ≡ 3 → ⊥ = λ z. x (eq-eqb i file_x z) in
    let v = w.1 n in
    inr (n, (v.0, (capital i b v.0, (v.1, (rw (ne_eqb i 3 n)))))))

pub place_few : (i b d : ℕ) → (tables_of i).is_code (b ∷ d ∷ []) ≡ true → place_of i (b ∷ d ∷ []) < 243
place_few i b d t =
    ⊎_elim
    (λ v. let h = v.1.0.1 in let e = v.1.1.1 in omega arith)
    (λ v.
    let h = v.1.1.0.1 in
    let g = v.1.1.1.0.1 in
    let e = v.1.1.1.1 in
    omega arith)
    (view i b d t)

-- places that the code has at hand, by their numbers
pub equal_places : (o q : Option ℕ) → IfSome o (λ p. p < 243) → IfSome q (λ p. p < 243) → option_eq eqb o q ≡ eqb (place_or o) (place_or q)
equal_places (Some p) (Some q) g h = refl
equal_places (Some p) None g h = sym (ne_eqb p 243 (λ e. omega arith))
equal_places None (Some q) g h = sym (ne_eqb 243 q (λ e. omega arith))
equal_places None None g h = refl

pub one_place : (o q : Option ℕ) → IfSome o (λ p. p < 243) → IfSome q (λ p. p < 243) → place_or o ≡ place_or q → o ≡ q
one_place (Some p) (Some q) g h e = ap Some e
one_place (Some p) None g h e = absurd (omega arith)
one_place None (Some q) g h e = absurd (omega arith)
one_place None None g h e = refl

pub code_told : (i b d : ℕ) (o : Option ℕ) → place_or o ≡ place_for i (b ∷ d ∷ []) → IfSome o (λ p. p < 243)
    → is_some o ≡ (tables_of i).is_code (b ∷ d ∷ [])
unfolding pick
code_told i b d o e h = go o ((tables_of i).is_code (b ∷ d ∷ [])) refl e h
  where
    go : (o : Option ℕ) (t : Bool) → (tables_of i).is_code (b ∷ d ∷ []) ≡ t → place_or o ≡ pick t (place_of i (b ∷ d ∷ [])) 243
        → IfSome o (λ p. p < 243) → is_some o ≡ t
    go (Some p) true q e h = refl
    go (Some p) false q e h = absurd (omega arith)
    go None true q e h = let g = place_few i b d q in absurd (omega arith)
    go None false q e h = refl

pub place_one : (i j b d c e : ℕ) → Kind i → Kind j → (tables_of i).is_code (b ∷ d ∷ []) ≡ true → (tables_of j).is_code (c ∷ e ∷ []) ≡ true
    → place_of i (b ∷ d ∷ []) ≡ place_of j (c ∷ e ∷ []) → (i ≡ j) × ((b ≡ c) × (d ≡ e))
place_one i j b d c e k m t u q = go (view i b d t) (view j c e u)
  where
    p : ℕ
    p = place_of i (b ∷ d ∷ [])

    o : ℕ
    o = place_of j (c ∷ e ∷ [])

    go : Instrument i b d p ⊎ Point i b d p → Instrument j c e o ⊎ Point j c e o → (i ≡ j) × ((b ≡ c) × (d ≡ e))
    go (inl v) (inl w) =
        let a = v.1.0.0 in
        let f = w.1.0.0 in
        let g = v.1.1.1 in
        let h = w.1.1.1 in
        let z : p ≡ o = q in
        (v.0 ∙ sym w.0, (omega arith, v.1.1.0 ∙ sym w.1.1.0))
    go (inl v) (inr w) =
        let a = v.1.0.1 in
        let g = v.1.1.1 in
        let h = w.1.1.1.1 in
        let z : p ≡ o = q in
        absurd (omega arith)
    go (inr v) (inl w) =
        let a = w.1.0.1 in
        let g = v.1.1.1.1 in
        let h = w.1.1.1 in
        let z : p ≡ o = q in
        absurd (omega arith)
    go (inr v) (inr w) =
        let a = v.1.1.0.0 in
        let a' = w.1.1.0.0 in
        let x = v.1.1.1.0.0 in
        let y = v.1.1.1.0.1 in
        let x' = w.1.1.1.0.0 in
        let y' = w.1.1.1.0.1 in
        let g = v.1.1.1.1 in
        let h = w.1.1.1.1 in
        let z : p ≡ o = q in
        let r : b ≡ c = omega arith in
        let s : d ≡ e = omega arith in
        (same_family i j b k m v.0 w.0 v.1.0 (subst (Family j) (sym r) w.1.0), (r, s))

-- the number of a first record tells its kind
abbrev Numbered : List ℕ → ℕ → ℕ → Type 0
Numbered l a b = (t : ℕ) × (at l sps93.header_number ≡ three_digits t) × (a ≤ t) × (t < b)

module _ (l : List ℕ) where
  of_receivers : opens sps93 1 l ≡ true → Numbered l 600 700
  unfolding opens tables_of pick
  of_receivers t = let w = (some_is _ _).0 t in let h = w.1 in (600 + 10 * w.0, (same_is _ _).0 w.2, omega arith, omega arith)

  of_sources : opens sps93 2 l ≡ true → Numbered l 700 900
  unfolding opens tables_of pick
  of_sources t = let w = (some_is _ _).0 t in let h = w.1 in (700 + 20 * w.0, (same_is _ _).0 w.2, omega arith, omega arith)

  of_instruments : opens sps93 3 l ≡ true → Numbered l 400 600
  unfolding opens tables_of pick
  of_instruments t = let w = (some_is _ _).0 t in let h = w.1 in (400 + 20 * w.0, (same_is _ _).0 w.2, omega arith, omega arith)

  digits_one : (t u : ℕ) → t < 1000 → u < 1000 → three_digits t ≡ three_digits u → t ≡ u
  unfolding three_digits two_digits
  digits_one t u h g e =
      let a : 48 + t / 100 ≡ 48 + u / 100 = cc in
      let b : 48 + t % 100 / 10 ≡ 48 + u % 100 / 10 = cc in
      let c : 48 + t % 100 % 10 ≡ 48 + u % 100 % 10 = cc in
      omega arith

  apart : (a b c d : ℕ) → b ≤ c → d ≤ 1000 → Numbered l a b → Numbered l c d → ⊥
  apart a b c d h g v w =
      let p = v.3 in
      let q = w.2 in
      let r = w.3 in
      let e = digits_one v.0 w.0 (omega arith) (omega arith) (sym v.1 ∙ w.1) in
      omega arith

  not_sources : opens sps93 1 l ≡ true → opens sps93 2 l ≡ true → ⊥
  not_sources t u = apart 600 700 700 900 (lit≤ tt) (lit≤ tt) (of_receivers t) (of_sources u)

  not_instruments : opens sps93 3 l ≡ true → (opens sps93 1 l ≡ true → ⊥) × (opens sps93 2 l ≡ true → ⊥)
  not_instruments t = (
    λ u. apart 400 600 600 700 (lit≤ tt) (lit≤ tt) (of_instruments t) (of_receivers u),
    λ u. apart 400 600 700 900 (lit≤ tt) (lit≤ tt) (of_instruments t) (of_sources u),
  )

  kind_told : (i : ℕ) → Kind i → opens sps93 i l ≡ true → kind_on sps93 l ≡ i
  unfolding pick
  kind_told i k t = go i (kinds i k) t
    where
      kinds : (i : ℕ) → Kind i → (i ≡ 1) ⊎ ((i ≡ 2) ⊎ (i ≡ 3))
      kinds i k =
          let a = k.0 in
          let b = k.1 in
          yes_no (eqb i 1) (λ t. inl (eqb-true i 1 t))
          (λ t.
          let n : i ≡ 1 → ⊥ = λ z. t (eq-eqb i 1 z) in
          yes_no (eqb i 2) (λ u. inr (inl (eqb-true i 2 u))) (λ u. let m : i ≡ 2 → ⊥ = λ z. u (eq-eqb i 2 z) in inr (inr (omega arith))))

      off : (t : Bool) → (t ≡ true → ⊥) → t ≡ false
      off true n = absurd (n refl)
      off false n = refl

      go : (i : ℕ) → (i ≡ 1) ⊎ ((i ≡ 2) ⊎ (i ≡ 3)) → opens sps93 i l ≡ true → kind_on sps93 l ≡ i
      go i (inl e) t = let u : opens sps93 1 l ≡ true = subst (λ (i : ℕ). opens sps93 i l ≡ true) e t in rw (u, e)
      go i (inr (inl e)) t =
          let u : opens sps93 2 l ≡ true = subst (λ (i : ℕ). opens sps93 i l ≡ true) e t in
          rw (off (opens sps93 1 l) (λ v. not_sources v u), u, e)
      go i (inr (inr e)) t =
          let u : opens sps93 3 l ≡ true = subst (λ (i : ℕ). opens sps93 i l ≡ true) e t in
          rw (off (opens sps93 1 l) (not_instruments u).0, off (opens sps93 2 l) (not_instruments u).1, u, e)

  kind_back : (kind_on sps93 l ≡ 0 → ⊥) → Kind (kind_on sps93 l) × (opens sps93 (kind_on sps93 l) l ≡ true)
  unfolding pick
  kind_back n = go (opens sps93 1 l) (opens sps93 2 l) (opens sps93 3 l) refl refl refl n
    where
      kind : Bool → Bool → Bool → ℕ
      kind a b c = pick a 1 (pick b 2 (pick c 3 0))

      go : (a b c : Bool) → opens sps93 1 l ≡ a → opens sps93 2 l ≡ b → opens sps93 3 l ≡ c → (kind a b c ≡ 0 → ⊥)
          → Kind (kind a b c) × (opens sps93 (kind a b c) l ≡ true)
      go true b c p q r m = ((lit≤ tt, lit≤ tt), p)
      go false true c p q r m = ((lit≤ tt, lit≤ tt), q)
      go false false true p q r m = ((lit≤ tt, lit≤ tt), r)
      go false false false p q r m = absurd (m refl)

  -- the two columns of the code
  pub code_bytes : at l sps93.header_code ≡ get_or l 32 0 ∷ get_or l 33 0 ∷ []
  unfolding at sps93
  code_bytes = two_columns l 33 (lit≤ tt)

  -- a header line that has a place
  pub placed : place_on sps93 l < 243
      → (i : ℕ) × Kind i × (names sps93 i (at l sps93.header_code) l ≡ true) × (place_on sps93 l ≡ place_of i (at l sps93.header_code))
  unfolding place_on names
  placed h =
      let K = kind_on sps93 l in
      let c = at l sps93.header_code in
      let outer = (pick_is (eqb K 0) 243 (place_for K c) (place_on sps93 l)).0 refl in
      yes_no (eqb K 0) (λ t. let z = outer.0 t in absurd (omega arith))
      (λ t.
      let inner = (pick_is ((tables_of K).is_code c) (place_of K c) 243 (place_on sps93 l)).0 (outer.1 t) in
      let w = kind_back (λ z. t (eq-eqb K 0 z)) in
      yes_no ((tables_of K).is_code c)
      (λ u. (K, w.0, (and_is _ _).1 (u, (and_is _ _).1 ((same_is c c).1 refl, w.1)), sym (inner.0 u)))
      (λ u. let z = inner.1 u in absurd (omega arith)))

  pub names_placed : (i b d : ℕ) → Kind i
      → (names sps93 i (b ∷ d ∷ []) l ≡ true) ↔ (((tables_of i).is_code (b ∷ d ∷ []) ≡ true) × (place_on sps93 l ≡ place_of i (b ∷ d ∷ [])))
  unfolding place_on names pick
  names_placed i b d k = (
    λ t.
        let w = (and_is ((tables_of i).is_code (b ∷ d ∷ [])) _).0 t in
        let v = (and_is _ (opens sps93 i l)).0 w.1 in
        let c = (same_is _ _).0 v.0 in
        let a = k.0 in
        (w.0, rw (kind_told i k v.1, ne_eqb i 0 (λ z. omega arith), c, w.0)),
    λ w.
        let f = place_few i b d w.0 in
        let p = placed (let e = w.1 in omega arith) in
        let n = (and_is ((tables_of p.0).is_code (at l sps93.header_code)) _).0 p.2 in
        let t : (tables_of p.0).is_code (get_or l 32 0 ∷ get_or l 33 0 ∷ []) ≡ true =
        subst (λ (c : List ℕ). (tables_of p.0).is_code c ≡ true) code_bytes n.0 in
        let q : place_of p.0 (get_or l 32 0 ∷ get_or l 33 0 ∷ []) ≡ place_of i (b ∷ d ∷ []) =
        ap (place_of p.0) (sym code_bytes) ∙ sym p.3 ∙ w.1 in
        let z = place_one p.0 i _ _ b d p.1 k t w.0 q in
        let c : at l sps93.header_code ≡ b ∷ d ∷ [] = code_bytes ∙ ap₂ (λ (x y : ℕ). x ∷ y ∷ []) z.1.0 z.1.1 in
        (and_is _ _).1 (
          w.0,
          (and_is _ _).1 (
            (same_is _ _).1 c,
            subst (λ (j : ℕ). opens sps93 j l ≡ true) z.0
                ((and_is (same (at l sps93.header_code) (at l sps93.header_code)) (opens sps93 p.0 l)).0 n.1).1,
          ),
        ),
  )
