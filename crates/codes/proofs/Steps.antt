-- The place of a code and of a header line, by what the code finds at each step.
use Prim.Native.Nat.{ℕ, ◌+◌, ◌-◌, ◌*◌, ◌/◌, ◌%◌, ◌≤◌, ◌<◌}
use native.Mathlib.Nat.{mul-le-mul_left}
use native.Mathlib.Omega.{arith}
use mathlib.Core.Path.{◌≡◌, refl, sym, ap, ap₂, ◌∙◌}
use mathlib.Core.Bool.{Bool, true, false, and-false}
use mathlib.Core.List.{List, [], ◌∷◌}
use lib.Dec.{eqb, lit≤}
use lib.ListN.{get_or}
use borrow.Author.Tests.{eq-eqb, ne_eqb}
use Rattle.rules.specs.Places.{pick}
use Rattle.rules.specs.Text.{col, cols, same, bytes}
use Rattle.rules.specs.Layout.{sps93, at}
use Rattle.rules.specs.Kinds.{digit1, family, of_family, is_code}
use Rattle.rules.specs.Headers.{two_digits}
use Rattle.rules.specs.Codes.{tables_of, is_instrument, three_digits, opens}
use Rattle.rules.proofs.Tests.{says, and_is}
use Rattle.rules.proofs.Columns.{cols_end, cols_step}
use Rattle.rules.proofs.Fields.{family_is}
use Rattle.rules.proofs.Codes.{is_code_lem}
use Rattle.codes.specs.Named.{place_for, numbered, kind_on, place_on}
use Rattle.codes.proofs.Placed.{capital, code_bytes}

pub digit_range : (b : ℕ) → digit1 b ≡ true → (49 ≤ b) × (b ≤ 57)
unfolding digit1
digit_range b t = simp says at t

-- instruments
module _ (b d : ℕ) where
  abbrev instrument : ℕ → ℕ
  instrument p = pick (is_instrument (b ∷ d ∷ [])) p 243

  pub no_comma : (d ≡ 44 → ⊥) → 243 ≡ instrument (b - 49)
  unfolding pick col
  no_comma n = rw (ne_eqb d 44 n, and-false (digit1 b))

  module _ (t : Bool) (e : t ≡ digit1 b) where
    pub no_digit : t ≡ false → 243 ≡ instrument (b - 49)
    unfolding pick col
    no_digit n = rw (sym e ∙ n)

    pub instrument_here : d ≡ 44 → t ≡ true → b - 49 ≡ instrument (b - 49)
    unfolding pick col
    instrument_here q y = rw (sym e ∙ y, eq-eqb d 44 q)

-- points
module _ (i b d : ℕ) where
  abbrev pointed : ℕ → ℕ
  pointed p = pick (of_family i (b ∷ d ∷ [])) p 243

  module _ (t : Bool) (e : t ≡ digit1 d) where
    pub no_point_digit : t ≡ false → (p : ℕ) → 243 ≡ pointed p
    unfolding pick col
    no_point_digit n p = rw (sym e ∙ n, and-false (family i b))

    module _ (y : t ≡ true) (u : Bool) (f : u ≡ is_code i (b ∷ d ∷ [])) where
      code_digit : u ≡ of_family i (b ∷ d ∷ [])
      unfolding is_code same bytes col
      code_digit =
          let w = digit_range d (sym e ∙ y) in
          let h = w.1 in
          f ∙ (rw (ne_eqb d 77 (λ z. omega arith), ne_eqb d 76 (λ z. omega arith), and-false (eqb b 80), and-false (eqb b 75)))

      pub no_code : u ≡ false → (p : ℕ) → 243 ≡ pointed p
      unfolding pick
      no_code n p = rw (sym code_digit ∙ n)

      module _ (z : u ≡ true) where
        pub point_here : (p : ℕ) → p ≡ pointed p
        unfolding pick
        point_here p = rw (sym code_digit ∙ z)

        pub point_range : ((65 ≤ b) × (b ≤ 90)) × ((49 ≤ d) × (d ≤ 57))
        unfolding col
        point_range =
            let w = (and_is (family i b) (digit1 d)).0 (sym code_digit ∙ z) in
            (capital i b ((family_is i b).0 w.0), digit_range d w.1)

  pub for_instrument : i ≡ 3 → (p : ℕ) → p ≡ pick (is_instrument (b ∷ d ∷ [])) (b - 49) 243 → p ≡ place_for i (b ∷ d ∷ [])
  unfolding pick col
  for_instrument e p q = q ∙ sym (rw (is_code_lem i (b ∷ d ∷ []), eq-eqb i 3 e))

  pub for_point : (i ≡ 3 → ⊥) → (p : ℕ) → p ≡ pointed (9 + 9 * (b - 65) + (d - 49)) → p ≡ place_for i (b ∷ d ∷ [])
  unfolding pick col
  for_point n p q = q ∙ sym (rw (is_code_lem i (b ∷ d ∷ []), ne_eqb i 3 n))

-- the number of a header line
module _ (l : List ℕ) (t : ℕ) where
  three_columns : cols l 2 4 ≡ get_or l 1 0 ∷ get_or l 2 0 ∷ get_or l 3 0 ∷ []
  three_columns =
      cols_step l 2 (lit≤ tt) 4 (lit≤ tt)
      ∙ ap (λ (r : List ℕ). get_or l 1 0 ∷ r)
      (cols_step l 3 (lit≤ tt) 4 (lit≤ tt)
      ∙ ap (λ (r : List ℕ). get_or l 2 0 ∷ r)
      (cols_step l 4 (lit≤ tt) 4 (lit≤ tt) ∙ ap (λ (r : List ℕ). get_or l 3 0 ∷ r) (cols_end l 5 (lit≤ tt) 4 (lit≤ tt))))

  pub other_number : (get_or l 1 0 ≡ 48 + t / 100 → ⊥) → false ≡ same (cols l 2 4) (three_digits t)
  unfolding same three_digits
  other_number n = rw (three_columns, ne_eqb (get_or l 1 0) (48 + t / 100) n)

  pub number_here : get_or l 1 0 ≡ 48 + t / 100 → (b : Bool)
      → b ≡ same (get_or l 2 0 ∷ get_or l 3 0 ∷ []) ((48 + t % 100 / 10) ∷ (48 + t % 100 % 10) ∷ []) → b ≡ same (cols l 2 4) (three_digits t)
  unfolding same three_digits two_digits
  number_here e b q = q ∙ sym (rw (three_columns, eq-eqb (get_or l 1 0) (48 + t / 100) e))

-- the kind of a first record
module _ (l : List ℕ) where
  receivers_open : numbered l 600 10 10 ≡ opens sps93 1 l
  unfolding opens tables_of pick at sps93
  receivers_open = refl

  sources_open : numbered l 700 20 10 ≡ opens sps93 2 l
  unfolding opens tables_of pick at sps93
  sources_open = refl

  instruments_open : numbered l 400 20 9 ≡ opens sps93 3 l
  unfolding opens tables_of pick at sps93
  instruments_open = refl

  module _ (a : Bool) (p : a ≡ numbered l 600 10 10) where
    pub kind_1 : a ≡ true → 1 ≡ kind_on sps93 l
    unfolding pick
    kind_1 y = rw (sym (p ∙ receivers_open) ∙ y)

    module _ (n : a ≡ false) (b : Bool) (q : b ≡ numbered l 700 20 10) where
      pub kind_2 : b ≡ true → 2 ≡ kind_on sps93 l
      unfolding pick
      kind_2 y = rw (sym (p ∙ receivers_open) ∙ n, sym (q ∙ sources_open) ∙ y)

      module _ (m : b ≡ false) (c : Bool) (r : c ≡ numbered l 400 20 9) where
        pub kind_3 : c ≡ true → 3 ≡ kind_on sps93 l
        unfolding pick
        kind_3 y = rw (sym (p ∙ receivers_open) ∙ n, sym (q ∙ sources_open) ∙ m, sym (r ∙ instruments_open) ∙ y)

        pub kind_0 : c ≡ false → 0 ≡ kind_on sps93 l
        unfolding pick
        kind_0 y = rw (sym (p ∙ receivers_open) ∙ n, sym (q ∙ sources_open) ∙ m, sym (r ∙ instruments_open) ∙ y)

  -- and its place
  module _ (i : ℕ) (e : i ≡ kind_on sps93 l) where
    pub no_place : i ≡ 0 → 243 ≡ place_on sps93 l
    unfolding place_on pick
    no_place z = rw (eq-eqb (kind_on sps93 l) 0 (sym e ∙ z))

    pub place_here : (i ≡ 0 → ⊥) → (p : ℕ) → p ≡ place_for i (get_or l 32 0 ∷ get_or l 33 0 ∷ []) → p ≡ place_on sps93 l
    unfolding place_on pick
    place_here n p q =
        q ∙ ap₂ place_for e (sym (code_bytes l)) ∙ other (eqb (kind_on sps93 l) 0) (ne_eqb _ 0 (λ z. n (e ∙ z)))
      where
        other : (t : Bool) → t ≡ false
            → place_for (kind_on sps93 l) (at l sps93.header_code) ≡ pick t 243 (place_for (kind_on sps93 l) (at l sps93.header_code))
        other true z = absurd (let y : ◌≡◌ {A = ℕ} 0 1 = cc in omega arith)
        other false z = refl

-- the numbers of first records are of three digits
pub step_fits : (a d n m : ℕ) → n < m → a + d * m < 1000 → (d * n < 1000) × (a + d * n < 1000)
step_fits a d n m h g = let l = mul-le-mul_left d (let z : n ≤ m = omega arith in z) in (omega arith, omega arith)

-- what the check goes by in each function
pub ruleset instruments = (digit_range, no_comma, no_digit, instrument_here)

pub ruleset points = (no_point_digit, no_code, point_here, point_range)

pub ruleset kinds_of_place = (for_instrument, for_point)

pub ruleset numbers = (number_here, other_number)

pub ruleset kinds = (kind_1, kind_2, kind_3, kind_0)

pub ruleset named_places = (no_place, place_here)
