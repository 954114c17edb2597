-- The state of a point, from the letters of a line's own bytes.
--   code_in                        = two letters in columns 27-28
--   number_code, code_pm, code_kl  = two letters that are one number, the high one first
--   is_marker_lem .. is_live_lem   = the state that they say
--   marker_told, dead_told         = what a state says of a marker, and of a killed point
use Prim.Native.Nat.{ℕ, ◌+◌, ◌*◌, ◌/◌, ◌%◌, ◌<◌}
use native.Mathlib.Omega.{arith}
use mathlib.Core.Path.{◌≡◌, refl, sym, ap, ap₂, ◌∙◌}
use mathlib.Core.Bool.{Bool, true, false, ◌&&◌, and-true}
use mathlib.Core.List.{List, [], ◌∷◌}
use lib.Dec.{eqb, lit≤}
use lib.ListN.{get_or}
use borrow.Author.Tests.{eqb-true, eq-eqb}
use Rattle.rules.specs.Places.{pick}
use Rattle.rules.specs.Text.{same, bytes}
use Rattle.rules.specs.Names.{ranked}
use Rattle.rules.specs.Layout.{sps93, at}
use Rattle.rules.specs.Points.{State as PaperState, live, killed, marker, is_dead, state_of}
use Rattle.rules.specs.Carried.{bytes_of}
use Rattle.rules.proofs.Tests.{agree, and_is}
use Rattle.rules.proofs.Medium.{ranked_column}
use Rattle.fields.proofs.Codes.{two_columns}
use Rattle.lines.specs.Reading.{medium_of}
use Rattle.lines.specs.declared.Reading.{Reading}
use Rattle.lines.proofs.Sheets.{lawful}
use Rattle.records.specs.Coded.{coded_state}
use Rattle.records.specs.declared.state.State.{State}
use Rattle.records.specs.declared.state.State.TheVariants.{Live, Killed, Marker}

-- two letters in columns 27-28 of a line in the medium's own bytes
pub code_in : (how : Reading) (l : List ℕ) (a b : ℕ) → same (at (ranked (medium_of how).char_of l) sps93.code) (a ∷ b ∷ [])
    ≡ (eqb ((medium_of how).char_of (get_or l 26 0)) a && eqb ((medium_of how).char_of (get_or l 27 0)) b)
unfolding at sps93 same
code_in how l a b =
    let g = (medium_of how).char_of in
    let z = (lawful how).null in
    ap (λ (bs : List ℕ). same bs (a ∷ b ∷ [])) (two_columns (ranked g l) 27 (lit≤ tt))
    ∙ ap₂ (λ (c d : ℕ). eqb c a && (eqb d b && true)) (ranked_column g z l 26) (ranked_column g z l 27)
    ∙ ap (◌&&◌ (eqb (g (get_or l 26 0)) a)) (and-true (eqb (g (get_or l 27 0)) b))

-- a code that is one number
pair_is : (a b c n : ℕ) → b < 256 → n ≡ 256 * a + b → eqb c n ≡ (eqb (c / 256) a && (eqb (c % 256) b && true))
pair_is a b c n h e =
    agree (eqb c n) (eqb (c / 256) a && (eqb (c % 256) b && true))
    (λ t.
    let k = eqb-true c n t in
    (and_is (eqb (c / 256) a) (eqb (c % 256) b && true)).1
    (eq-eqb (c / 256) a (omega arith), (and_is (eqb (c % 256) b) true).1 (eq-eqb (c % 256) b (omega arith), refl)))
    (λ t.
    let p = (and_is (eqb (c / 256) a) (eqb (c % 256) b && true)).0 t in
    let q = (and_is (eqb (c % 256) b) true).0 p.1 in
    eq-eqb c n (omega (arith, eqb-true (c / 256) a p.0, eqb-true (c % 256) b q.0)))

pub number_code : (a b c n : ℕ) → b < 256 → n ≡ 256 * a + b → eqb c n ≡ same (bytes_of 2 c) (a ∷ b ∷ [])
unfolding same bytes_of
number_code a b c n h e = pair_is a b c n h e

pub code_pm : (c : ℕ) → same (bytes_of 2 c) (80 ∷ 77 ∷ []) ≡ eqb c 20557
code_pm c = sym (number_code 80 77 c 20557 (omega arith) (omega arith))

pub code_kl : (c : ℕ) → same (bytes_of 2 c) (75 ∷ 76 ∷ []) ≡ eqb c 19276
code_kl c = sym (number_code 75 76 c 19276 (omega arith) (omega arith))

pub ruleset codes = (code_pm, code_kl)

-- a code of two bytes
module _ (c : List ℕ) (t : Bool) (e : t ≡ same c (80 ∷ 77 ∷ [])) where
  pub is_marker_lem : t ≡ true → Marker ≡ coded_state (state_of c)
  unfolding state_of pick bytes
  is_marker_lem y = rw (sym e ∙ y)

  module _ (n : t ≡ false) (u : Bool) (f : u ≡ same c (75 ∷ 76 ∷ [])) where
    pub is_killed_lem : u ≡ true → Killed ≡ coded_state (state_of c)
    unfolding state_of pick bytes
    is_killed_lem y = rw (sym e ∙ n, sym f ∙ y)

    pub is_live_lem : u ≡ false → Live ≡ coded_state (state_of c)
    unfolding state_of pick bytes
    is_live_lem y = rw (sym e ∙ n, sym f ∙ y)

-- what a state says of a marker, and of a killed point
abbrev pub marks : State → Bool
marks Live = false
marks Killed = false
marks Marker = true

abbrev pub dies : State → Bool
dies Live = false
dies Killed = true
dies Marker = false

pub marker_told : (c : List ℕ) → marks (coded_state (state_of c)) ≡ same c (bytes "PM")
unfolding state_of pick
marker_told c = go (same c (bytes "PM")) (same c (bytes "KL"))
  where
    go : (m k : Bool) → marks (coded_state (pick m marker (pick k killed live))) ≡ m
    go true k = refl
    go false true = refl
    go false false = refl

pub dead_told : (p : PaperState) → dies (coded_state p) ≡ is_dead p
dead_told live = refl
dead_told killed = refl
dead_told marker = refl
