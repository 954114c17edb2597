-- Header lines and killed points, by the characters of a line's own bytes.
--   header_own, header_here     = H in column 1
--   marker_here, no_marker_here = the state that says whether a line is a marker
--   killed_told, killed_own, not_killed_own = the state that says whether a line of a file is killed
use Prim.Native.Nat.{ℕ}
use mathlib.Core.Path.{◌≡◌, refl, sym, ap, ◌∙◌}
use mathlib.Core.Bool.{true, false}
use mathlib.Core.List.{List}
use lib.Dec.{eqb}
use lib.ListN.{get_or, take}
use Rattle.rules.specs.Text.{col}
use Rattle.rules.specs.Names.{ranked}
use Rattle.rules.specs.Layout.{Layout, sps93, at}
use Rattle.rules.specs.Lines.{is_header, is_marker}
use Rattle.rules.specs.Points.{state_of, point, point_at, is_killed}
use Rattle.rules.proofs.Medium.{ranked_column}
use Rattle.lines.specs.declared.Reading.{Reading}
use Rattle.lines.specs.Reading.{medium_of, sheet_of}
use Rattle.lines.proofs.Sheets.{lawful, layout_is, row_own}
use Rattle.records.specs.Coded.{coded_state}
use Rattle.records.specs.declared.state.State.{State}
use Rattle.records.specs.declared.state.State.TheVariants.{Live, Killed, Marker}
use Rattle.records.proofs.States.{marks, dies, marker_told, dead_told}

module _ (g : ℕ → ℕ) (z : g 0 ≡ 0) (l : List ℕ) where
  pub header_own : eqb (g (get_or l 0 0)) 72 ≡ is_header (ranked g l)
  unfolding is_header col
  header_own = ap (λ (b : ℕ). eqb b 72) (sym (ranked_column g z l 0))

pub header_here : (how : Reading) (l : List ℕ) → is_header (ranked (medium_of how).char_of l) ≡ eqb ((medium_of how).char_of (get_or l 0 0)) 72
header_here how l = sym (header_own (medium_of how).char_of (lawful how).null l)

-- whether a line is a marker, by its state
module _ (L : Layout) (l : List ℕ) where
  abbrev here : State
  here = coded_state (state_of (at l L.code))

  pub marker_here : here ≡ Marker → true ≡ is_marker L l
  unfolding is_marker
  marker_here e = ap marks (sym e) ∙ marker_told (at l L.code)

  pub no_marker_here : (here ≡ Marker → ⊥) → false ≡ is_marker L l
  unfolding is_marker
  no_marker_here n = others here n ∙ marker_told (at l L.code)
    where
      others : (s : State) → (s ≡ Marker → ⊥) → false ≡ marks s
      others Live m = refl
      others Killed m = refl
      others Marker m = absurd (m refl)

-- whether a line of a file is killed, by the state of its own bytes
pub killed_told : (how : Reading) (f : List ℕ) (k : ℕ) (l : List ℕ) → l ≡ take 80 ((sheet_of how f).raw k)
    → (s : State) → s ≡ coded_state (state_of (at (ranked (medium_of how).char_of l) sps93.code)) → dies s ≡ is_killed (point_at (sheet_of how f) k)
unfolding is_killed point_at point
killed_told how f k l e s q = rw (q, e, ← row_own how f k, layout_is how f) (dead_told (state_of (at ((sheet_of how f).row k) sps93.code)))

module _ (how : Reading) (f : List ℕ) (k : ℕ) where
  abbrev own_state : State
  own_state = coded_state (state_of (at (ranked (medium_of how).char_of (take 80 ((sheet_of how f).raw k))) sps93.code))

  pub killed_own : own_state ≡ Killed → true ≡ is_killed (point_at (sheet_of how f) k)
  killed_own e = ap dies (sym e) ∙ killed_told how f k _ refl _ refl

  pub not_killed_own : (own_state ≡ Killed → ⊥) → false ≡ is_killed (point_at (sheet_of how f) k)
  not_killed_own n = others own_state n ∙ killed_told how f k _ refl _ refl
    where
      others : (s : State) → (s ≡ Killed → ⊥) → false ≡ dies s
      others Live m = refl
      others Killed m = absurd (m refl)
      others Marker m = refl
