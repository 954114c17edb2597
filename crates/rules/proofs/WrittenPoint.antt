-- A written point line: it is read as its point, what is read from a line that meets 5 can be written, and what is written meets 5.
--   point_back, point_row        = the line is read as the point, with its CR and LF and without
--   point_formed                 = the line is printed, and CR and LF end it
--   point_meets, point_row_meets = it meets 5, with them and without
--   point_same                   = read and written, it comes back byte for byte
--   point_again, point_kept      = the point of any line that meets 5 can be written, and is read from what is written
use Prim.Native.Nat.{ℕ, ◌≤◌}
use native.Mathlib.Omega.{arith}
use mathlib.Core.Path.{◌≡◌, refl, ap, ◌∙◌}
use mathlib.Core.Logic.Iff
use mathlib.Core.Logic.{◌↔◌}
use mathlib.Core.Bool.{Bool, true, false}
use mathlib.Core.List.{List, [], ◌∷◌}
use lib.ListN.{take}
use Rattle.rules.specs.Places.{pick}
use Rattle.rules.specs.Plan.{file_r, file_s}
use Rattle.rules.specs.Text.{col, same, bytes}
use Rattle.rules.specs.Layout.{sps93, letter_column, at}
use Rattle.rules.specs.Lines.{letter, kind_of, is_marker}
use Rattle.rules.specs.Points.{State, live, killed, marker, state_of, Point, point}
use Rattle.rules.specs.Rows.{point_rows}
use Rattle.rules.specs.Form.{rule5}
use Rattle.rules.specs.Values.{point_values}
use Rattle.rules.specs.Writer.{writable, line_of, point_line, same_state, point_writes}
use Rattle.rules.proofs.Tests.{says, clash}
use Rattle.rules.proofs.Breach.{Met}
use Rattle.rules.proofs.Tiles.{PrintedTo, rows_go, point_tiles, point_fittings}
use Rattle.rules.proofs.Values.{point_values_lem, code_of, one_point}
use Rattle.rules.proofs.Written.{Formed, begun, line_reads, line_fits_lem, line_take, line_formed}
use Rattle.rules.proofs.Letters.{letter_printed, no_header, kind_letter, point_5}

-- states
state_is : (s t : State) → same_state s t ≡ true → s ≡ t
state_is live live e = refl
state_is killed killed e = refl
state_is live killed e = clash e
state_is killed live e = clash e
state_is live marker e = clash e
state_is killed marker e = clash e
state_is marker t e = clash e

state_same : (s : State) → (s ≡ marker → ⊥) → same_state s s ≡ true
state_same live h = refl
state_same killed h = refl
state_same marker h = absurd (h refl)

only_marker : (m k : Bool) → pick m marker (pick k killed live) ≡ marker → m ≡ true
unfolding pick
only_marker true k e = refl
only_marker false true e = cc
only_marker false false e = cc

-- a line that is no marker has a state of its own
state_kept : (l : List ℕ) → (is_marker sps93 l ≡ true → ⊥) → same_state (state_of (at l sps93.code)) (state_of (at l sps93.code)) ≡ true
unfolding state_of is_marker
state_kept l h = let c = at l sps93.code in state_same (state_of c) (λ e. h (only_marker (is_marker sps93 l) (same c (bytes "KL")) e))

-- what the writer asks of a point
point_says : (b : ℕ) (p : Point)
    → (point_writes b p ≡ true)
    ↔ (((file_r ≤ kind_of b) × (kind_of b ≤ file_s))
    × ((same_state (state_of p.code) p.state ≡ true) × (writable (point_rows sps93 (kind_of b)) (point_values p) ≡ true)))
unfolding point_writes
point_says b p = simp says Iff.rfl

-- a point of file i that goes into its fields; zs is what follows them
module _ (i : ℕ) (p : Point) (g : writable (point_rows sps93 i) (point_values p) ≡ true) where
  row_is : take 80 (point_line i p) ≡ begun (letter i) (point_rows sps93 i) (point_values p) []
  row_is = line_take (letter i) (point_rows sps93 i) (point_values p) (point_tiles i) (point_fittings i) g

  read_from : state_of p.code ≡ p.state → (zs : List ℕ) → point sps93 (begun (letter i) (point_rows sps93 i) (point_values p) zs) ≡ p
  unfolding point_values point_rows point
  read_from s zs =
      let l = begun (letter i) (point_rows sps93 i) (point_values p) zs in
      let e = point_values_lem sps93 i l ∙ line_reads (letter i) (point_rows sps93 i) (point_values p) (point_tiles i) (point_fittings i) g refl zs in
      one_point (point sps93 l) p e (ap state_of (code_of (point sps93 l) (point_values p) e) ∙ s)

  met_from : i ≤ file_s → (k : ℕ) (zs : List ℕ) → Met (rule5 i sps93 k (begun (letter i) (point_rows sps93 i) (point_values p) zs))
  unfolding col
  met_from h k zs =
      let l = begun (letter i) (point_rows sps93 i) (point_values p) zs in
      (point_5 i k l (no_header i l refl) (λ e. omega arith)).1
      (line_fits_lem (letter i) (point_rows sps93 i) (point_values p) (point_tiles i) (point_fittings i) g i k (is_marker sps93 l) zs)

module _ (b : ℕ) (p : Point) (e : point_writes b p ≡ true) where
  goes : writable (point_rows sps93 (kind_of b)) (point_values p) ≡ true
  goes = ((point_says b p).0 e).1.1

  agrees : state_of p.code ≡ p.state
  agrees = state_is (state_of p.code) p.state ((point_says b p).0 e).1.0

  pub point_back : point sps93 (point_line (kind_of b) p) ≡ p
  unfolding line_of
  point_back = read_from (kind_of b) p goes agrees (13 ∷ 10 ∷ [])

  pub point_row : point sps93 (take 80 (point_line (kind_of b) p)) ≡ p
  point_row = rw (row_is (kind_of b) p goes) (read_from (kind_of b) p goes agrees [])

  pub point_formed : Formed (point_line (kind_of b) p)
  point_formed =
      let i = kind_of b in
      line_formed (letter i) (point_rows sps93 i) (point_values p) (point_tiles i) (point_fittings i) goes (letter_printed i)

  pub point_meets : (k : ℕ) → Met (rule5 (kind_of b) sps93 k (point_line (kind_of b) p))
  unfolding line_of
  point_meets k = met_from (kind_of b) p goes ((point_says b p).0 e).0.1 k (13 ∷ 10 ∷ [])

  pub point_row_meets : (k : ℕ) → Met (rule5 (kind_of b) sps93 k (take 80 (point_line (kind_of b) p)))
  point_row_meets k = rw (row_is (kind_of b) p goes) (met_from (kind_of b) p goes ((point_says b p).0 e).0.1 k [])

  -- a line in this spelling comes back byte for byte
  pub point_same : point_line (kind_of b) (point sps93 (take 80 (point_line (kind_of b) p))) ≡ point_line (kind_of b) p
  point_same = rw point_row

-- a line of file i, no marker, that meets 5
module _ (i k : ℕ) (l : List ℕ) (o : file_r ≤ i) (h : i ≤ file_s) (p : PrintedTo 81 l) (c : col l letter_column ≡ letter i)
    (m : is_marker sps93 l ≡ true → ⊥) (g : Met (rule5 i sps93 k l)) where
  pub point_again : point_writes (letter i) (point sps93 l) ≡ true
  unfolding point
  point_again =
      let f = (point_5 i k l (no_header i l c) (λ e. omega arith)).0 g in
      let r = rows_go l i k (is_marker sps93 l) m 2 81 (point_rows sps93 i) (point_tiles i) (omega arith) (point_fittings i) p f in
      (point_says (letter i) (point sps93 l)).1
      (rw (kind_letter i o h) ((o, h), (state_kept l m, rw (point_values_lem sps93 i l) r)))

  -- it comes back in this spelling, with the same values
  pub point_kept : point sps93 (take 80 (point_line i (point sps93 l))) ≡ point sps93 l
  point_kept = rw (kind_letter i o h) at (point_row (letter i) (point sps93 l) point_again)
