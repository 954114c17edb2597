-- Lines of X and of R, by what the code finds in them.
--   passes_off, passes_on = a line of the record that passes a test, or not; walk_of = the first of them is the search's;
--                           found_line = what the search finds
--   line_of_key           = the first line with a receiver's key is the receiver's
use Prim.Native.Nat.{ℕ, ◌<◌}
use native.Mathlib.Omega.{arith}
use mathlib.Core.Path.{◌≡◌, refl, sym, ap, ◌∙◌}
use mathlib.Core.Bool.{Bool, true, false, ◌&&◌, and_assoc}
use mathlib.Core.Logic.{⊎_elim}
use mathlib.Core.List.{List}
use Rattle.rules.specs.Places.{least}
use Rattle.rules.specs.Plan.{file_x}
use Rattle.rules.specs.Layout.{sps93}
use Rattle.rules.specs.Sheet.{Sheet}
use Rattle.rules.specs.Lines.{is_data, is_point}
use Rattle.rules.specs.Relations.{Reach, reach_at}
use Rattle.rules.specs.Reaches.{reaches_of, of_record, search}
use Rattle.rules.specs.Order.{is_point_at, line_of_point, receiver_line}
use Rattle.rules.proofs.Form.{data_is}
use Rattle.rules.proofs.Search.{search_is}
use Rattle.lines.specs.Reading.{sheet_of}
use Rattle.lines.specs.declared.Reading.{Reading}
use Rattle.lines.proofs.Sheets.{layout_is}
use Rattle.lines.proofs.Tests.{least_same}
use Rattle.form.specs.Known.{owned, Known}
use Rattle.keys.specs.Held.{RelationLine}
use Rattle.keys.specs.Compare.{same_key}
use Rattle.keys.specs.Keys.{receiver_key}
use Rattle.keys.specs.Keyed.{key_at, holds_key}
use Rattle.keys.specs.declared.By.TheVariants.{Receivers}
use Rattle.keys.specs.declared.Key.{Key}
use Rattle.keys.proofs.Lines.{takes_receiver}
use Rattle.keys.proofs.Held.{holds_point}
use Rattle.keys.proofs.Points.{receiver_is}
use Rattle.spread.specs.Asked.{Asked, wanted_of, is_of}
use Rattle.spread.specs.declared.wanted.Wanted.{Wanted}
use Rattle.spread.proofs.Asked.{is_of_lem}
use Rattle.traces.specs.Steps.{passes}

-- line k of X
module _ (x : Sheet) (w : Wanted) (p : Reach → Bool) (k : ℕ) (b : Bool) (e : b ≡ is_of x w k) where
  pub passes_off : b ≡ false → false ≡ passes x w p k
  unfolding passes
  passes_off z = rw (← e, z)

  pub passes_on : b ≡ true → (d : Bool) → d ≡ p (reach_at x k) → d ≡ passes x w p k
  unfolding passes
  passes_on z d y = rw (← e, z) y

  pub relation_is : b ≡ true → is_data x k ≡ true
  unfolding is_of
  relation_is z = first (is_data x k) _ (sym e ∙ z)
    where
      first : (a c : Bool) → (a && c) ≡ true → a ≡ true
      first true c y = refl
      first false c y = y

pub walk_of : (x : Sheet) → Known 3 x → (t : List ℕ) (n : ℕ) → Asked t n → (w : Wanted) → w ≡ wanted_of t n → (p : Reach → Bool)
    → least x.count (passes x w p) ≡ search (reaches_of x) t n p
unfolding search reaches_of passes
walk_of x known t n asked w e p =
    least_same x.count _ _
    (λ k h.
    ap (λ (b : Bool). b && p (reach_at x k)) (ap (λ (v : Wanted). is_of x v k) e ∙ is_of_lem x known t n asked k h)
    ∙ and_assoc (is_data x k) (of_record t n (reach_at x k)) (p (reach_at x k)))

-- the line that the search finds
pub found_line : (x : Sheet) (t : List ℕ) (n : ℕ) (p : Reach → Bool) (k : ℕ) → k ≡ search (reaches_of x) t n p → k < x.count
    → RelationLine x k × (p (reach_at x k) ≡ true)
found_line x t n p k e g =
    ⊎_elim (λ w. ((g, rw e ((data_is x _).1 w.1.0.0)), rw e w.1.1)) (λ w. let z = w.0 in absurd (omega arith)) (search_is x t n p)

-- a key as the code has it
pub key_read : (how : Reading) (x : List ℕ) (k n : ℕ) (y : Key) → y ≡ receiver_key sps93 (owned (sheet_of how x) k) n
    → y ≡ receiver_key (sheet_of how x).layout (owned (sheet_of how x) k) n
key_read how x k n y e = e ∙ (rw (layout_is how x))

module _ (r x : Sheet) (wr : Known 1 r) (wx : Known 3 x) (alike : r.rank ≡ x.rank) (k : ℕ) (h : RelationLine x k) (n : ℕ) (few : n < 4294967296) (y : Key)
    (e : y ≡ receiver_key x.layout (owned x k) n) where
  not_x : 1 ≡ file_x → ⊥
  not_x z = omega arith

  key_holds : (j : ℕ) → j < r.count → holds_key Receivers r y j ≡ is_point_at r (reach_at x k).receiver n (reach_at x k).receiver_index j
  unfolding is_point_at
  key_holds j g =
      holds_point Receivers r y j (is_point r j) _ (takes_receiver r j g)
      (λ p. ap (same_key (key_at Receivers r j)) e ∙ receiver_is 1 r wr not_x j g p x wx alike k h.0 h.1 n few)

  pub line_of_key : least r.count (holds_key Receivers r y) ≡ receiver_line r (reach_at x k) n
  unfolding receiver_line line_of_point
  line_of_key = least_same r.count _ _ key_holds
