-- Rows that relation lines cover.
--   covered r o x k e       = the receiver in row e is one of relation line k's
--   covered_in r o x a b e   = one of the lines from a on and before b covers it
--   receivers_at x k         = how many receivers line k has
--   apart x a k             = no line from a on and before line k covers a receiver of it
--   some_marked r o x k t v  = a row of line k is marked with v in t
--   Spanned lo hi v t u     = u is t, but v at the places from lo on and before hi
--   Lines x a k             = the lines from a on up to k are relation lines
--   Found r o x t k         = R and X are read in one medium, the receivers of relation line k are rows, and t has a place for each row
use Rattle.std.specs.Prelude.{ℕ, ◌≤◌, ◌≡◌, Bool, true, not, ◌&&◌, ◌||◌, List, eqb, leb, ltb, length}
use Rattle.rules.specs.Places.{pick, every, some}
use Rattle.rules.specs.Names.{same_name}
use Rattle.rules.specs.Sheet.{Sheet}
use Rattle.rules.specs.Points.{point_at}
use Rattle.rules.specs.Relations.{reach_at}
use Rattle.rules.specs.Cover.{receivers, covers, meet}
use Rattle.rules.specs.Order.{receivers_there}
use Rattle.form.specs.Known.{Known}
use Rattle.keys.specs.Held.{RelationLine, KnownReceivers}
use Rattle.order.specs.Sorted.{nth}
use Rattle.receivers.specs.Rows.{Rows}

unfoldable pub covered : Sheet → List ℕ → Sheet → ℕ → ℕ → Bool
covered r o x k e =
    let p = point_at r (nth o e) in
    let q = reach_at x k in
    same_name q.receiver p.name && (eqb q.receiver_index p.index && covers q p.number)

abbrev pub covered_in : Sheet → List ℕ → Sheet → ℕ → ℕ → ℕ → Bool
covered_in r o x a b e = some b (λ j. leb a j && covered r o x j e)

abbrev pub receivers_at : Sheet → ℕ → ℕ
receivers_at x k = receivers (reach_at x k)

unfoldable pub apart : Sheet → ℕ → ℕ → Bool
apart x a k = every k (λ j. not (leb a j) || not (meet (reach_at x k) (reach_at x j)))

unfoldable pub some_marked : Sheet → List ℕ → Sheet → ℕ → List ℕ → ℕ → Bool
some_marked r o x k t v = some (length o) (λ e. covered r o x k e && eqb (nth t e) v)

pub record Spanned (lo hi v : ℕ) (t u : List ℕ) : Type 0 where
  pub size : length u ≡ length t
  pub at : (e : ℕ) → nth u e ≡ pick (leb lo e && ltb e hi) v (nth t e)

abbrev pub Lines : Sheet → ℕ → ℕ → Type 0
Lines x a k = (a ≤ k) × ((j : ℕ) → a ≤ j → j ≤ k → RelationLine x j)

pub record Found (r : Sheet) (o : List ℕ) (x : Sheet) (t : List ℕ) (k : ℕ) : Type 0 where
  pub receivers : KnownReceivers r
  pub rows : Rows r o
  pub relations : Known 3 x
  pub alike : r.rank ≡ x.rank
  pub line : RelationLine x k
  pub there : receivers_there r (reach_at x k) ≡ true
  pub room : length o ≤ length t
