-- What the marks say when 19 is asked of relation line k.
--   pairs                  = so many lines of a record are compared by pairs
--   Below t v              = all marks are below v
--   Put r o x k v t u      = u is t, but v at the rows of line k
--   Marked r o x t a k     = a row is marked with a + 1 exactly where one of the lines from a on and before k covers it; no mark is above
--   Kept r o x t a k       = what is kept before line k of a record that begins in line a
--   KeptAfter v r o x t a k = what is kept before line k + 1, where the verdict v on line k refuses nothing
--   Ready r o x t a k      = all that 19 of line k asks for
use Rattle.std.specs.Prelude.{ℕ, ◌+◌, ◌≤◌, ◌<◌, ◌≡◌, true, List, eqb, leb, length}
use Rattle.rules.specs.Places.{pick}
use Rattle.rules.specs.Plan.{Verdict, fine}
use Rattle.rules.specs.Sheet.{Sheet}
use Rattle.rules.specs.Relations.{reach_at}
use Rattle.rules.specs.Reaches.{reaches_of, mates}
use Rattle.rules.specs.Order.{receivers_there}
use Rattle.form.specs.Known.{Known}
use Rattle.keys.specs.Held.{KnownReceivers}
use Rattle.order.specs.Sorted.{nth}
use Rattle.receivers.specs.Rows.{Rows}
use Rattle.once.specs.Covered.{covered, covered_in, Lines}

unfoldable pub pairs : ℕ
pairs = 8

abbrev pub Below : List ℕ → ℕ → Type 0
Below t v = (e : ℕ) → nth t e < v

pub record Put (r : Sheet) (o : List ℕ) (x : Sheet) (k v : ℕ) (t u : List ℕ) : Type 0 where
  pub size : length u ≡ length t
  pub at : (e : ℕ) → e < length o → nth u e ≡ pick (covered r o x k e) v (nth t e)
  pub beyond : (e : ℕ) → length o ≤ e → nth u e ≡ nth t e

pub record Marked (r : Sheet) (o : List ℕ) (x : Sheet) (t : List ℕ) (a k : ℕ) : Type 0 where
  pub below : Below t (a + 2)
  pub at : (e : ℕ) → e < length o → eqb (nth t e) (a + 1) ≡ covered_in r o x a k e

pub record Kept (r : Sheet) (o : List ℕ) (x : Sheet) (t : List ℕ) (a k : ℕ) : Type 0 where
  pub room : length o ≤ length t
  pub few : k < a + pairs → Below t (a + 1)
  pub many : a + pairs ≤ k → Marked r o x t a k

abbrev pub KeptAfter : Verdict → Sheet → List ℕ → Sheet → List ℕ → ℕ → ℕ → Type 0
KeptAfter v r o x t a k = fine ≡ v → Kept r o x t a (k + 1)

pub record Ready (r : Sheet) (o : List ℕ) (x : Sheet) (t : List ℕ) (a k : ℕ) : Type 0 where
  pub receivers : KnownReceivers r
  pub rows : Rows r o
  pub relations : Known 3 x
  pub alike : r.rank ≡ x.rank
  pub lines : Lines x a k
  pub own : (j : ℕ) → j < k → mates (reaches_of x) k j ≡ leb a j
  pub there : (j : ℕ) → a ≤ j → j ≤ k → receivers_there r (reach_at x j) ≡ true
  pub kept : Kept r o x t a k
