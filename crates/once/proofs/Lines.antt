-- The rows of relation line k, from its first row e on, as many as it has receivers.
--   line_inside  = they are rows
--   line_put     = marks put there are put at the rows that it covers
--   line_seen    = so is a mark that is looked for
use Prim.Native.Nat.{ℕ, ◌+◌, ◌≤◌, ◌<◌}
use mathlib.Core.Path.{◌≡◌}
use mathlib.Core.Bool.{Bool, ◌&&◌}
use mathlib.Core.List.{List}
use lib.Dec.{eqb, leb}
use lib.ListN.{length}
use Rattle.rules.specs.Places.{some}
use Rattle.rules.specs.Sheet.{Sheet}
use Rattle.order.specs.Sorted.{nth}
use Rattle.receivers.specs.Rows.{first_row}
use Rattle.receivers.proofs.There.{inside, rows_covered}
use Rattle.once.specs.Covered.{covered, receivers_at, some_marked, Spanned, Found}
use Rattle.once.specs.Marks.{Put}
use Rattle.once.proofs.Spans.{within}
use Rattle.once.proofs.Marking.{span_put, span_seen}

module _ (r : Sheet) (o : List ℕ) (x : Sheet) (t : List ℕ) (k : ℕ) (w : Found r o x t k) (e n : ℕ) (f : e ≡ first_row r o x k)
    (g : n ≡ receivers_at x k) where
  pub line_inside : e + n ≤ length o
  line_inside = rw (f, g) (inside r o w.receivers w.rows x k w.relations w.alike w.line w.there)

  rows : (i : ℕ) → i < length o → covered r o x k i ≡ within e (e + n) i
  unfolding covered
  rows i h = rw (f, g) (rows_covered r o w.receivers w.rows x k w.relations w.alike w.line w.there i h)

  pub line_put : (v : ℕ) (u : List ℕ) → Spanned e (e + n) v t u → Put r o x k v t u
  line_put v u = span_put r o x k e n line_inside rows v t u

  pub line_seen : (v : ℕ) (s : Bool) → s ≡ some (e + n) (λ i. leb e i && eqb (nth t i) v) → s ≡ some_marked r o x k t v
  line_seen v s = span_seen r o x k e n line_inside rows v t s
