-- The pass over X.
--   reach_fits r x k          = 18, then 19
--   all_relate r s x          = 13, 14, 16 to 19, line by line
--   Waiting r o x t a k      = all that 18 and 19 of line k of a record that begins in line a ask for
--   Begun r o s x apart t    = what the pass asks for
use Rattle.std.specs.Prelude.{ℕ, ◌≤◌, ◌<◌, ◌≡◌, true, List, leb, length}
use Rattle.rules.specs.Places.{least}
use Rattle.rules.specs.Plan.{Plan, ◌before◌, up_to}
use Rattle.rules.specs.Sheet.{Sheet}
use Rattle.rules.specs.Relations.{reach_at}
use Rattle.rules.specs.Reaches.{reaches_of, mates}
use Rattle.rules.specs.Order.{receivers_there, rule18, rule19}
use Rattle.rules.specs.Check.{relation_fits}
use Rattle.form.specs.Known.{Known}
use Rattle.keys.specs.Held.{KnownReceivers, KnownShots}
use Rattle.keys.specs.declared.By.TheVariants.{Records}
use Rattle.order.specs.Repeat.{repeats}
use Rattle.receivers.specs.Rows.{Rows}
use Rattle.once.specs.Covered.{Lines}
use Rattle.once.specs.Marks.{Kept}

abbrev pub reach_fits : Sheet → Sheet → ℕ → Plan
reach_fits r x k = rule18 r x k before rule19 x k

abbrev pub all_relate : Sheet → Sheet → Sheet → Plan
all_relate r s x = up_to x.count (relation_fits r s x)

pub record Waiting (r : Sheet) (o : List ℕ) (x : Sheet) (t : List ℕ) (a k : ℕ) : Type 0 where
  pub receivers : KnownReceivers r
  pub rows : Rows r o
  pub relations : Known 3 x
  pub alike : r.rank ≡ x.rank
  pub lines : Lines x a k
  pub own : (j : ℕ) → j < k → mates (reaches_of x) k j ≡ leb a j
  pub there : (j : ℕ) → a ≤ j → j < k → receivers_there r (reach_at x j) ≡ true
  pub kept : Kept r o x t a k

pub record Begun (r : Sheet) (o : List ℕ) (s x : Sheet) (apart : ℕ) (t : List ℕ) : Type 0 where
  pub receivers : KnownReceivers r
  pub rows : Rows r o
  pub shots : KnownShots s
  pub relations : Known 3 x
  pub alike : r.rank ≡ x.rank
  pub first : apart ≡ least x.count (repeats Records x)
  pub room : length o ≤ length t
