-- Reaches in their order: what 16, 17 and 19 ask of them, and the lookup's search.
--   Reaches            = so many places; which of them hold a reach; the reach of each
--   reaches_of x        = those of a relation file
--   mates Q k j        = j holds a reach of the same tape and record as k
--   search Q t n p     = the first of that tape and record that passes p; the number of places where none does
use Rattle.std.specs.Prelude.{ℕ, Bool, not, ◌&&◌, ◌||◌, List, eqb, ltb}
use Rattle.rules.specs.Places.{every, least, if_before, is_before}
use Rattle.rules.specs.Text.{same}
use Rattle.rules.specs.Sheet.{Sheet}
use Rattle.rules.specs.Lines.{is_data}
use Rattle.rules.specs.Relations.{Reach, reach_at}
use Rattle.rules.specs.Cover.{meet}

pub record Reaches : Type 0 where
  pub count : ℕ
  pub here : ℕ → Bool
  pub nth : ℕ → Reach

unfoldable pub reaches_of : Sheet → Reaches
reaches_of x = record { count = x.count; here = is_data x; nth = reach_at x }

unfoldable pub of_record : List ℕ → ℕ → Reach → Bool
of_record t n q = same q.tape t && eqb q.number n

unfoldable pub mates : Reaches → ℕ → ℕ → Bool
mates Q k j = Q.here j && of_record (Q.nth k).tape (Q.nth k).number (Q.nth j)

-- 16, in part: where an earlier one is of the same record, the one just before is
unfoldable pub together : Reaches → ℕ → Bool
together Q k = every k (λ j. not (mates Q k j) || is_before (mates Q k) k)

-- 17: its channels are above those of the one just before, where that is of the same record
unfoldable pub rises : Reaches → ℕ → Bool
rises Q k = if_before (λ j. not (mates Q k j) || ltb (Q.nth j).upto (Q.nth k).from) k

-- 19: no earlier one of the same record covers one of its receivers
unfoldable pub once : Reaches → ℕ → Bool
once Q k = every k (λ j. not (mates Q k j) || not (meet (Q.nth k) (Q.nth j)))

unfoldable pub search : Reaches → List ℕ → ℕ → (Reach → Bool) → ℕ
search Q t n p = least Q.count (λ k. let q = Q.nth k in Q.here k && (of_record t n q && p q))
