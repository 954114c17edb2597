-- Receivers as rows, in the order of name, index and number.
--   Rows r o          = o has the receivers of R, each once, in that order
--   is_row r o y e     = row e has the key y; not_below r o y e = its key is not below y
--   row_of r o y       = the row with the key y; the number of rows where there is none
--   first_row r o x k  = the row of the lowest receiver of relation line k of X
--   FirstAt r o x k e = R and X are known, in one medium, and that row is e
use Rattle.std.specs.Prelude.{ℕ, ◌≡◌, Bool, false, not, List, length}
use Rattle.rules.specs.Places.{least}
use Rattle.rules.specs.Sheet.{Sheet}
use Rattle.rules.specs.Relations.{reach_at}
use Rattle.rules.specs.Cover.{lowest}
use Rattle.form.specs.Known.{owned, Known}
use Rattle.keys.specs.Held.{RelationLine, KnownReceivers}
use Rattle.keys.specs.Compare.{same_key, less_or}
use Rattle.keys.specs.Keys.{receiver_key}
use Rattle.keys.specs.Keyed.{takes_at, key_at}
use Rattle.keys.specs.declared.By.TheVariants.{Receivers}
use Rattle.keys.specs.declared.Key.{Key}
use Rattle.order.specs.Sorted.{nth}
use Rattle.order.specs.Listed.{Order}

abbrev pub Rows : Sheet → List ℕ → Type 0
Rows r o = Order (takes_at Receivers r) (key_at Receivers r) o (length o) r.count

unfoldable pub is_row : Sheet → List ℕ → Key → ℕ → Bool
is_row r o y e = same_key (key_at Receivers r (nth o e)) y

unfoldable pub not_below : Sheet → List ℕ → Key → ℕ → Bool
not_below r o y e = not (less_or (key_at Receivers r (nth o e)) y false)

unfoldable pub row_of : Sheet → List ℕ → Key → ℕ
row_of r o y = least (length o) (is_row r o y)

unfoldable pub first_row : Sheet → List ℕ → Sheet → ℕ → ℕ
first_row r o x k = row_of r o (receiver_key x.layout (owned x k) (lowest (reach_at x k)))

pub record FirstAt (r : Sheet) (o : List ℕ) (x : Sheet) (k e : ℕ) : Type 0 where
  pub receivers : KnownReceivers r
  pub rows : Rows r o
  pub relations : Known 3 x
  pub alike : r.rank ≡ x.rank
  pub line : RelationLine x k
  pub first : e ≡ first_row r o x k
