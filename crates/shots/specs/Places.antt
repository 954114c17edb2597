-- Where the shots of relation lines stand in S.
--   is_shot s x k j      = line j of S holds the shot of relation line k, and it is not killed
--   names_key x y i      = the shot of line i of X has the key y
--   onward s x k from   = the first line from `from` on that holds the shot of line k; the number of lines where none does
--   line_in n j          = line j of n lines; none where there are no more
--   place_before s x k   = the line of the shot of the line just before line k, where that is a relation line; else 0
--   shot_found s x k     = 13, then 14
--   shot_order s x k     = the same, where line k is a relation line
--   Missed s x k        = the shot of relation line k does not stand from place_before on
--   past_of x y j        = the first line of X from j on whose shot has another key than y; the number of lines where none has
--   all_named s x        = 15
--   Ordered s x         = S and X are known, and 13 and 14 are met
use Rattle.std.specs.Prelude.{ℕ, zero, suc, ◌≡◌, Bool, not, ◌&&◌, leb, ltb, Option, Some, None}
use Rattle.rules.specs.Places.{pick, least}
use Rattle.rules.specs.Plan.{Plan, fine, ◌before◌, up_to, when, run}
use Rattle.rules.specs.Sheet.{Sheet}
use Rattle.rules.specs.Lines.{is_data}
use Rattle.rules.specs.Relations.{relation_at}
use Rattle.rules.specs.Order.{is_shot_of, shot_line, rule13, rule14, rule15}
use Rattle.form.specs.Known.{owned, Known}
use Rattle.keys.specs.Compare.{same_key}
use Rattle.keys.specs.Keys.{shot_key}
use Rattle.keys.specs.Held.{RelationLine, KnownShots}
use Rattle.keys.specs.declared.Key.{Key}

unfoldable pub is_shot : Sheet → Sheet → ℕ → ℕ → Bool
is_shot s x k j = is_shot_of s (relation_at x k) j

unfoldable pub names_key : Sheet → Key → ℕ → Bool
names_key x y i = same_key (shot_key x.layout (owned x i)) y

unfoldable pub onward : Sheet → Sheet → ℕ → ℕ → ℕ
onward s x k from = least s.count (λ j. leb from j && is_shot s x k j)

abbrev pub line_in : ℕ → ℕ → Option ℕ
line_in n j = pick (ltb j n) (Some j) None

unfoldable pub place_before : Sheet → Sheet → ℕ → ℕ
place_before s x zero = 0
place_before s x (suc k) = pick (is_data x k) (shot_line s (relation_at x k)) 0

abbrev pub shot_found : Sheet → Sheet → ℕ → Plan
shot_found s x k = rule13 s x k before rule14 s x k

abbrev pub shot_order : Sheet → Sheet → ℕ → Plan
shot_order s x k = when (is_data x k) (shot_found s x k)

pub record Missed (s x : Sheet) (k : ℕ) : Type 0 where
  pub shots : KnownShots s
  pub relations : Known 3 x
  pub line : RelationLine x k
  pub gone : onward s x k (place_before s x k) ≡ s.count

unfoldable pub past_of : Sheet → Key → ℕ → ℕ
past_of x y j = least x.count (λ i. leb j i && not (names_key x y i))

abbrev pub all_named : Sheet → Sheet → Plan
all_named s x = up_to s.count (rule15 s x)

pub record Ordered (s x : Sheet) : Type 0 where
  pub shots : KnownShots s
  pub relations : Known 3 x
  pub met : fine ≡ run (up_to x.count (shot_order s x))
