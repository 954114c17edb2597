-- Which codes are named, noted by places: one for each instrument, then one for each capital letter with a digit.
--   Kind i             = receivers 1, sources 2, instruments 3
--   place_of i c        = the place of a code of kind i; place_for i c = the same, or 243 where c is no code of that kind
--   numbered l a d n   = columns 2-4 of l are one of n numbers, which begin at a and stand d apart
--   kind_on L l         = the kind of table of which l is the first record, 0 where it is none
--   place_on L l        = the place of the code that a header line names, 243 where it names none
--   place_used i f k    = the place of the code that line k of file i uses
--   is_noted a p        = place p is noted; allowed a p = p is noted, or no place
--   place_or o          = the place that the code has at hand, 243 where it has none; kind_or o, line_or o = the same of a kind, a line, and 0
--   Noted r n a        = the places of the codes that the first n lines of R name are noted, and no others
--   note_fits a i f k   = 25 of line k of file i, by what is noted; all_noted a i f = of all its lines
use Rattle.std.specs.Prelude.{ℕ, ◌+◌, ◌-◌, ◌*◌, ◌≤◌, ◌<◌, ◌≡◌, Bool, false, not, ◌||◌, List, eqb, ltb, length, get_or, Option, Some, None}
use Rattle.rules.specs.Places.{pick, some}
use Rattle.rules.specs.Plan.{Plan, №, file_x, need, up_to}
use Rattle.rules.specs.Text.{col, cols, same}
use Rattle.rules.specs.Layout.{Layout, sps93, at}
use Rattle.rules.specs.Sheet.{Sheet}
use Rattle.rules.specs.Lines.{is_data}
use Rattle.rules.specs.Codes.{tables_of, three_digits, opens, used_code, code_span}

abbrev pub Kind : ℕ → Type 0
Kind i = (1 ≤ i) × (i ≤ 3)

abbrev pub place_of : ℕ → List ℕ → ℕ
place_of i c = pick (eqb i file_x) (col c 1 - 49) (9 + 9 * (col c 1 - 65) + (col c 2 - 49))

abbrev pub place_for : ℕ → List ℕ → ℕ
place_for i c = pick ((tables_of i).is_code c) (place_of i c) 243

abbrev pub numbered : List ℕ → ℕ → ℕ → ℕ → Bool
numbered l a d n = some n (λ k. same (cols l 2 4) (three_digits (a + d * k)))

abbrev pub kind_on : Layout → List ℕ → ℕ
kind_on L l = pick (opens L 1 l) 1 (pick (opens L 2 l) 2 (pick (opens L 3 l) 3 0))

unfoldable pub place_on : Layout → List ℕ → ℕ
place_on L l = pick (eqb (kind_on L l) 0) 243 (place_for (kind_on L l) (at l L.header_code))

unfoldable pub place_used : ℕ → Sheet → ℕ → ℕ
place_used i f k = pick (is_data f k) (place_for i (used_code i f k)) 243

abbrev pub place_or : Option ℕ → ℕ
place_or (Some p) = p
place_or None = 243

abbrev pub kind_or : Option ℕ → ℕ
kind_or (Some i) = i
kind_or None = 0

abbrev pub line_or : Option ℕ → ℕ
line_or (Some k) = k
line_or None = 0

abbrev pub is_noted : List Bool → ℕ → Bool
is_noted a p = get_or a p false

abbrev pub allowed : List Bool → ℕ → Bool
allowed a p = not (ltb p (length a)) || is_noted a p

pub record Noted (r : Sheet) (n : ℕ) (a : List Bool) : Type 0 where
  pub size : length a ≡ 243
  pub at : (p : ℕ) → p < 243 → is_noted a p ≡ some n (λ j. eqb (place_on sps93 (r.row j)) p)

abbrev pub note_fits : List Bool → ℕ → Sheet → ℕ → Plan
note_fits a i f k = need (allowed a (place_used i f k)) (№ 25 i (k + 1) (code_span f.layout i).first)

abbrev pub all_noted : List Bool → ℕ → Sheet → Plan
all_noted a i f = up_to f.count (note_fits a i f)
