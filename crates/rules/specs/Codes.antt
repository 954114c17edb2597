-- "Code tables in the header": refusals 24 and 25. A kind of code is the file that uses it: receiver codes R, source codes S, instruments X.
--   Tables             = the first records of a kind's tables, by their first number, their step and their last; and what a code of the kind is
--   tables_of i         = those of kind i
--   opens L i l        = l is such a first record
--   names L i c l      = and the code c of that kind stands in it
--   named r i c        = a header line of R names c
--   line_naming r i c   = the first that does, as the paper counts lines; 0 where none does
--   used_code i f k     = what line k of file i has for a code, as a table has it
--   rule24, rule25     = the refusals of those numbers
--   codes_fit r s x     = "24 first, then 25 over R, S, X"
use Rattle.std.specs.Prelude.{ℕ, suc, ◌+◌, ◌-◌, ◌*◌, ◌/◌, ◌%◌, Bool, not, ◌&&◌, List, [], ◌∷◌, eqb, ltb}
use Prim.Native.Char.{code as ascii}
use Rattle.rules.specs.Places.{pick, every, some, least}
use Rattle.rules.specs.Plan.{Plan, №, file_r, file_s, file_x, need, ◌before◌, up_to, when}
use Rattle.rules.specs.Text.{col, same}
use Rattle.rules.specs.Kinds.{digit1, of_family}
use Rattle.rules.specs.Layout.{Layout, Span, at}
use Rattle.rules.specs.Sheet.{Sheet}
use Rattle.rules.specs.Lines.{is_data, heads}
use Rattle.rules.specs.Points.{point_at}
use Rattle.rules.specs.Relations.{relation_at}
use Rattle.rules.specs.Headers.{two_digits}

pub record Tables : Type 0 where
  pub first : ℕ
  pub step : ℕ
  pub last : ℕ
  pub is_code : List ℕ → Bool

-- an instrument in a table: a digit 1-9 and a comma
abbrev pub is_instrument : List ℕ → Bool
is_instrument c = digit1 (col c 1) && eqb (col c 2) (ascii ",")

abbrev pub as_instrument : ℕ → List ℕ
as_instrument b = b ∷ ascii "," ∷ []

abbrev pub row : ℕ → ℕ → ℕ → (List ℕ → Bool) → Tables
row a d b t = record { first = a; step = d; last = b; is_code = t }

unfoldable pub tables_of : ℕ → Tables
tables_of i =
    pick (eqb i file_x) (row 400 20 560 is_instrument) (pick (eqb i file_r) (row 600 10 690 (of_family i)) (row 700 20 880 (of_family i)))

-- how many tables of the kind there can be
abbrev pub many : Tables → ℕ
many t = (t.last - t.first) / t.step + 1

unfoldable pub three_digits : ℕ → List ℕ
three_digits t = (48 + t / 100) ∷ two_digits (t % 100)

unfoldable pub opens : Layout → ℕ → List ℕ → Bool
opens L i l =
    let t = tables_of i in
    some (many t) (λ n. same (at l L.header_number) (three_digits (t.first + t.step * n)))

unfoldable pub names : Layout → ℕ → List ℕ → List ℕ → Bool
names L i c l = (tables_of i).is_code c && (same (at l L.header_code) c && opens L i l)

unfoldable pub named : Sheet → ℕ → List ℕ → Bool
named r i c = some (heads r) (λ j. names r.layout i c (r.row j))

unfoldable pub line_naming : Sheet → ℕ → List ℕ → ℕ
line_naming r i c =
    let k = least (heads r) (λ j. names r.layout i c (r.row j)) in
    pick (ltb k (heads r)) (k + 1) 0

-- 24: a first record names a code that an earlier one of that kind names
unfoldable pub named_before : Sheet → ℕ → ℕ → Bool
named_before r k i =
    let L = r.layout in
    let c = at (r.row k) L.header_code in
    names L i c (r.row k) && some k (λ j. names L i c (r.row j))

unfoldable pub rule24 : Sheet → ℕ → Plan
rule24 r k = need (every 3 (λ i. not (named_before r k (suc i)))) (№ 24 file_r (k + 1) r.layout.header_code.first)

-- 25: a code is used and not named; PM and KL are codes of no kind
unfoldable pub used_code : ℕ → Sheet → ℕ → List ℕ
used_code i f k = pick (eqb i file_x) (as_instrument (48 + (relation_at f k).instrument)) (point_at f k).code

abbrev pub code_span : Layout → ℕ → Span
code_span L i = pick (eqb i file_x) L.instrument L.code

unfoldable pub rule25 : ℕ → Sheet → Sheet → ℕ → Plan
rule25 i r f k =
    let c = used_code i f k in
    when (is_data f k && (tables_of i).is_code c) (need (named r i c) (№ 25 i (k + 1) (code_span f.layout i).first))

unfoldable pub codes_fit : Sheet → Sheet → Sheet → Plan
codes_fit r s x =
    up_to (heads r) (rule24 r)
    before up_to r.count (rule25 file_r r r) before up_to s.count (rule25 file_s r s) before up_to x.count (rule25 file_x r x)
