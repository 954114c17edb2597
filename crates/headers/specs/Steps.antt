-- The steps of the headers.
--   has_type f n t      = one of the first n lines is a header line of type t
--   names bs           = a header text names a projection
--   named L k l        = 8 of line k
--   same_lines i r f n  = 9 of the first n lines, column by column
--   headers_fit r s x   = 7 and 8 of R, then 9 of S and of X
use Rattle.std.specs.Prelude.{ℕ, ◌+◌, Bool, not, ◌&&◌, List, []}
use Rattle.rules.specs.Places.{some}
use Rattle.rules.specs.Plan.{Plan, №, file_r, file_s, file_x, need, ◌before◌, up_to, when}
use Rattle.rules.specs.Text.{same, bytes}
use Rattle.rules.specs.Layout.{Layout, at}
use Rattle.rules.specs.Sheet.{Sheet}
use Rattle.rules.specs.Lines.{heads}
use Rattle.rules.specs.Headers.{is_type, cut, freed_before, freed_after, same_columns, rule7, rule8, rule9}

unfoldable pub has_type : Sheet → ℕ → ℕ → Bool
has_type f n t = some n (λ k. is_type f.layout t (f.row k))

unfoldable pub names : List ℕ → Bool
names bs = let p = freed_after (freed_before (cut bs)) in not (same p []) && not (same p (bytes "N/A"))

unfoldable pub named : Layout → ℕ → List ℕ → Plan
named L k l = when (is_type L 18 l) (need (names (at l L.header_text)) (№ 8 file_r (k + 1) L.header_text.first))

unfoldable pub same_lines : ℕ → Sheet → Sheet → ℕ → Plan
same_lines i r f n = up_to n (λ k. same_columns i k 1 (r.row k) (f.row k))

unfoldable pub headers_fit : Sheet → Sheet → Sheet → Plan
headers_fit r s x = rule7 r before up_to (heads r) (rule8 r) before rule9 file_s r s before rule9 file_x r x
