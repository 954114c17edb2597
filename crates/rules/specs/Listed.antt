-- The published list: with which file, lines and columns each number may stand, as the paper's table has them.
--   row n fs ls cs    = number n stands in one of the files fs, one of the lines ls and one of the columns cs
--   only c            = column c
--   begins ws         = the first columns of a table's fields
--   published         = the rows 1 to 21, 24, 25 and 29 of files and questions, then 22 and 23 of a line that is written
--   Listed w          = w is from the list
use Rattle.std.specs.Prelude.{ℕ, ◌≡◌, Bool, true, false, ◌&&◌, ◌||◌, List, [], ◌∷◌, ◌++◌, eqb, leb}
use Rattle.rules.specs.Plan.{Refusal, №, file_r, file_s, file_x}
use Rattle.rules.specs.Layout.{Span, ◌to◌, letter_column, sps93}
use Rattle.rules.specs.Rows.{Row, header_rows, point_rows, relation_rows}

pub record Entry : Type 0 where
  pub number : ℕ
  pub files : List ℕ
  pub lines : Span
  pub columns : List Span

abbrev pub row : ℕ → List ℕ → Span → List Span → Entry
row n fs ls cs = record { number = n; files = fs; lines = ls; columns = cs }

abbrev pub only : ℕ → List Span
only c = (c to c) ∷ []

unfoldable pub begins : List Row → List Span
begins [] = []
begins (w ∷ ws) = only w.columns.first ++ begins ws

unfoldable pub published : List Entry
published =
    row 1 (file_r ∷ file_s ∷ file_x ∷ []) (1 to 10000) (only 0)
    ∷ row 2 (file_r ∷ file_s ∷ file_x ∷ []) (10000 to 10000) (only 0)
    ∷ row 3 (file_r ∷ file_s ∷ file_x ∷ []) (1 to 9999) ((1 to 82) ∷ [])
    ∷ row 4 (file_r ∷ file_s ∷ file_x ∷ []) (1 to 9999) (only letter_column)
    ∷ row 5 (file_r ∷ file_s ∷ []) (1 to 9999) (begins (header_rows sps93) ++ begins (point_rows sps93 file_r))
    ∷ row 5 (file_x ∷ []) (1 to 9999) (begins (header_rows sps93) ++ begins (relation_rows sps93))
    ∷ row 6 (file_x ∷ []) (1 to 9999) (only 39 ++ only 47 ++ only 72)
    ∷ row 7 (file_r ∷ []) (1 to 10000) (only 0)
    ∷ row 8 (file_r ∷ []) (1 to 9999) (only 33)
    ∷ row 9 (file_s ∷ file_x ∷ []) (1 to 10000) ((0 to 80) ∷ [])
    ∷ row 10 (file_r ∷ []) (1 to 9999) (only 2)
    ∷ row 11 (file_s ∷ []) (1 to 9999) (only 72)
    ∷ row 12 (file_s ∷ []) (1 to 9999) (only 2)
    ∷ row 13 (file_x ∷ []) (1 to 9999) (only 14)
    ∷ row 14 (file_x ∷ []) (1 to 9999) (only 14)
    ∷ row 15 (file_s ∷ []) (1 to 9999) (only 1)
    ∷ row 16 (file_x ∷ []) (1 to 9999) (only 2)
    ∷ row 17 (file_x ∷ []) (1 to 9999) (only 39)
    ∷ row 18 (file_x ∷ []) (1 to 9999) (only 64)
    ∷ row 19 (file_x ∷ []) (1 to 9999) (only 64)
    ∷ row 20 (0 ∷ []) (0 to 0) (only 0)
    ∷ row 21 (0 ∷ []) (0 to 0) (only 0)
    ∷ row 24 (file_r ∷ []) (1 to 9999) (only 33)
    ∷ row 25 (file_r ∷ file_s ∷ []) (1 to 9999) (only 27)
    ∷ row 25 (file_x ∷ []) (1 to 9999) (only 13)
    ∷ row 29 (file_r ∷ file_s ∷ file_x ∷ []) (1 to 10000) (only 0)
    ∷ row 22 (0 ∷ []) (0 to 0) (only 0)
    ∷ row 23 (0 ∷ []) (0 to 0) (only 0) ∷ []

unfoldable pub one_of_files : ℕ → List ℕ → Bool
one_of_files f [] = false
one_of_files f (g ∷ gs) = eqb g f || one_of_files f gs

unfoldable pub in_span : ℕ → Span → Bool
in_span c s = leb s.first c && leb c s.last

unfoldable pub in_spans : ℕ → List Span → Bool
in_spans c [] = false
in_spans c (s ∷ ss) = in_span c s || in_spans c ss

unfoldable pub stands_in : Entry → ℕ → ℕ → ℕ → ℕ → Bool
stands_in e n f l c = eqb e.number n && (one_of_files f e.files && (in_span l e.lines && in_spans c e.columns))

unfoldable pub is_listed : List Entry → ℕ → ℕ → ℕ → ℕ → Bool
is_listed [] n f l c = false
is_listed (e ∷ es) n f l c = stands_in e n f l c || is_listed es n f l c

abbrev pub Listed : Refusal → Type 0
Listed (№ n f l c) = is_listed published n f l c ≡ true
