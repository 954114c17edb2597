-- The headers: refusals 7, 8 and 9.
--   is_type L t l     = l is a header line of type t, with a blank column after it
--   projection L l   = its text, cut before the first semicolon and freed of outer blanks
--   rule7 .. rule9   = the refusals of those numbers
use Rattle.std.specs.Prelude.{ℕ, suc, ◌+◌, ◌/◌, ◌%◌, min, Bool, false, not, ◌&&◌, List, [], ◌∷◌, eqb}
use Prim.Native.Char.{code as ascii}
use Rattle.rules.specs.Places.{pick, every, some}
use Rattle.rules.specs.Plan.{Plan, №, file_r, pass, need, ◌before◌, up_to, when}
use Rattle.rules.specs.Text.{same, blank, bytes}
use Rattle.rules.specs.Layout.{Layout, at}
use Rattle.rules.specs.Sheet.{Sheet}
use Rattle.rules.specs.Lines.{heads}

unfoldable pub two_digits : ℕ → List ℕ
two_digits t = (48 + t / 10) ∷ (48 + t % 10) ∷ []

unfoldable pub is_type : Layout → ℕ → List ℕ → Bool
is_type L t l = same (at l L.header_type) (two_digits t) && blank (at l L.header_more)

-- 7: R's header lacks one of the types 00 to 20
unfoldable pub rule7 : Sheet → Plan
rule7 r =
    need (every 21 (λ t. some (heads r) (λ k. is_type r.layout t (r.row k)))) (№ 7 file_r (heads r + 1) 0)

-- cut before the first semicolon
unfoldable pub cut : List ℕ → List ℕ
cut [] = []
cut (b ∷ bs) = let more = b ∷ cut bs in pick (eqb b (ascii ";")) [] more

-- freed of the blanks before it, and after it
unfoldable pub freed_before : List ℕ → List ℕ
freed_before [] = []
freed_before (b ∷ bs) = let more = freed_before bs in pick (eqb b 32) more (b ∷ bs)

unfoldable pub freed_after : List ℕ → List ℕ
freed_after [] = []
freed_after (b ∷ bs) = let more = b ∷ freed_after bs in pick (blank (b ∷ bs)) [] more

unfoldable pub projection : Layout → List ℕ → List ℕ
projection L l = freed_after (freed_before (cut (at l L.header_text)))

-- 8: an H18 that names nothing or N/A
unfoldable pub rule8 : Sheet → ℕ → Plan
rule8 r k =
    let L = r.layout in
    let l = r.row k in
    let p = projection L l in
    when (is_type L 18 l)
    (need (not (same p []) && not (same p (bytes "N/A"))) (№ 8 file_r (k + 1) L.header_text.first))

-- 9: the header of a file differs from R's, by the columns of a line, from column c on
unfoldable pub same_columns : ℕ → ℕ → ℕ → List ℕ → List ℕ → Plan
same_columns i k c [] [] = pass
same_columns i k c [] (d ∷ ds) = need false (№ 9 i (k + 1) c)
same_columns i k c (b ∷ bs) [] = need false (№ 9 i (k + 1) c)
same_columns i k c (b ∷ bs) (d ∷ ds) =
    let more = same_columns i k (suc c) bs ds in
    need (eqb b d) (№ 9 i (k + 1) c) before more

-- then by the number of lines
unfoldable pub rule9 : ℕ → Sheet → Sheet → Plan
rule9 i r f =
    let n = min (heads r) (heads f) in
    up_to n (λ k. same_columns i k 1 (r.row k) (f.row k))
    before need (eqb (heads r) (heads f)) (№ 9 i (n + 1) 0)
