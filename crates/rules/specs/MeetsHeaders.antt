-- Refusals 7, 8 and 9 in words: what each rule says, and what it is to break it.
--   InHeader f k      = line k stands in the header, which is the H lines that stand first
--   Heads f h         = the header has h lines
--   OfType L t l      = the two digits of t, and a blank column after them
--   CutAt bs c        = c is what stands before the first semicolon, or all where there is none
--   Freed bs p        = bs is p between blanks, and p has no outer blank
--   Projected L l p   = p is the text of a header line, cut before the first semicolon and freed of outer blanks
--   Names p           = p is neither nothing nor N/A
--   Differ bs ds c    = two lines differ first in column c
--   Rule7 .. Rule9    = the rules of those numbers
--   Breach7 .. Breach9 = the contrary of each; of 9 in that line and column
use Rattle.std.specs.Prelude.{ℕ, suc, ◌≤◌, ◌<◌, ◌≡◌, ◌⊎◌, length, replicate}
use mathlib.Core.List.{List, [], ◌∷◌, ◌++◌, Memᴰ}
use Rattle.rules.specs.Text.{bytes}
use Rattle.rules.specs.Layout.{Layout, at}
use Rattle.rules.specs.Sheet.{Sheet}
use Rattle.rules.specs.Headers.{two_digits}
use Rattle.rules.specs.MeetsFields.{Blank}
use Rattle.rules.specs.MeetsForm.{Header, Data}

abbrev pub InHeader : Sheet → ℕ → Type 0
InHeader f k = (k < f.count) × ((j : ℕ) → j ≤ k → Header (f.row j))

abbrev pub Heads : Sheet → ℕ → Type 0
Heads f h = (h ≤ f.count) × (((j : ℕ) → j < h → Header (f.row j)) × (h < f.count → Data f h))

-- "a type counts only where column 4 is blank"
abbrev pub OfType : Layout → ℕ → List ℕ → Type 0
OfType L t l = (at l L.header_type ≡ two_digits t) × Blank (at l L.header_more)

-- 7: "R's header lacks one of the types 00 to 20"
abbrev pub Rule7 : Sheet → Type 0
Rule7 r = (t : ℕ) → t < 21 → (k : ℕ) × InHeader r k × OfType r.layout t (r.row k)

abbrev pub Breach7 : Sheet → Type 0
Breach7 r = (t : ℕ) × (t < 21) × ((k : ℕ) → InHeader r k → OfType r.layout t (r.row k) → ⊥)

-- 8: "an H18 whose columns 33-80, cut before the first semicolon and freed of outer blanks, are nothing or N/A"
abbrev pub CutAt : List ℕ → List ℕ → Type 0
CutAt bs c = (rest : List ℕ) × (bs ≡ c ++ rest) × (Memᴰ 59 c → ⊥) × ((rest ≡ []) ⊎ ((more : List ℕ) × (rest ≡ 59 ∷ more)))

abbrev pub Starts : List ℕ → Type 0
Starts p = (p ≡ []) ⊎ ((b : ℕ) × (bs : List ℕ) × (p ≡ b ∷ bs) × (b ≡ 32 → ⊥))

abbrev pub Ends : List ℕ → Type 0
Ends p = (p ≡ []) ⊎ ((bs : List ℕ) × (b : ℕ) × (p ≡ bs ++ (b ∷ [])) × (b ≡ 32 → ⊥))

abbrev pub Freed : List ℕ → List ℕ → Type 0
Freed bs p = (i j : ℕ) × (bs ≡ replicate i 32 ++ (p ++ replicate j 32)) × Starts p × Ends p

abbrev pub Projected : Layout → List ℕ → List ℕ → Type 0
Projected L l p = (c : List ℕ) × CutAt (at l L.header_text) c × Freed c p

abbrev pub Names : List ℕ → Type 0
Names p = (p ≡ [] → ⊥) × (p ≡ bytes "N/A" → ⊥)

abbrev pub Rule8 : Sheet → ℕ → Type 0
Rule8 r k =
    InHeader r k → OfType r.layout 18 (r.row k) → (p : List ℕ) → Projected r.layout (r.row k) p → Names p

abbrev pub Breach8 : Sheet → ℕ → Type 0
Breach8 r k =
    InHeader r k × OfType r.layout 18 (r.row k)
    × ((p : List ℕ) × Projected r.layout (r.row k) p × ((p ≡ []) ⊎ (p ≡ bytes "N/A")))

-- 9: "the header of S, then of X, differs from R's"; "first differing line and column; where one block ends early, the line after the
-- shorter block, column 0"
abbrev pub Rule9 : Sheet → Sheet → Type 0
Rule9 r f = (h : ℕ) × Heads r h × Heads f h × ((k : ℕ) → k < h → r.row k ≡ f.row k)

-- what follows in two lines: the next byte differs, or one line has none
abbrev pub Parts : List ℕ → List ℕ → Type 0
Parts [] [] = ⊥
Parts [] (d ∷ ds) = Unit {0}
Parts (b ∷ bs) [] = Unit {0}
Parts (b ∷ bs) (d ∷ ds) = b ≡ d → ⊥

abbrev pub Differ : List ℕ → List ℕ → ℕ → Type 0
Differ bs ds c = (p u v : List ℕ) × (bs ≡ p ++ u) × (ds ≡ p ++ v) × Parts u v × (suc (length p) ≡ c)

abbrev pub Breach9 : Sheet → Sheet → ℕ → ℕ → Type 0
Breach9 r f k c =
    ((j : ℕ) → j < k → r.row j ≡ f.row j)
    × ((InHeader r k × InHeader f k × Differ (r.row k) (f.row k) c)
    ⊎ (((Heads r k × InHeader f k) ⊎ (InHeader r k × Heads f k)) × (c ≡ 0)))
