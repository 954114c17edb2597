-- Refusals 24 and 25 in words: what each rule says, and what it is to break it.
--   CodeOf i c          = a code of kind i: receivers and sources a letter of a family and a digit, instruments a digit and a comma
--   Opens a d b s       = s is one of the numbers a, a + d, a + 2 d, .. b in three digits
--   FirstRecord L i l   = l is the first record of a table of kind i
--   NamesCode L i c l   = and c, a code of that kind, stands in columns 33-34
--   Named r i c         = a header line of R names c
--   Uses i f k          = line k of file i uses a code
--   Rule24, Rule25      = the rules of those numbers
--   Breach24, Breach25  = the contrary of each
use Rattle.std.specs.Prelude.{ℕ, suc, ◌+◌, ◌*◌, ◌≤◌, ◌<◌, ◌≡◌, List}
use Prim.Native.Char.{code as ascii}
use Rattle.rules.specs.Plan.{file_r, file_x}
use Rattle.rules.specs.Text.{col}
use Rattle.rules.specs.Layout.{Layout, at}
use Rattle.rules.specs.Sheet.{Sheet}
use Rattle.rules.specs.Codes.{three_digits, used_code}
use Rattle.rules.specs.MeetsFields.{Family}
use Rattle.rules.specs.MeetsForm.{Data}
use Rattle.rules.specs.MeetsHeaders.{InHeader}

abbrev pub Digit1 : ℕ → Type 0
Digit1 b = (49 ≤ b) × (b ≤ 57)

-- "for instruments a digit 1-9 and a comma"; "PM and KL too, names nothing"
abbrev pub CodeOf : ℕ → List ℕ → Type 0
CodeOf i c =
    (i ≡ file_x → Digit1 (col c 1) × (col c 2 ≡ ascii ",")) × ((i ≡ file_x → ⊥) → Family i (col c 1) × Digit1 (col c 2))

-- "H600 to H609 is the first receiver code, up to H690; H700 to H719 the first source code, up to H880; H400 to H419 the first instrument code,
-- up to H560": columns 2-4 are the number of a table's first record
abbrev pub Opens : ℕ → ℕ → ℕ → List ℕ → Type 0
Opens a d b s = (n : ℕ) × (a + d * n ≤ b) × (s ≡ three_digits (a + d * n))

abbrev pub FirstRecord : Layout → ℕ → List ℕ → Type 0
FirstRecord L i l =
    (i ≡ file_x → Opens 400 20 560 (at l L.header_number))
    × ((i ≡ file_x → ⊥)
    → (i ≡ file_r → Opens 600 10 690 (at l L.header_number)) × ((i ≡ file_r → ⊥) → Opens 700 20 880 (at l L.header_number)))

abbrev pub NamesCode : Layout → ℕ → List ℕ → List ℕ → Type 0
NamesCode L i c l = CodeOf i c × ((at l L.header_code ≡ c) × FirstRecord L i l)

-- 24: "a code named by two first records of one kind, in file R at the earliest line that repeats one"
abbrev pub Rule24 : Sheet → ℕ → Type 0
Rule24 r k =
    InHeader r k → (i : ℕ) → i < 3 → (c : List ℕ) → NamesCode r.layout (suc i) c (r.row k)
    → (j : ℕ) → j < k → NamesCode r.layout (suc i) c (r.row j) → ⊥

abbrev pub Breach24 : Sheet → ℕ → Type 0
Breach24 r k =
    InHeader r k × ((i : ℕ) × (i < 3) × ((c : List ℕ) × NamesCode r.layout (suc i) c (r.row k)
    × ((j : ℕ) × (j < k) × NamesCode r.layout (suc i) c (r.row j))))

-- 25: "a code used and not named"; "Each code used in R and S, PM and KL aside, and each instrument used in X must be named"
abbrev pub Named : Sheet → ℕ → List ℕ → Type 0
Named r i c = (j : ℕ) × InHeader r j × NamesCode r.layout i c (r.row j)

abbrev pub Uses : ℕ → Sheet → ℕ → Type 0
Uses i f k = Data f k × CodeOf i (used_code i f k)

abbrev pub Rule25 : ℕ → Sheet → Sheet → ℕ → Type 0
Rule25 i r f k = Uses i f k → Named r i (used_code i f k)

abbrev pub Breach25 : ℕ → Sheet → Sheet → ℕ → Type 0
Breach25 i r f k = Uses i f k × (Named r i (used_code i f k) → ⊥)
