-- The families of point codes, as the rows of the code's table.
--   families          = the table, each row a letter, what follows it, and the files
--   stands_in f i     = a family of the files f may stand in file i: R 1, S any other
--   followed_by s d   = the byte d is what follows its letter: a digit 1-9, or its second letter
--   taken_by i b d w  = the bytes b and d are a code of the family w, in file i
use Rattle.std.specs.Prelude.{ℕ, Bool, true, not, ◌&&◌, List, [], ◌∷◌, eqb}
use Rattle.rules.specs.Kinds.{digit1}
use Rattle.fields.specs.declared.families.Second.{Second}
use Rattle.fields.specs.declared.families.Second.TheVariants.{Digit, Letter}
use Rattle.fields.specs.declared.families.Files.{Files}
use Rattle.fields.specs.declared.families.Files.TheVariants.{Receivers, Sources, Both}
use Rattle.fields.specs.declared.families.Family.{Family}

abbrev row : ℕ → Second → Files → Family
row l s f = record { 0 = l; 1 = s; 2 = f }

abbrev pub families : List Family
families =
    row 71 Digit Receivers
    ∷ row 72 Digit Receivers
    ∷ row 82 Digit Receivers
    ∷ row 86 Digit Sources
    ∷ row 69 Digit Sources
    ∷ row 65 Digit Sources
    ∷ row 87 Digit Sources
    ∷ row 83 Digit Sources
    ∷ row 80 (Letter 77) Both
    ∷ row 75 (Letter 76) Both ∷ []

abbrev pub stands_in : Files → ℕ → Bool
stands_in Receivers i = eqb i 1
stands_in Sources i = not (eqb i 1)
stands_in Both i = true

abbrev pub followed_by : Second → ℕ → Bool
followed_by Digit d = digit1 d
followed_by (Letter x) d = eqb d x

abbrev pub taken_by : ℕ → ℕ → ℕ → Family → Bool
taken_by i b d w = eqb b w.0 && (stands_in w.2 i && followed_by w.1 d)
