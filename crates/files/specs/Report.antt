-- "A file that is missing gives `NO FILE R` (or S, X), one above the buffer `TOO LONG R`; the first in the order R, S, X counts."
--   part i b             = the bytes of a file, at the start of its buffer
--   fault n i            = the line of file n where it cannot be used; none where it can
--   f or_else g           = f, or g where f is none
--   report i r j s k x   = the line of three files, of which i, j and k were found, with their bytes in r, s and x
--   told t r s x         = the line of three files of which t says what was found
use Rattle.std.specs.Prelude.{ℕ, List, [], ◌∷◌, Ok, Err, take}
use Rattle.rules.specs.Plan.{file_r, file_s, file_x}
use Rattle.rules.specs.Disc.{file}
use Rattle.rules.specs.Check.{cross}
use Rattle.words.specs.Words.{line, no_file, too_long}
use Rattle.files.specs.declared.input.Unusable.TheVariants.{Missing, Longer}
use Rattle.files.specs.declared.Said.{Said}
use Rattle.files.specs.Reads.{Input, size_of}

abbrev pub part : Input → List ℕ → List ℕ
part i b = take (size_of i) b

unfoldable pub fault : ℕ → Input → List ℕ
fault n (Err Missing) = no_file n
fault n (Err Longer) = too_long n
fault n (Ok m) = []

infixr 40 ◌or_else◌
unfoldable pub ◌or_else◌ : List ℕ → List ℕ → List ℕ
[] or_else g = g
(b ∷ f) or_else g = b ∷ f

unfoldable pub report : Input → List ℕ → Input → List ℕ → Input → List ℕ → List ℕ
report i r j s k x =
    fault file_r i or_else fault file_s j or_else fault file_x k
    or_else line (cross (file (part i r)) (file (part j s)) (file (part k x)))

abbrev pub told : Said → List ℕ → List ℕ → List ℕ → List ℕ
told t r s x = report t.r.input r t.s.input s t.x.input x
