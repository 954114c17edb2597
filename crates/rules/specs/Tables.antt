-- "Processing asks what G2 was": the header line of R that names a code.
--   written i c       = a code that is asked for as a table has it: to an instrument's digit comes the comma
--   code_asked i c     = a code of that kind: two bytes, of an instrument one
--   table_line         = the line that names it, 0 where none does, after 20 and the set's own refusals
use Rattle.std.specs.Prelude.{ℕ, Bool, ◌&&◌, List, [], ◌∷◌, ◌++◌, eqb, ltb, length}
use Prim.Native.Char.{code as ascii}
use Rattle.rules.specs.Places.{pick}
use Rattle.rules.specs.Plan.{file_x, ◌before◌, run}
use Rattle.rules.specs.Sheet.{Sheet}
use Rattle.rules.specs.Lines.{kind_of}
use Rattle.rules.specs.Codes.{tables_of, line_naming}
use Rattle.rules.specs.Check.{Answer, header_line, rules, answer}
use Rattle.rules.specs.Questions.{rule20}

unfoldable pub written : ℕ → List ℕ → List ℕ
written i c = pick (eqb i file_x) (c ++ (ascii "," ∷ [])) c

unfoldable pub code_asked : ℕ → List ℕ → Bool
code_asked i c = ltb 0 i && (eqb (length (written i c)) 2 && (tables_of i).is_code (written i c))

unfoldable pub table_line : Sheet → Sheet → Sheet → ℕ → List ℕ → Answer
table_line r s x b c =
    let i = kind_of b in
    let a = header_line (line_naming r i (written i c)) in
    answer (run (rule20 (code_asked i c) before rules r s x)) a
