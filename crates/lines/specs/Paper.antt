-- The code's answers as the paper's.
--   told e, paper v = a refusal; a verdict
--   unless_none n   = a column, or a file, where 0 says that there is none
--   into p n        = a place so many bytes into a lent slice
use Rattle.std.specs.Prelude.{ℕ, zero, suc, ◌+◌, Result, Ok, Err, Option, Some, None}
use Rattle.rules.specs.Plan.{Refusal as PaperRefusal, Verdict as PaperVerdict, fine, refused, №}
use Rattle.lines.specs.declared.Refusal.{Refusal}

abbrev pub told : Refusal → PaperRefusal
told e = № e.number e.file e.line e.column

abbrev pub Verdict : Type 0
Verdict = Result (Unit {0}) Refusal

abbrev pub paper : Verdict → PaperVerdict
paper (Ok _) = fine
paper (Err e) = refused (told e)

abbrev pub unless_none : ℕ → Option ℕ
unless_none zero = None
unless_none (suc n) = Some (suc n)

abbrev pub into : ℕ × ℕ → ℕ → ℕ × ℕ
into p n = (p.0, n + p.1)
