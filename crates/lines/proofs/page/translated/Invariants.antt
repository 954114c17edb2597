-- What the loop of `lines::page::translated` keeps.
use Rattle.lines.specs.Reading.{IsPage}
use Rattle.lines.proofs.CodePage.{Translated}
use Rattle.lines.proofs.page.translated.Given as goal

abbrev pub invariant-loop-c : goal.invariant-loop-c
invariant-loop-c l = IsPage l.chars × Translated l.l l.t l.c
