-- What `form::rule4` leaves to show.
use mathlib.Core.Path.{◌∙◌}
use Rattle.rules.specs.Sheet.{most_lines}
use borrow.Author.Rules.{rules}
use Rattle.form.proofs.Laws.{four_after_data, four_letter, four_other, four_under_headers}
use Rattle.form.proofs.rule4.Goals as goal

pub returns-then-headers : goal.returns-then-headers
returns-then-headers c = record { verdict = four_under_headers _ _ _ _ _ c.is_header.ensures.value c.if-is_header.true c.if-headers.true }

pub at_line-requires : goal.at_line-requires
unfolding most_lines
at_line-requires c = search rules

pub returns-then-is_header : goal.returns-then-is_header
returns-then-is_header c = record {
  verdict = c.at_line.ensures.verdict ∙ four_after_data _ _ _ _ _ c.is_header.ensures.value c.if-is_header.true c.if-headers.false;
}

pub returns-then-l-letter : goal.returns-then-l-letter
returns-then-l-letter c = record {
  verdict = four_letter _ _ _ _ _ c.is_header.ensures.value c.if-is_header.false _ c.letter.ensures.value
      c.if-l-letter.true;
}

pub at_line-requires-2 : goal.at_line-requires-2
unfolding most_lines
at_line-requires-2 c = search rules

pub returns : goal.returns
returns c = record {
  verdict = let p = c.is_header.ensures.value in
      c.at_line-2.ensures.verdict
      ∙ four_other _ _ _ _ _ p c.if-is_header.false _ c.letter.ensures.value c.if-l-letter.false;
}
