-- What `once::covered_once` leaves to show.
use mathlib.Core.Path.{◌∙◌}
use native.Mathlib.Omega.{arith}
use Rattle.once.proofs.Keeping.{few_lines, unmarked, kept_few, kept_now, kept_more, never_fine}
use Rattle.once.proofs.Decided.{column, pairs_fine, pairs_broken, marks_fine, marks_broken}
use Rattle.once.proofs.covered_once.Goals as goal

pub at_line-requires : goal.at_line-requires
at_line-requires c = let h = few_lines _ _ _ _ _ _ c.requires in
    omega arith

pub returns-then-not-pairs_apart : goal.returns-then-not-pairs_apart
returns-then-not-pairs_apart c = let v = c.at_line.ensures.verdict in
    record {
      verdict = v ∙ pairs_broken _ _ _ _ _ _ c.requires _ c.pairs_apart.ensures.value _ (column c.args.how _) c.if-not-pairs_apart.true;
      kept = never_fine _ _ v;
    }

pub overflow_add-k : goal.overflow_add-k
overflow_add-k c = let h = few_lines _ _ _ _ _ _ c.requires in
    omega arith

pub mark_lines-requires : goal.mark_lines-requires
mark_lines-requires c = (c.requires, unmarked _ _ _ _ _ _ c.requires c.if-k-start-lt-PAIRS.true)

pub returns-then-k-start-eq-PAIRS : goal.returns-then-k-start-eq-PAIRS
returns-then-k-start-eq-PAIRS c = let m = c.mark_lines.ensures in
    record {
      verdict = pairs_fine _ _ _ _ _ _ c.requires _ c.pairs_apart.ensures.value c.if-not-pairs_apart.false;
      kept = λ _. kept_now _ _ _ _ _ _ c.requires c.if-k-start-eq-PAIRS.true _ m.size m.written;
    }

pub returns-else-k-start-eq-PAIRS : goal.returns-else-k-start-eq-PAIRS
returns-else-k-start-eq-PAIRS c = record {
  verdict = pairs_fine _ _ _ _ _ _ c.requires _ c.pairs_apart.ensures.value c.if-not-pairs_apart.false;
  kept = λ _. kept_few _ _ _ _ _ _ c.requires c.if-k-start-lt-PAIRS.true c.if-k-start-eq-PAIRS.false;
}

pub at_line-requires-then-is_covered : goal.at_line-requires-then-is_covered
at_line-requires-then-is_covered c = let h = few_lines _ _ _ _ _ _ c.requires in
    omega arith

pub returns-then-is_covered : goal.returns-then-is_covered
returns-then-is_covered c = let v = c.at_line-then-is_covered.ensures.verdict in
    record {
      verdict = v
          ∙ marks_broken _ _ _ _ _ _ c.requires _ c.if-k-start-lt-PAIRS.false _ c.mark_of-v.ensures.value c.is_covered.ensures.value _ (column c.args.how _)
          c.if-is_covered.true;
      kept = never_fine _ _ v;
    }

pub returns : goal.returns
returns c = let m = c.mark_of-v.ensures.value in
    record {
      verdict = marks_fine _ _ _ _ _ _ c.requires _ c.if-k-start-lt-PAIRS.false _ m c.is_covered.ensures.value c.if-is_covered.false;
      kept = λ _. kept_more _ _ _ _ _ _ c.requires c.if-k-start-lt-PAIRS.false _ m _ c.mark_line.ensures.written;
    }
