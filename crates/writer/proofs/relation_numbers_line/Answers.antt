-- What `writer::relation_numbers_line` leaves to show.
use Rattle.std.proofs.Common.{ℕ, arith, get_or}
use Rattle.std.proofs.lemmas.Grind.{common_steps}
use Rattle.records.specs.Coded.{rows_of}
use Rattle.writer.proofs.Given.{takes_is, text_is}
use Rattle.writer.proofs.relation_numbers_line.Goals as goal

pub returns-then-counted : goal.returns-then-counted
unfolding rows_of
returns-then-counted c = record {
  value = let v : ℕ → ℕ = λ k. get_or c.args.v k 0 in
      let t = takes_is v _ c.reach.ensures.value in
      let x = text_is v in
      grind (arith, common_steps);
}

pub returns-else-counted : goal.returns-else-counted
returns-else-counted c = record {
  value = let t = takes_is (λ k. get_or c.args.v k 0) _ c.reach.ensures.value in
      grind (arith, common_steps);
}
