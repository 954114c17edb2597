-- What `records::cover::meets` leaves to show.
use Rattle.std.proofs.Common.{arith}
use Rattle.std.proofs.lemmas.Grind.{common_steps}
use Rattle.std.proofs.lemmas.Bool.Decides.{nat_tests}
use Rattle.records.proofs.Reaches.{meet_is}
use Rattle.records.proofs.cover.meets.Goals as goal

pub returns-then-a-b : goal.returns-then-a-b
returns-then-a-b c = record {
  value = λ p q e f w v. let m = meet_is p q _ _ e f w v in let o = c.overlap.ensures.value p q e f in grind (arith, common_steps, nat_tests);
}

pub returns-else-a-b : goal.returns-else-a-b
returns-else-a-b c = record { value = λ p q e f w v. let m = meet_is p q _ _ e f w v in grind (arith, common_steps, nat_tests) }
