-- Demand 2 in words: what the answer to the cross-check says of the sheets of a set.
--   Judged r s x v = accepted exactly when it meets every rule, with the counts of the set; refused by a number and place exactly when that
--                    rule is broken there and each rule before it in the order is met
use Rattle.std.specs.Prelude.{ℕ, ◌≡◌, ◌↔◌, Ok, Err}
use Rattle.rules.specs.Plan.{№}
use Rattle.rules.specs.Sheet.{Sheet}
use Rattle.rules.specs.Meets.{Meets, Totals}
use Rattle.rules.specs.Refuses.{Refuses}
use Rattle.sets.specs.declared.Counts.{Counts}
use Rattle.sets.specs.Paper.{Answer}

pub record Judged (r s x : Sheet) (v : Answer) : Type 0 where
  -- "A set is accepted exactly when it meets the SPS text of 1993 as narrowed in document 01"
  pub accepted_when : ((c : Counts) × (v ≡ Ok c)) ↔ Meets r s x
  -- "The counts returned on acceptance are those of the set."
  pub counts_of : (c : Counts) → v ≡ Ok c → Totals r s x c.receivers c.shots c.relations c.traces c.dead_traces
  -- "otherwise the refusal is the first breach in the stated order"
  pub refused_when : (n f l c : ℕ) → (v ≡ Err (record { number = n; file = f; line = l; column = c })) ↔ Refuses r s x (№ n f l c)
