-- A plan part by part, as equations that the tactics go by: `plans` closes what a sequence of `?` leaves.
use Rattle.std.proofs.Common.{◌≡◌, refl}
use Rattle.rules.specs.Plan.{Refusal, Verdict, fine, refused, ◌or_else◌, Plan, ◌before◌, run}

pub run_before : (p q : Plan) → run (p before q) ≡ run p or_else run q
unfolding run
run_before p q = refl

pub met_first : (v : Verdict) → fine or_else v ≡ v
unfolding ◌or_else◌
met_first v = refl

pub broken_first : (w : Refusal) (v : Verdict) → refused w or_else v ≡ refused w
unfolding ◌or_else◌
broken_first w v = refl

pub ruleset plans = (run_before, met_first, broken_first)
