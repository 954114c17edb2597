-- The whole order of checks, the verdict, and the counts of an accepted set.
--   rules r s x      = "First the form of R, then S, then X. .. Last 15."
--   verdict r s x    = their first breach
--   points f         = how many receivers or shots
--   relations x      = how many relation lines
--   all_traces x      = the sum of T - F + 1
--   dead_of r q       = how many channels of a relation line lead to a killed receiver
--   dead_traces r x   = their sum
--   cross r s x      = the answer to the cross-check
use Rattle.std.specs.Prelude.{ℕ, ◌+◌, Bool}
use Rattle.rules.specs.Places.{pick, count, sum}
use Rattle.rules.specs.Plan.{Refusal, Verdict, fine, refused, Plan, file_r, file_s, file_x, ◌before◌, up_to, when, run}
use Rattle.rules.specs.Sheet.{Sheet}
use Rattle.rules.specs.Lines.{is_data, is_point, heads}
use Rattle.rules.specs.Points.{point_at, is_killed}
use Rattle.rules.specs.Relations.{Reach, reach_at}
use Rattle.rules.specs.Cover.{traces, leads}
use Rattle.rules.specs.Form.{form}
use Rattle.rules.specs.Headers.{rule7, rule8, rule9}
use Rattle.rules.specs.Codes.{codes_fit}
use Rattle.rules.specs.Order.{receiver_line, rule10, rule11, rule12, rule13, rule14, rule15, rule16, rule17, rule18, rule19}

-- 13, 14, 16, 17, 18, 19 of line k of X
unfoldable pub relation_fits : Sheet → Sheet → Sheet → ℕ → Plan
relation_fits r s x k =
    when (is_data x k)
    (rule13 s x k before rule14 s x k before rule16 x k before rule17 x k before rule18 r x k before rule19 x k)

unfoldable pub rules : Sheet → Sheet → Sheet → Plan
rules r s x =
    form file_r r before form file_s s before form file_x x
    before rule7 r before up_to (heads r) (rule8 r) before rule9 file_s r s before rule9 file_x r x
    before codes_fit r s x
    before up_to r.count (rule10 r)
    before up_to s.count (λ k. rule11 s k before rule12 s k)
    before up_to x.count (relation_fits r s x)
    before up_to s.count (rule15 s x)

unfoldable pub verdict : Sheet → Sheet → Sheet → Verdict
verdict r s x = run (rules r s x)

unfoldable pub points : Sheet → ℕ
points f = count f.count (is_point f)

unfoldable pub relations : Sheet → ℕ
relations x = count x.count (is_data x)

unfoldable pub all_traces : Sheet → ℕ
all_traces x = sum x.count (λ k. pick (is_data x k) (traces (reach_at x k)) 0)

-- "A killed receiver holds a channel; its trace is dead."
unfoldable pub leads_to_killed : Sheet → Reach → ℕ → Bool
leads_to_killed r q c = is_killed (point_at r (receiver_line r q (leads q c)))

unfoldable pub dead_of : Sheet → Reach → ℕ
dead_of r q = count (traces q) (λ c. leads_to_killed r q (q.from + c))

unfoldable pub dead_traces : Sheet → Sheet → ℕ
dead_traces r x = sum x.count (λ k. pick (is_data x k) (dead_of r (reach_at x k)) 0)

-- what a call answers; `formed`: one file is well formed, "accepted without counts"
pub data Answer : Type 0 where
  accepted : (receivers shots relations traces dead : ℕ) → Answer
  refusal : Refusal → Answer
  trace : (line component : ℕ) → (killed : Bool) → Answer
  channel : ℕ → Answer
  highest : ℕ → Answer
  header_line : ℕ → Answer
  no_trace : Answer
  formed : Answer

unfoldable pub answer : Verdict → Answer → Answer
answer fine a = a
answer (refused w) a = refusal w

unfoldable pub cross : Sheet → Sheet → Sheet → Answer
cross r s x = let a = accepted (points r) (points s) (relations x) (all_traces x) (dead_traces r x) in answer (verdict r s x) a
