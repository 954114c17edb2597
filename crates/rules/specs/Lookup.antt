-- The lookup from a trace to its receiver, and the way back.
--   found r x t n c         = what channel c of tape t and record n leads to
--   found_back r x t n j m   = the channel of R line j and component m
--   lookup, way_back         = the same, after 20 and the set's own refusals
use Rattle.std.specs.Prelude.{ℕ, ◌+◌, ◌-◌, Bool, ◌&&◌, List, eqb, leb, ltb}
use Rattle.rules.specs.Places.{pick}
use Rattle.rules.specs.Plan.{◌before◌, run}
use Rattle.rules.specs.Names.{same_name}
use Rattle.rules.specs.Sheet.{Sheet}
use Rattle.rules.specs.Lines.{is_point}
use Rattle.rules.specs.Points.{Point, point_at}
use Rattle.rules.specs.Relations.{Reach, reach_at}
use Rattle.rules.specs.Cover.{carries, covers, leads, component, channel_of}
use Rattle.rules.specs.Reaches.{reaches_of, search}
use Rattle.rules.specs.Order.{receiver_line}
use Rattle.rules.specs.Check.{Answer, leads_to_killed, trace, channel, no_trace, rules, answer}
use Rattle.rules.specs.Questions.{record_asked, channel_asked, line_asked, component_asked, rule20}

unfoldable pub found : Sheet → Sheet → List ℕ → ℕ → ℕ → Answer
found r x t n c =
    let k = search (reaches_of x) t n (λ q. carries q c) in
    let q = reach_at x k in
    let a = trace (receiver_line r q (leads q c) + 1) (component q c) (leads_to_killed r q c) in
    pick (ltb k x.count) a no_trace

unfoldable pub lookup : Sheet → Sheet → Sheet → List ℕ → ℕ → ℕ → Answer
lookup r s x t n c =
    let L = x.layout in
    let a = found r x t n c in
    answer (run (rule20 (record_asked L t n && channel_asked L c) before rules r s x)) a

-- the relation covers component m of that receiver
unfoldable pub reaches : Point → ℕ → Reach → Bool
reaches p m q =
    same_name q.receiver p.name
    && (eqb q.receiver_index p.index && (covers q p.number && (leb 1 m && leb m q.step)))

unfoldable pub found_back : Sheet → Sheet → List ℕ → ℕ → ℕ → ℕ → Answer
found_back r x t n j m =
    let p = point_at r (j - 1) in
    let k = search (reaches_of x) t n (reaches p m) in
    let a = channel (channel_of (reach_at x k) p.number m) in
    pick ((leb 1 j && (leb j r.count && is_point r (j - 1))) && ltb k x.count) a no_trace

unfoldable pub way_back : Sheet → Sheet → Sheet → List ℕ → ℕ → ℕ → ℕ → Answer
way_back r s x t n j m =
    let L = x.layout in
    let a = found_back r x t n j m in
    answer (run (rule20 (record_asked L t n && (line_asked j && component_asked m)) before rules r s x)) a
