-- The steps of a question on a set.
--   passes x w p k    = line k of X is a relation line of that tape and record, and passes the test p
--   traced_on r q c    = what channel c leads to by a relation line that carries it
--   ReceiverLine r i  = R is well formed, and its line i is a receiver
--   finds r s q       = reach q is what is sought: it carries the channel, or reaches the component of the receiver in that line of R
--   SoughtIn r s      = what is asked of R: nothing for a channel; for a component, that its line is a receiver
use Rattle.std.specs.Prelude.{ℕ, ◌+◌, ◌<◌, ◌≡◌, Bool, true, ◌&&◌}
use Rattle.rules.specs.Sheet.{Sheet}
use Rattle.rules.specs.Lines.{is_point}
use Rattle.rules.specs.Relations.{Reach, reach_at}
use Rattle.rules.specs.Points.{point_at}
use Rattle.rules.specs.Cover.{carries, leads, component}
use Rattle.rules.specs.Lookup.{reaches}
use Rattle.rules.specs.Order.{receiver_line}
use Rattle.rules.specs.Check.{Answer, leads_to_killed, trace}
use Rattle.form.specs.Known.{Known}
use Rattle.spread.specs.Asked.{is_of}
use Rattle.spread.specs.declared.wanted.Wanted.{Wanted}
use Rattle.traces.specs.declared.search.Sought.{Sought}
use Rattle.traces.specs.declared.search.Sought.TheVariants.{Channel, Component}

unfoldable pub passes : Sheet → Wanted → (Reach → Bool) → ℕ → Bool
passes x w p k = is_of x w k && p (reach_at x k)

unfoldable pub traced_on : Sheet → Reach → ℕ → Answer
traced_on r q c = trace (receiver_line r q (leads q c) + 1) (component q c) (leads_to_killed r q c)

abbrev pub ReceiverLine : Sheet → ℕ → Type 0
ReceiverLine r i = Known 1 r × ((i < r.count) × (is_point r i ≡ true))

abbrev pub finds : Sheet → Sought → Reach → Bool
finds r (Channel c) = λ q. carries q c
finds r (Component i m) = reaches (point_at r i) m

abbrev pub SoughtIn : Sheet → Sought → Type 0
SoughtIn r (Channel c) = Unit {0}
SoughtIn r (Component i m) = ReceiverLine r i
