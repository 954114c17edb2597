-- The contracts of this crate leave one outcome, but for scratch: what stands in the arrays of `dead_traces` at exit is no part of its answer.
use mathlib.Core.Path.{◌≡◌, sym, ◌∙◌}
use contract.Lifetimes.{Lfts}
use borrow.Fn.World.{ArgsD, ResD}
use denote.Triple.Clauses.{AtExit}
use Rattle.outcome.specs.One.{One, alike}
use Rattle.dead.specs.contracts.one_if_killed as one_if_killed
use Rattle.dead.proofs.one_if_killed.Reads as one_if_killed_reads
use Rattle.dead.specs.contracts.dead_traces as dead_traces
use Rattle.dead.proofs.dead_traces.Reads as dead_traces_reads

pub dead_traces_one : (κs : Lfts 4) (a : ArgsD dead_traces.signature κs) (v v' : ResD dead_traces.signature κs)
    (s s' : AtExit dead_traces.ended κs) → dead_traces_reads.Post κs a v s → dead_traces_reads.Post κs a v' s' → v ≡ v'
dead_traces_one κs a v v' s s' p p' = p ∙ sym p'

pub one_if_killed_one : One one_if_killed.ended one_if_killed_reads.Post
one_if_killed_one κs a v v' w w' = alike
