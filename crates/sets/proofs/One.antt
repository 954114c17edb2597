-- The contracts of this crate leave one outcome: any two answers or counts that meet one of them are the same.
use mathlib.Core.Path.{◌≡◌, refl, sym, ap, ◌∙◌}
use Rattle.outcome.specs.One.{One, alike}
use Rattle.std.specs.Prelude.{Ok, Err}
use Rattle.lines.specs.Paper.{told}
use Rattle.lines.proofs.One.{told_one}
use Rattle.sets.specs.declared.Counts.{Counts}
use Rattle.sets.specs.Paper.{Answer, paper}
use Rattle.sets.specs.contracts.cross as cross
use Rattle.sets.proofs.cross.Reads as cross_reads
use Rattle.sets.specs.contracts.counting.points as points
use Rattle.sets.proofs.counting.points.Reads as points_reads
use Rattle.sets.specs.contracts.counting.relations as relations
use Rattle.sets.proofs.counting.relations.Reads as relations_reads
use Rattle.sets.specs.contracts.counting.traces as traces
use Rattle.sets.proofs.counting.traces.Reads as traces_reads

counts_one : (c c' : Counts) → c.receivers ≡ c'.receivers → c.shots ≡ c'.shots → c.relations ≡ c'.relations → c.traces ≡ c'.traces
    → c.dead_traces ≡ c'.dead_traces → c ≡ c'
counts_one c c' n m k t d =
    let same : ◌≡◌ {A = Counts}
    (record { receivers = c.receivers; shots = c.shots; relations = c.relations; traces = c.traces; dead_traces = c.dead_traces })
    (record { receivers = c'.receivers; shots = c'.shots; relations = c'.relations; traces = c'.traces; dead_traces = c'.dead_traces }) = cc in
    same

pub answer_one : (a b : Answer) → paper a ≡ paper b → a ≡ b
answer_one (Ok c) (Ok c') e = ap Ok (counts_one c c' (cc) (cc) (cc) (cc) (cc))
answer_one (Ok c) (Err d) e = cc
answer_one (Err d) (Ok c) e = cc
answer_one (Err d) (Err d') e = let z : told d ≡ told d' = cc in ap Err (told_one d d' z)

pub cross_one : One cross.ended cross_reads.Post
cross_one κs a v v' w w' p p' = (answer_one v v' (p ∙ sym p'), refl)

pub points_one : One points.ended points_reads.Post
points_one κs a v v' w w' = alike

pub relations_one : One relations.ended relations_reads.Post
relations_one κs a v v' w w' = alike

pub traces_one : One traces.ended traces_reads.Post
traces_one κs a v v' w w' = alike
