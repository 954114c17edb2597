-- The contracts of this crate leave one outcome, but for scratch: what `covered_once` keeps in t is what the next lines of the record need,
-- and a row that no line of it covers may have any lower mark.
use mathlib.Core.Path.{◌≡◌, refl, sym, ◌∙◌}
use contract.Lifetimes.{Lfts}
use borrow.Fn.World.{ArgsD, ResD}
use denote.Triple.Clauses.{AtExit}
use Rattle.outcome.specs.One.{One, both, alike}
use Rattle.lines.proofs.One.{verdict_one}
use Rattle.once.proofs.Spans.{spanned_one, cleared_one}
use Rattle.once.specs.contracts.clear as clear
use Rattle.once.proofs.clear.Reads as clear_reads
use Rattle.once.specs.contracts.covered_once as covered_once
use Rattle.once.proofs.covered_once.Reads as covered_once_reads
use Rattle.once.specs.contracts.marks.is_marked as is_marked
use Rattle.once.proofs.marks.is_marked.Reads as is_marked_reads
use Rattle.once.specs.contracts.marks.mark as mark
use Rattle.once.proofs.marks.mark.Reads as mark_reads

pub covered_once_one : (κs : Lfts 4) (a : ArgsD covered_once.signature κs) (v v' : ResD covered_once.signature κs)
    (s s' : AtExit covered_once.ended κs) → covered_once_reads.Post κs a v s → covered_once_reads.Post κs a v' s' → v ≡ v'
covered_once_one κs a v v' s s' p p' = verdict_one v v' (p.0 ∙ sym p'.0)

pub is_marked_one : One is_marked.ended is_marked_reads.Post
is_marked_one κs a v v' w w' = alike

pub mark_one : One mark.ended mark_reads.Post
mark_one κs a v v' w w' p p' = (refl, both (spanned_one _ _ _ _ _ _ p p') refl)

pub clear_one : One clear.ended clear_reads.Post
clear_one κs a v v' w w' p p' = (refl, both (cleared_one _ _ (p.1 ∙ sym p'.1) p.0 p'.0) refl)
