-- The contract of this crate leaves one verdict. The marks that it keeps stand in a lent array, of which its caller reads nothing afterwards.
use mathlib.Core.Path.{◌≡◌, sym, ◌∙◌}
use contract.Lifetimes.{Lfts}
use borrow.Fn.World.{ArgsD, ResD}
use denote.Triple.Clauses.{AtExit}
use Rattle.lines.proofs.One.{verdict_one}
use Rattle.relations.specs.contracts.relations_fit as relations_fit
use Rattle.relations.proofs.relations_fit.Reads as relations_fit_reads

pub relations_fit_one : (κs : Lfts 5) (a : ArgsD relations_fit.signature κs) (v v' : ResD relations_fit.signature κs) (w w' : AtExit relations_fit.ended κs)
    → relations_fit_reads.Post κs a v w → relations_fit_reads.Post κs a v' w' → v ≡ v'
relations_fit_one κs a v v' w w' p p' = verdict_one v v' (p ∙ sym p')
