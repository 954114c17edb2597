-- The demand of the call for C hosts that writes all traces as rows, from its contract.
--   traces_told = its number is that of the cross-check's answer, and its slice holds the rows that the lookup answers
use Prim.Native.Nat.{ℕ}
use mathlib.Core.Path.{◌≡◌, ap, ◌∙◌}
use mathlib.Core.List.{List}
use contract.Lifetimes.{Lfts}
use denote.Triple.Clauses.{AtExit}
use borrow.Fn.World.{ArgsD, ResD}
use Rattle.rules.specs.Layout.{sps93}
use Rattle.rules.specs.Sheet.{Sheet}
use Rattle.rules.specs.Medium.{Medium, sheet}
use Rattle.rules.specs.Check.{Answer as PaperAnswer, cross}
use Rattle.rules.specs.Calls.{Choice, on, choice, Chosen, rows_in}
use Rattle.rules.specs.TraceRows.{traces_in}
use Rattle.rules.specs.Hosts.{host_number}
use Rattle.rules.proofs.Medium.{Lawful, askable}
use Rattle.rules.proofs.Media.{chosen_lawful}
use Rattle.sets.specs.Paper.{Answer as SetAnswer}
use Rattle.sets.specs.Judged.{Judged}
use Rattle.traces.specs.Said.{TracesTold}
use Rattle.traces.proofs.Rowed.{rowed}
use Rattle.sps.specs.Said.{RefusedAs, TellsSet}
use Rattle.sps.proofs.Demands.{set_known, told, answered_by, unknown}
use Rattle.sps.specs.contracts.sps_traces as sps_traces
use Rattle.sps.proofs.sps_traces.Reads as sps_traces_reads

module _ (M : Medium) (g : Lawful M) (r s x : List ℕ) where
  abbrev file : List ℕ → Sheet
  file = sheet M sps93

  rows_told : (n : ℕ) → n ≡ host_number (cross (file r) (file s) (file x)) → (i : ℕ) (o e : List ℕ) → e ≡ traces_in (file r) (file s) (file x) i o
      → (v : SetAnswer) × Judged (file r) (file s) (file x) v × TellsSet n v × TracesTold (file r) (file s) (file x) i v o e
  rows_told n p i o e w =
      let a = set_known M g r s x n p in
      (a.0, a.1, a.2, rowed (file r) (file s) (file x) (λ ok. askable M g _ _ x ok) i a.0 a.3 o e w)

-- "Answers the traces of the set"; "a refusal writes nothing; places after the last trace and bytes that are no whole place stay"
pub traces_told : (κs : Lfts 4) (a : ArgsD sps_traces.signature κs) (n : ResD sps_traces.signature κs) (w : AtExit sps_traces.ended κs)
    → sps_traces_reads.Post κs a n w
    → Chosen (choice a.0)
    (λ M. (v : SetAnswer) × Judged (sheet M sps93 a.1.0.now) (sheet M sps93 a.1.1.0.now) (sheet M sps93 a.1.1.1.0.now) v
    × TellsSet n v
    × TracesTold (sheet M sps93 a.1.0.now) (sheet M sps93 a.1.1.0.now) (sheet M sps93 a.1.1.1.0.now) a.1.1.1.1.0 v
    a.1.1.1.1.1.0.now w.1.1.1.1.1.0.now)
    (RefusedAs n 20 0 0 0 × (w.1.1.1.1.1.0.now ≡ a.1.1.1.1.1.0.now))
traces_told κs a n w p =
    let r = a.1.0.now in
    let s = a.1.1.0.now in
    let x = a.1.1.1.0.now in
    let i = a.1.1.1.1.0 in
    let o = a.1.1.1.1.1.0.now in
    let A : Medium → PaperAnswer = λ M. cross (sheet M sps93 r) (sheet M sps93 s) (sheet M sps93 x) in
    told (choice a.0) _ _
    (λ M y.
    rows_told M (chosen_lawful a.0 M y) r s x n (answered_by (choice a.0) (on M) A n p.0 y) i o w.1.1.1.1.1.0.now
    (p.1 ∙ ap (λ (u : Choice). rows_in u r s x i o) y))
    (λ y. (unknown (choice a.0) A n p.0 y, p.1 ∙ ap (λ (u : Choice). rows_in u r s x i o) y))
