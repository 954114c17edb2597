-- What `spread::highest` leaves to show.
use Rattle.std.proofs.Common.{ℕ, ◌≡◌, ◌∙◌, sym, ap, arith}
use Rattle.lines.specs.Reading.{sheet_of}
use Rattle.rules.specs.Places.{greatest, pick}
use Rattle.rules.specs.Relations.{reach_at}
use Rattle.rules.proofs.Steps.{greatest_none}
use Rattle.spread.specs.Asked.{is_of}
use Rattle.spread.proofs.Asked.{greatest_max, highest_by}
use Rattle.spread.proofs.highest.Goals as goal

pub loop-k-init : goal.loop-k-init
loop-k-init c = sym (greatest_none _)

pub loop-k-preserved : goal.loop-k-preserved
loop-k-preserved c = c.max-h.ensures ∙ greatest_max _ _ _ _ c.loop-k.invariant c.upto_of.ensures.value

pub returns : goal.returns
returns c = record {
  value = let a = c.args in
      let X = sheet_of a.how a.x.now in
      let at = c.loop-k in
      let n = c.line_count-k-end.ensures.value in
      let z : at.k ≡ X.count = omega arith in
      at.invariant ∙ ap (λ (i : ℕ). greatest i (λ j. pick (is_of X c.coded-w.result j) (reach_at X j).upto 0)) z
      ∙ highest_by X c.requires.0 a.tape.now a.«record» c.requires.1 _ c.coded-w.ensures.value;
}
