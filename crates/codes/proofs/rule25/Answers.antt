-- What `codes::rule25` leaves to show.
use Rattle.std.proofs.Common.{ap, sym, ◌∙◌, arith}
use Rattle.rules.proofs.Steps.{stops_here}
use Rattle.lines.proofs.Sheets.{layout_is}
use Rattle.codes.proofs.Used.{note_broken, refused_here}
use Rattle.codes.specs.Named.{allowed}
use Rattle.codes.proofs.rule25.Goals as goal

pub returns-then-not-named-p : goal.returns-then-not-named-p
returns-then-not-named-p c = record {
  verdict = let a = c.args in
      let at = c.loop-k in
      let n = c.line_count-k-end.ensures.value in
      let broken = note_broken a.named.now _ _ at.k _ (layout_is a.how a.f.now) c.code_column.ensures.value
      (ap (allowed a.named.now) (sym c.in-Some.ensures.value)
      ∙ refused_here a.named.now c.in-Some.p (omega (arith, c.in-Some.ensures.few)) c.if-not-named-p.true) in
      c.at_line.ensures.verdict ∙ stops_here _ at.k _ _ (omega arith) at.invariant broken;
}
