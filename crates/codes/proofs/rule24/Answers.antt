-- What `codes::rule24` leaves to show.
use Rattle.std.proofs.Common.{ap, ◌∙◌, arith}
use Rattle.rules.specs.Layout.{sps93}
use Rattle.rules.proofs.Steps.{none_yet, stops_here}
use Rattle.lines.proofs.Sheets.{layout_is}
use Rattle.codes.specs.Named.{place_on}
use Rattle.codes.proofs.Naming.{noted_none, once_broken}
use Rattle.codes.proofs.rule24.Goals as goal

pub loop-k-init : goal.loop-k-init
loop-k-init c = record { noted = noted_none _ (layout_is _ _) _ c.requires.1; met = none_yet _ }

pub returns-then-named-p-clause-verdict : goal.returns-then-named-p-clause-verdict
returns-then-named-p-clause-verdict c =
    let a = c.args in
    let at = c.loop-k in
    let n = c.heads-k-end.ensures.value in
    let p = c.in-Some.ensures.value ∙ ap (place_on sps93) c.line_of-l.ensures.value in
    c.at_line.ensures.verdict
    ∙ stops_here _ at.k _ _ (omega arith) at.invariant.met (once_broken _ (layout_is a.how a.r.now) at.k _ at.invariant.noted _ p c.if-named-p.true)
