-- What `codes::line_naming` leaves to show.
use Rattle.std.proofs.Common.{ap, sym, ◌∙◌, arith}
use borrow.Author.Tests.{eqb-true}
use Rattle.rules.specs.Layout.{sps93}
use Rattle.lines.proofs.Sheets.{layout_is}
use Rattle.codes.specs.Named.{place_on}
use Rattle.codes.proofs.Placed.{equal_places}
use Rattle.codes.proofs.Naming.{naming_at, naming_end}
use Rattle.codes.proofs.line_naming.Goals as goal

pub returns-then-eq-clause-value : goal.returns-then-eq-clause-value
returns-then-eq-clause-value c =
    let at = c.loop-k in
    let n = c.heads-k-end.ensures.value in
    let same = equal_places _ _ c.named_by.ensures.few c.place-p.ensures.few in
    let here = sym (c.named_by.ensures.value ∙ ap (place_on sps93) c.line_of-l.ensures.value)
    ∙ eqb-true _ _ (sym same ∙ sym c.eq.ensures ∙ c.if-eq.true) in
    naming_at _ (layout_is c.args.how c.args.r.now) _ _ _ c.requires.1.0 c.requires.1.1 _ c.place-p.ensures.value at.k (omega arith)
    at.invariant here

pub returns-clause-value : goal.returns-clause-value
returns-clause-value c =
    let at = c.loop-k in
    let n = c.heads-k-end.ensures.value in
    naming_end _ (layout_is c.args.how c.args.r.now) _ _ _ c.requires.1.0 c.requires.1.1 _ c.place-p.ensures.value at.k (omega arith) at.invariant
