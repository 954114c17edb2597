-- What `shots::missing` leaves to show.
use mathlib.Core.Path.{refl, sym, ap, ◌∙◌}
use borrow.Author.Tests.{ltb-true, lt-ltb}
use Rattle.rules.proofs.Tests.{clash}
use Rattle.std.specs.Option.{is_some}
use Rattle.shots.proofs.Held.{line_small, source_column}
use Rattle.shots.proofs.Places.{some_in, gone, gone_before}
use Rattle.shots.proofs.missing.Goals as goal

pub at_line-requires : goal.at_line-requires
at_line-requires c = let p = c.requires in line_small _ p.relations.few p.line.0

pub returns-then-is_some : goal.returns-then-is_some
returns-then-is_some c = record {
  verdict = let p = c.requires in
      let e = sym (some_in _ _) ∙ ap is_some (sym c.onward.ensures.value) ∙ sym c.is_some.ensures ∙ c.if-is_some.true in
      c.at_line.ensures.verdict ∙ gone_before _ _ p.shots _ 14 (source_column c.args.how _) p.gone _ refl (ltb-true _ _ e);
}

pub at_line-requires-2 : goal.at_line-requires-2
at_line-requires-2 c = let p = c.requires in line_small _ p.relations.few p.line.0

pub returns : goal.returns
returns c = record {
  verdict = let p = c.requires in
      let e = sym (some_in _ _) ∙ ap is_some (sym c.onward.ensures.value) ∙ sym c.is_some.ensures ∙ c.if-is_some.false in
      c.at_line-2.ensures.verdict
      ∙ gone _ _ p.shots _ 14 (source_column c.args.how _) p.gone _ refl (λ g. clash (sym e ∙ lt-ltb _ _ g));
}
