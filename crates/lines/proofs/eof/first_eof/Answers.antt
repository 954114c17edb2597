-- What `lines::eof::first_eof` leaves to show.
use Rattle.std.proofs.Common.{sym, rules, ◌∙◌}
use Rattle.rules.proofs.Steps.{least_none_yet, least_more, least_stop}
use Rattle.lines.proofs.eof.first_eof.Goals as goal

pub loop-k-init : goal.loop-k-init
loop-k-init c = search (rules, least_none_yet)

pub returns-then-says_eof : goal.returns-then-says_eof
returns-then-says_eof c = record {
  value = sym (least_stop _ _ _ c.loop-k-test.true c.loop-k.invariant (sym c.says_eof.ensures.value ∙ c.if-says_eof.true));
}

pub loop-k-preserved : goal.loop-k-preserved
loop-k-preserved c = least_more _ _ c.loop-k.invariant (sym c.says_eof.ensures.value ∙ c.if-says_eof.false)
