-- What `sps::sps_trace` leaves to show.
use Rattle.std.proofs.Common.{refl, ap, ◌∙◌, rules}
use Rattle.rules.specs.Layout.{sps93}
use Rattle.rules.specs.Medium.{Medium, sheet}
use Rattle.rules.specs.Lookup.{lookup}
use Rattle.rules.specs.Hosts.{host_number}
use Rattle.lines.specs.Reading.{sheet_of}
use Rattle.traces.specs.Paper.{paper}
use Rattle.sps.proofs.Chosen.{by_reading, traced_number}
use Rattle.sps.proofs.sps_trace.Goals as goal

pub returns : goal.returns
unfolding sheet_of
returns c = record {
  answer = let a = c.args in
      c.number.ensures.value
      ∙ traced_number _
      ∙ ap host_number (by_reading _ _ c.reading.ensures.by _ _ c.and_then.ensures paper (λ e. refl)
      (λ (M : Medium). lookup (sheet M sps93 a.r.now) (sheet M sps93 a.s.now) (sheet M sps93 a.x.now) a.tape.now a.«record» a.channel) (λ how w. search rules));
}
