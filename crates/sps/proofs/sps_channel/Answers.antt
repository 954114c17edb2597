-- What `sps::sps_channel` leaves to show.
use Rattle.std.proofs.Common.{refl, ap, ◌∙◌, rules}
use Rattle.rules.specs.Layout.{sps93}
use Rattle.rules.specs.Medium.{Medium, sheet}
use Rattle.rules.specs.Lookup.{way_back}
use Rattle.rules.specs.Hosts.{host_number}
use Rattle.lines.specs.Reading.{sheet_of}
use Rattle.traces.specs.Paper.{paper_channel}
use Rattle.sps.proofs.Chosen.{by_reading, channel_number}
use Rattle.sps.proofs.sps_channel.Goals as goal

pub returns : goal.returns
unfolding sheet_of
returns c = record {
  answer = let a = c.args in
      c.number.ensures.value
      ∙ channel_number _
      ∙ ap host_number (by_reading _ _ c.reading.ensures.by _ _ c.and_then.ensures paper_channel (λ e. refl)
      (λ (M : Medium). way_back (sheet M sps93 a.r.now) (sheet M sps93 a.s.now) (sheet M sps93 a.x.now) a.tape.now a.«record» a.r_line a.component)
      (λ how w. search rules));
}
