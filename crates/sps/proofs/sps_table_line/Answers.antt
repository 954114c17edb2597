-- What `sps::sps_table_line` leaves to show.
use Rattle.std.proofs.Common.{refl, ap, ◌∙◌, rules}
use Rattle.rules.specs.Layout.{sps93}
use Rattle.rules.specs.Medium.{Medium, sheet}
use Rattle.rules.specs.Tables.{table_line}
use Rattle.rules.specs.Hosts.{host_number}
use Rattle.lines.specs.Reading.{sheet_of}
use Rattle.tables.specs.Paper.{paper}
use Rattle.sps.proofs.Chosen.{by_reading, line_number}
use Rattle.sps.proofs.sps_table_line.Goals as goal

pub returns : goal.returns
unfolding sheet_of
returns c = record {
  answer = let a = c.args in
      c.number.ensures.value
      ∙ line_number _
      ∙ ap host_number (by_reading _ _ c.reading.ensures.by _ _ c.and_then.ensures paper (λ e. refl)
      (λ (M : Medium). table_line (sheet M sps93 a.r.now) (sheet M sps93 a.s.now) (sheet M sps93 a.x.now) a.kind a.code.now) (λ how w. search rules));
}
