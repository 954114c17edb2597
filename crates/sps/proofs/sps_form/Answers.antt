-- What `sps::sps_form` leaves to show.
use Rattle.std.proofs.Common.{refl, ap, ◌∙◌, rules}
use Rattle.rules.specs.Layout.{sps93}
use Rattle.rules.specs.Medium.{Medium, sheet}
use Rattle.rules.specs.OneFile.{file_form}
use Rattle.rules.specs.Hosts.{host_number}
use Rattle.lines.specs.Reading.{sheet_of}
use Rattle.form.specs.Paper.{answered}
use Rattle.sps.proofs.Chosen.{by_reading, form_number}
use Rattle.sps.proofs.sps_form.Goals as goal

pub returns : goal.returns
unfolding sheet_of
returns c = record {
  answer = let a = c.args in
      c.number.ensures.value
      ∙ form_number _
      ∙ ap host_number (by_reading _ _ c.reading.ensures.by _ _ c.and_then.ensures answered (λ e. refl)
      (λ (M : Medium). file_form a.kind (sheet M sps93 a.file.now)) (λ how w. search rules));
}
