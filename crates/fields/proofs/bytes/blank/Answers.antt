-- What `fields::bytes::blank` leaves to show.
use mathlib.Core.Path.{◌∙◌, ap}
use Rattle.rules.specs.Text.{blank}
use Rattle.fields.proofs.Chains.{blank_by_test}
use Rattle.fields.proofs.bytes.blank.Goals as goal

pub returns : goal.returns
returns c = record { value = c.all_blank.ensures.value ∙ blank_by_test _ ∙ ap blank c.columns.ensures.value }
