-- What `rows::row::put_four` leaves to show.
use Rattle.std.proofs.Common.{◌∙◌}
use Rattle.rows.proofs.Splices.{four_put}
use Rattle.rows.proofs.row.put_four.Goals as goal

pub returns : goal.returns
returns c = record { written = four_put c.args.v c.args.at c.args.bytes.now _ (c.copy_from_slice.ensures.after ∙ c.to_le_bytes.ensures) }
