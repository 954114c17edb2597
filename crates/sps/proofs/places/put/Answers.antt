-- What `sps::places::put` leaves to show.
use Rattle.std.proofs.Common.{◌∙◌, sym, arith}
use Rattle.sps.proofs.Placed.{one_put, from_short}
use Rattle.sps.proofs.places.put.Goals as goal

pub returns-then-i-bytes : goal.returns-then-i-bytes
returns-then-i-bytes c = record {
  written = one_put c.args.i c.args.v _ _ (omega arith) (c.copy_from_slice.ensures.after ∙ c.to_le_bytes.ensures);
}

pub returns-else-i-bytes : goal.returns-else-i-bytes
returns-else-i-bytes c = record { written = sym (from_short _ _ _ (omega arith)) }
