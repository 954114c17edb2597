-- What `receivers::first_row` leaves to show.
use Rattle.std.proofs.Common.{◌∙◌}
use Rattle.receivers.proofs.Numbers.{first_row_is, lowest_read}
use Rattle.receivers.proofs.first_row.Goals as goal

pub returns : goal.returns
returns c = record {
  value = let a = c.args in
      let p = c.requires.1 in
      first_row_is _ _ _ _ _ _
      (c.min-low.ensures
      ∙ lowest_read a.how a.x.now p.0 _ p.1 _ c.own_of-l.ensures.value _ _ c.number.ensures.value c.number-2.ensures.value) _
      c.receiver_key.ensures.value _ c.row_of.ensures.value;
}
