-- What `receivers::row_of` leaves to show.
use Rattle.receivers.proofs.Rows.{row_none, row_first, row_here, row_other}
use Rattle.receivers.proofs.row_of.Goals as goal
use Rattle.receivers.proofs.row_of.Goals.{else-e-o-via-then-e-o+else-is_row, else-e-o-via-else-e-o}

pub is_row-requires : goal.is_row-requires
is_row-requires c = row_first _ _ c.requires.0 c.requires.1 _ _ c.first_from-e.ensures.value c.if-e-o.true

pub returns-then-is_row : goal.returns-then-is_row
returns-then-is_row c = record {
  value = row_here _ _ c.requires.0 c.requires.1 _ _ c.first_from-e.ensures.value c.if-e-o.true _
      c.is_row.ensures.value c.if-is_row.true;
}

pub returns-else-e-o : goal.returns-else-e-o
returns-else-e-o c = let first = c.first_from-e.ensures.value in record {
  value = elim c.else-e-o.branch [
    | else-e-o-via-then-e-o+else-is_row w ↦ row_other _ _ c.requires.0 c.requires.1 _ _ first _ w.is_row.ensures.value w.if-is_row.false
    | else-e-o-via-else-e-o w ↦ rw (← w.if-e-o.false) (row_none _ _ c.requires.0 c.requires.1 _ _ first w.if-e-o.false)
  ];
}
