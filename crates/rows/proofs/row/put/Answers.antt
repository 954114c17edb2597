-- What `rows::row::put` leaves to show.
use Rattle.rows.proofs.Splices.{low_length, sixteen_put}
use Rattle.rows.proofs.row.put.Goals as goal

pub returns : goal.returns
returns c = record {
  written = sixteen_put c.args.at _ _ _ _ _ _ _ _ _ (low_length 4 c.args.a) (low_length 4 c.args.b) (low_length 4 c.args.c) c.requires
      c.put_four.ensures.written c.put_four-2.ensures.written c.put_four-3.ensures.written c.put_four-4.ensures.written;
}
