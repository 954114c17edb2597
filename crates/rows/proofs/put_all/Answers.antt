-- What `rows::put_all` leaves to show.
use Rattle.std.proofs.Common.{arith}
use Rattle.rows.proofs.Wholes.{above_none, above_more, none_filled, line_more, all_filled}
use Rattle.rows.proofs.put_all.Goals as goal

pub loop-k-init : goal.loop-k-init
loop-k-init c = record { above = above_none _; places = none_filled _ _ _ _ }

pub loop-k-preserved : goal.loop-k-preserved
loop-k-preserved c = let at = c.loop-k in
    let d = c.args.places.now in
    record {
      above = above_more _ at.k _ c.put_line-above.ensures.above;
      places = line_more _ _ _ d at.k _ (c.put_line-above.ensures.written d at.invariant.places);
    }

pub returns : goal.returns
returns c = record {
  written = let n = c.line_count-k-end.ensures.value in all_filled _ _ _ _ _ _ (omega arith) c.loop-k.invariant.places;
}
