-- What `sps::line::put_point` leaves to show.
use Rattle.std.proofs.lemmas.Result.{err_from_is_err_and}
use Rattle.lines.specs.Reading.{sheet_of}
use Rattle.sps.proofs.Chosen.{when_on, when_none}
use Rattle.sps.proofs.Read.{nothing_told, refused_told, point_told}
use Rattle.sps.proofs.line.put_point.Goals as goal

pub returns-in_err-reading : goal.returns-in_err-reading
returns-in_err-reading c = let p = err_from_is_err_and c.from_residual.result c.from_residual.ensures.1 in
    record { told = rw (p.1, p.2) (when_none _ _ _ c.in_err-reading.ensures.by.0 (nothing_told _ c.in_err-reading.ensures.by.1 _)) }

pub returns-in_err-p : goal.returns-in_err-p
unfolding sheet_of
returns-in_err-p c = let p = err_from_is_err_and c.from_residual-in_err-p.result c.from_residual-in_err-p.ensures.1 in
    record { told = rw (p.1, p.2) (when_on _ _ _ _ c.in_ok-reading.ensures.by (refused_told _ _ c.in_err-p.ensures.read _ _ _)) }

pub returns : goal.returns
unfolding sheet_of
returns c = let r = c.in_ok-p.ensures.read in
    record {
      told = when_on _ _ _ _ c.in_ok-reading.ensures.by
          (point_told _ _ r.0 r.1 _ c.point_places.ensures.value _ _ c.put_all.ensures.written _ c.state_number.ensures.value);
    }
