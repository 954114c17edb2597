-- What `sps::line::sps_write_point` leaves to show.
use Rattle.std.proofs.Common.{ap, ◌∙◌}
use Rattle.rules.specs.Hosts.{packed}
use Rattle.sps.proofs.Written.{point_taken_lem, point_written_lem, point_short, short_number, short_line, written_number, written_line}
use Rattle.sps.proofs.line.sps_write_point.Goals as goal

pub returns-then-bytes-ne128 : goal.returns-then-bytes-ne128
returns-then-bytes-ne128 c = let t = point_short _ c.if-bytes-ne128.true _ in
    record {
      answer = short_number _ t _ _ (c.pack.ensures.value ∙ ap packed c.unplaced.ensures.value);
      written = short_line _ t _ _ _;
    }

pub returns : goal.returns
returns c = let w = c.write_point_numbers.ensures in
    let n = c.if-bytes-ne128.false in
    let s = c.get_all.ensures.value in
    let t = point_taken_lem _ n c.get_all.result s _ in
    record {
      answer = written_number c.write_point_numbers.result _ _ t _ w.verdict _ c.number.ensures.value;
      written = written_line c.write_point_numbers.result _ _ t _ w.verdict _ _ _ _ (point_written_lem _ n c.get_all.result s _) w.written;
    }
