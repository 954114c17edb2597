-- What `sps::line::sps_write_relation` leaves to show.
use Rattle.std.proofs.Common.{ap, ◌∙◌}
use Rattle.rules.specs.Hosts.{packed}
use Rattle.sps.proofs.Written.{relation_taken_lem, relation_written_lem, relation_short, short_number, short_line, written_number, written_line}
use Rattle.sps.proofs.line.sps_write_relation.Goals as goal

pub returns-then-bytes-ne128 : goal.returns-then-bytes-ne128
returns-then-bytes-ne128 c = let t = relation_short _ c.if-bytes-ne128.true in
    record {
      answer = short_number _ t _ _ (c.pack.ensures.value ∙ ap packed c.unplaced.ensures.value);
      written = short_line _ t _ _ _;
    }

pub returns : goal.returns
returns c = let w = c.write_relation_numbers.ensures in
    let n = c.if-bytes-ne128.false in
    let s = c.get_all.ensures.value in
    let t = relation_taken_lem _ n c.get_all.result s in
    record {
      answer = written_number c.write_relation_numbers.result _ _ t _ w.verdict _ c.number.ensures.value;
      written = written_line c.write_relation_numbers.result _ _ t _ w.verdict _ _ _ _ (relation_written_lem _ n c.get_all.result s) w.written;
    }
