-- What `writer::counted` leaves to show.
use Rattle.std.proofs.Common.{arith}
use Rattle.std.proofs.lemmas.Grind.{common_steps}
use Rattle.rules.specs.Writer.{counted}
use Rattle.records.proofs.Reaches.{paper_reach, reach_coded}
use Rattle.writer.proofs.Written.{six_same}
use Rattle.writer.proofs.counted.Goals as goal

pub returns : goal.returns
unfolding counted
returns c = record {
  value = let q = c.args.q in
      let e = c.counts.ensures.verdict (paper_reach q) (reach_coded q) in
      let s = six_same q in
      grind (arith, common_steps);
}
