-- What `once::reach_of` leaves to show.
use Rattle.once.proofs.Values.{reach_at_lem}
use Rattle.once.proofs.reach_of.Goals as goal

pub returns : goal.returns
returns c = record {
  value = let a = c.args in
      reach_at_lem a.how a.x.now a.k _ _ c.line_of.ensures.value c.reach_of.ensures.value;
}
