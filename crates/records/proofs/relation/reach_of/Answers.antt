-- What `records::relation::reach_of` leaves to show.
use Rattle.rules.specs.Layout.{at, sps93}
use Rattle.rules.specs.Points.{index_at, name_of, number_of}
use Rattle.rules.specs.Relations.{reach}
use Rattle.records.proofs.relation.reach_of.Goals as goal

pub returns : goal.returns
unfolding reach sps93 number_of index_at name_of at
returns c = record { value = cc }
