-- What `records::relation::relation_of` leaves to show.
use Rattle.rules.specs.Layout.{at, sps93}
use Rattle.rules.specs.Points.{index_at, name_of, number_of}
use Rattle.rules.specs.Relations.{relation}
use Rattle.records.proofs.relation.relation_of.Goals as goal

pub returns : goal.returns
unfolding relation sps93 number_of index_at name_of at
returns c = record { value = cc }
