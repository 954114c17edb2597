-- The contracts of this crate leave one outcome: any two results that meet one of them are the same.
use Rattle.outcome.specs.One.{One, alike}
use Rattle.receivers.specs.contracts.first_row as first_row
use Rattle.receivers.proofs.first_row.Reads as first_row_reads
use Rattle.receivers.specs.contracts.all_there as AllThere
use Rattle.receivers.proofs.all_there.Reads as all_there_reads

pub first_row_one : One first_row.ended first_row_reads.Post
first_row_one κs a v v' w w' = alike

pub all_there_one : One AllThere.ended all_there_reads.Post
all_there_one κs a v v' w w' = alike
