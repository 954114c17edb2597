-- The contracts of this crate leave one outcome: for every public function, any two results that meet its contract are the same.
use Rattle.outcome.specs.One.{One, alike}
use Rattle.keys.specs.contracts.precedes as precedes
use Rattle.keys.proofs.precedes.Reads as precedes_reads
use Rattle.keys.specs.contracts.takes as takes
use Rattle.keys.proofs.takes.Reads as takes_reads
use Rattle.keys.specs.contracts.killed as killed
use Rattle.keys.proofs.killed.Reads as killed_reads
use Rattle.keys.specs.contracts.key_of as key_of
use Rattle.keys.proofs.key_of.Reads as key_of_reads
use Rattle.keys.specs.contracts.is_at as is_at
use Rattle.keys.proofs.is_at.Reads as is_at_reads
use Rattle.keys.specs.contracts.holds as holds
use Rattle.keys.proofs.holds.Reads as holds_reads
use Rattle.keys.specs.contracts.same as same
use Rattle.keys.proofs.same.Reads as same_Reads
use Rattle.keys.specs.contracts.below as below
use Rattle.keys.proofs.below.Reads as below_reads
use Rattle.keys.specs.contracts.less as less
use Rattle.keys.proofs.less.Reads as less_reads
use Rattle.keys.specs.contracts.shot_key as shot_key
use Rattle.keys.proofs.shot_key.Reads as shot_key_reads
use Rattle.keys.specs.contracts.receiver_key as receiver_key_lem
use Rattle.keys.proofs.receiver_key.Reads as receiver_key_reads
use Rattle.keys.specs.contracts.parts.takes as parts_takes
use Rattle.keys.proofs.parts.takes.Reads as parts_takes_reads
use Rattle.keys.specs.contracts.parts.first as first
use Rattle.keys.proofs.parts.first.Reads as first_reads
use Rattle.keys.specs.contracts.parts.second as second
use Rattle.keys.proofs.parts.second.Reads as second_reads
use Rattle.keys.specs.contracts.parts.third as third
use Rattle.keys.proofs.parts.third.Reads as third_reads
use Rattle.keys.specs.contracts.Keyed.points as points
use Rattle.keys.proofs.Keyed.points.Reads as points_reads
use Rattle.keys.specs.contracts.Keyed.receivers as receivers
use Rattle.keys.proofs.Keyed.receivers.Reads as receivers_reads
use Rattle.keys.specs.contracts.Keyed.records as records
use Rattle.keys.proofs.Keyed.records.Reads as records_reads

pub takes_one : One takes.ended takes_reads.Post
takes_one κs a v v' w w' = alike

pub key_of_one : One key_of.ended key_of_reads.Post
key_of_one κs a v v' w w' = alike

pub is_at_one : One is_at.ended is_at_reads.Post
is_at_one κs a v v' w w' = alike

pub holds_one : One holds.ended holds_reads.Post
holds_one κs a v v' w w' = alike

pub same_one : One same.ended same_Reads.Post
same_one κs a v v' w w' = alike

pub below_one : One below.ended below_reads.Post
below_one κs a v v' w w' = alike

pub less_one : One less.ended less_reads.Post
less_one κs a v v' w w' = alike

pub precedes_one : One precedes.ended precedes_reads.Post
precedes_one κs a v v' w w' = alike

pub shot_key_one : One shot_key.ended shot_key_reads.Post
shot_key_one κs a v v' w w' = alike

pub receiver_key_one : One receiver_key_lem.ended receiver_key_reads.Post
receiver_key_one κs a v v' w w' = alike

pub parts_takes_one : One parts_takes.ended parts_takes_reads.Post
parts_takes_one κs a v v' w w' = alike

pub first_one : One first.ended first_reads.Post
first_one κs a v v' w w' = alike

pub second_one : One second.ended second_reads.Post
second_one κs a v v' w w' = alike

pub third_one : One third.ended third_reads.Post
third_one κs a v v' w w' = alike

pub killed_one : One killed.ended killed_reads.Post
killed_one κs a v v' w w' = alike

pub points_one : One points.ended points_reads.Post
points_one κs a v v' w w' = alike

pub receivers_one : One receivers.ended receivers_reads.Post
receivers_one κs a v v' w w' = alike

pub records_one : One records.ended records_reads.Post
records_one κs a v v' w w' = alike
