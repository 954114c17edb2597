-- The contracts of this crate leave one outcome: any two results that meet one of them are the same. Those of `straight` say only
-- what follows where they are true.
use mathlib.Core.Path.{◌≡◌, refl, sym, ◌∙◌}
use Rattle.rules.specs.Relations.{Reach as PaperReach}
use Rattle.outcome.specs.One.{One, alike}
use Rattle.lines.specs.Paper.{paper}
use Rattle.fields.specs.Texts.{Wide}
use Rattle.records.specs.Coded.{coded_reach}
use Rattle.records.specs.declared.relation.Reach.{Reach}
use Rattle.records.specs.contracts.cover.traces as traces
use Rattle.records.proofs.cover.traces.Reads as traces_reads
use Rattle.records.specs.contracts.cover.carries as carries
use Rattle.records.proofs.cover.carries.Reads as carries_reads
use Rattle.records.specs.contracts.cover.lowest as lowest
use Rattle.records.proofs.cover.lowest.Reads as lowest_reads
use Rattle.records.specs.contracts.cover.highest as highest
use Rattle.records.proofs.cover.highest.Reads as highest_reads
use Rattle.records.specs.contracts.cover.receivers as receivers
use Rattle.records.proofs.cover.receivers.Reads as receivers_reads
use Rattle.records.specs.contracts.cover.receiver_on as receiver_on
use Rattle.records.proofs.cover.receiver_on.Reads as receiver_on_reads
use Rattle.records.specs.contracts.cover.covers as covers
use Rattle.records.proofs.cover.covers.Reads as covers_reads
use Rattle.records.specs.contracts.cover.leads as leads
use Rattle.records.proofs.cover.leads.Reads as leads_reads
use Rattle.records.specs.contracts.cover.component as component
use Rattle.records.proofs.cover.component.Reads as component_reads
use Rattle.records.specs.contracts.cover.channel_of as channel_of
use Rattle.records.proofs.cover.channel_of.Reads as channel_of_reads
use Rattle.records.specs.contracts.cover.meets as meets
use Rattle.records.proofs.cover.meets.Reads as meets_reads
use Rattle.records.specs.contracts.fits.is_header as is_header
use Rattle.records.proofs.fits.is_header.Reads as is_header_reads
use Rattle.records.specs.contracts.fits.is_marker as is_marker_lem
use Rattle.records.proofs.fits.is_marker.Reads as is_marker_reads
use Rattle.records.specs.contracts.fits.rule5 as rule5
use Rattle.records.proofs.fits.rule5.Reads as rule5_reads
use Rattle.records.specs.contracts.fits.counts as counts
use Rattle.records.proofs.fits.counts.Reads as counts_reads
use Rattle.records.specs.contracts.fits.rule6 as rule6
use Rattle.records.proofs.fits.rule6.Reads as rule6_reads
use Rattle.records.specs.contracts.state.state_in as state_in
use Rattle.records.proofs.state.state_in.Reads as state_in_reads
use Rattle.records.specs.contracts.state.state_of as state_of
use Rattle.records.proofs.state.state_of.Reads as state_of_reads
use Rattle.records.specs.contracts.point.point_of as point_of_lem
use Rattle.records.proofs.point.point_of.Reads as point_of_reads
use Rattle.records.specs.contracts.relation.number_at as number_at
use Rattle.records.proofs.relation.number_at.Reads as number_at_reads
use Rattle.records.specs.contracts.relation.index_at as index_at
use Rattle.records.proofs.relation.index_at.Reads as index_at_reads
use Rattle.records.specs.contracts.relation.reach_of as reach_of
use Rattle.records.proofs.relation.reach_of.Reads as reach_of_reads
use Rattle.records.specs.contracts.relation.relation_of as relation_of_lem
use Rattle.records.proofs.relation.relation_of.Reads as relation_of_reads
use Rattle.records.specs.contracts.table.row_count as row_count
use Rattle.records.proofs.table.row_count.Reads as row_count_reads
use Rattle.records.specs.contracts.table.row_at as row_at
use Rattle.records.proofs.table.row_at.Reads as row_at_reads
use Rattle.records.proofs.Back.{row_one}
use Rattle.records.proofs.Reaches.{one_value}
use Rattle.lines.proofs.One.{verdict_one}

pub is_header_one : One is_header.ended is_header_reads.Post
is_header_one κs a v v' w w' = alike

pub is_marker_one : One is_marker_lem.ended is_marker_reads.Post
is_marker_one κs a v v' w w' = alike

pub rule5_one : One rule5.ended rule5_reads.Post
rule5_one κs a v v' w w' p p' = (verdict_one v v' (p ∙ sym p'), refl)

pub counts_one : One counts.ended counts_reads.Post
counts_one κs a v v' w w' p p' = (verdict_one v v' (one_value a.0 _ (paper v) (paper v') p p'), refl)

pub rule6_one : One rule6.ended rule6_reads.Post
rule6_one κs a v v' w w' p p' = (verdict_one v v' (p ∙ sym p'), refl)

pub point_of_one : One point_of_lem.ended point_of_reads.Post
point_of_one κs a v v' w w' = alike

pub number_at_one : One number_at.ended number_at_reads.Post
number_at_one κs a v v' w w' = alike

pub index_at_one : One index_at.ended index_at_reads.Post
index_at_one κs a v v' w w' = alike

pub reach_of_one : One reach_of.ended reach_of_reads.Post
reach_of_one κs a v v' w w' = alike

pub relation_of_one : One relation_of_lem.ended relation_of_reads.Post
relation_of_one κs a v v' w w' = alike

pub row_count_one : One row_count.ended row_count_reads.Post
row_count_one κs a v v' w w' = alike

pub row_at_one : One row_at.ended row_at_reads.Post
row_at_one κs a v v' w w' p p' = (row_one v v' (p.0 ∙ sym p'.0), refl)

-- what is promised of every reach of the paper that a value codes
pub traces_one : One traces.ended traces_reads.Post
traces_one κs a v v' w w' p p' = (one_value a.0 _ v v' p p', refl)

pub carries_one : One carries.ended carries_reads.Post
carries_one κs a v v' w w' p p' = (one_value a.0 _ v v' p p', refl)

pub receivers_one : One receivers.ended receivers_reads.Post
receivers_one κs a v v' w w' p p' = (one_value a.0 _ v v' p p', refl)

pub receiver_on_one : One receiver_on.ended receiver_on_reads.Post
receiver_on_one κs a v v' w w' p p' = (one_value a.0 _ v v' p p', refl)

pub covers_one : One covers.ended covers_reads.Post
covers_one κs a v v' w w' p p' = (one_value a.0 _ v v' p p', refl)

pub lowest_one : One lowest.ended lowest_reads.Post
lowest_one κs a v v' w w' p p' = (one_value a.0 _ v v' p.0 p'.0, refl)

pub highest_one : One highest.ended highest_reads.Post
highest_one κs a v v' w w' p p' = (one_value a.0 _ v v' p.0 p'.0, refl)

pub leads_one : One leads.ended leads_reads.Post
leads_one κs a v v' w w' p p' = (one_value a.0 _ v v' p p', refl)

pub component_one : One component.ended component_reads.Post
component_one κs a v v' w w' p p' = (one_value a.0 _ v v' p p', refl)

pub channel_of_one : One channel_of.ended channel_of_reads.Post
channel_of_one κs a v v' w w' p p' = (one_value a.0 _ v v' p p', refl)

-- that of `meets` is of two such reaches whose names are of bytes
abbrev Named : Reach → Type 0
Named q = (p : PaperReach) × (q ≡ coded_reach p) × Wide p.receiver

pub meets_one : One meets.ended (λ κs a v x. (Named a.0 × Named a.1.0) × meets_reads.Post κs a v x)
meets_one κs a v v' w w' p p' =
    let s = p.0.0 in
    let t = p.0.1 in
    (p.1 s.0 t.0 s.1 t.1 s.2 t.2 ∙ sym (p'.1 s.0 t.0 s.1 t.1 s.2 t.2), refl)

pub state_in_one : One state_in.ended state_in_reads.Post
state_in_one κs a v v' w w' = alike

pub state_of_one : One state_of.ended state_of_reads.Post
state_of_one κs a v v' w w' = alike
