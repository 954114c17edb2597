-- The contracts of this crate leave one outcome: any two results, and contents of the lent slices, that meet one of them are
-- the same.
use mathlib.Core.Path.{◌≡◌, refl, sym, ap, ◌∙◌}
use Rattle.outcome.specs.One.{One, both, alike}
use Rattle.sets.proofs.One.{answer_one as set_one}
use Rattle.std.specs.Prelude.{Ok, Err, Some, None}
use Rattle.lines.specs.Paper.{told}
use Rattle.lines.proofs.One.{told_one}
use Rattle.traces.specs.declared.Reached.{Reached}
use Rattle.traces.specs.Paper.{Answer, ChannelAnswer, Spread, paper, paper_channel, paper_spread}
use Rattle.traces.specs.contracts.asked.record as asked_record
use Rattle.traces.proofs.asked.record.Reads as asked_record_reads
use Rattle.traces.specs.contracts.asked.channel as asked_channel
use Rattle.traces.proofs.asked.channel.Reads as asked_channel_reads
use Rattle.traces.specs.contracts.asked.receiver as asked_receiver
use Rattle.traces.proofs.asked.receiver.Reads as asked_receiver_reads
use Rattle.traces.specs.contracts.search.first as search_first
use Rattle.traces.proofs.search.first.Reads as search_first_reads
use Rattle.traces.specs.contracts.forth.receiver_line as forth_receiver_line
use Rattle.traces.proofs.forth.receiver_line.Reads as forth_receiver_line_reads
use Rattle.traces.specs.contracts.back.reaches as back_reaches
use Rattle.traces.proofs.back.reaches.Reads as back_reaches_reads
use Rattle.traces.specs.contracts.trace as trace
use Rattle.traces.proofs.trace.Reads as trace_reads
use Rattle.traces.specs.contracts.channel as channel
use Rattle.traces.proofs.channel.Reads as channel_reads
use Rattle.traces.specs.contracts.spread_table as spread_table
use Rattle.traces.proofs.spread_table.Reads as spread_table_reads
use Rattle.traces.specs.contracts.rows as rows
use Rattle.traces.proofs.rows.Reads as rows_reads
use Rattle.traces.specs.contracts.spread_bytes as spread_bytes
use Rattle.traces.proofs.spread_bytes.Reads as spread_bytes_reads

same_reached : (t u : Reached) → t.line ≡ u.line → t.component ≡ u.component → t.killed ≡ u.killed → t ≡ u
same_reached t u l m d =
    let same : ◌≡◌ {A = Reached} (record { line = t.line; component = t.component; killed = t.killed })
    (record { line = u.line; component = u.component; killed = u.killed }) = cc in
    same

pub answer_one : (a b : Answer) → paper a ≡ paper b → a ≡ b
answer_one (Ok (Some t)) (Ok (Some u)) e = ap (λ (w : Reached). Ok (Some w)) (same_reached t u (cc) (cc) (cc))
answer_one (Ok (Some t)) (Ok None) e = cc
answer_one (Ok (Some t)) (Err d) e = cc
answer_one (Ok None) (Ok (Some u)) e = cc
answer_one (Ok None) (Ok None) e = refl
answer_one (Ok None) (Err d) e = cc
answer_one (Err d) (Ok (Some u)) e = cc
answer_one (Err d) (Ok None) e = cc
answer_one (Err d) (Err f) e = let z : told d ≡ told f = cc in ap Err (told_one d f z)

pub back_one : (a b : ChannelAnswer) → paper_channel a ≡ paper_channel b → a ≡ b
back_one (Ok (Some c)) (Ok (Some c')) e = cc
back_one (Ok (Some c)) (Ok None) e = cc
back_one (Ok (Some c)) (Err d) e = cc
back_one (Ok None) (Ok (Some c)) e = cc
back_one (Ok None) (Ok None) e = refl
back_one (Ok None) (Err d) e = cc
back_one (Err d) (Ok (Some c)) e = cc
back_one (Err d) (Ok None) e = cc
back_one (Err d) (Err f) e = let z : told d ≡ told f = cc in ap Err (told_one d f z)

pub asked_record_one : One asked_record.ended asked_record_reads.Post
asked_record_one κs a v v' w w' = alike

pub asked_channel_one : One asked_channel.ended asked_channel_reads.Post
asked_channel_one κs a v v' w w' = alike

pub asked_receiver_one : One asked_receiver.ended asked_receiver_reads.Post
asked_receiver_one κs a v v' w w' = alike

pub search_first_one : One search_first.ended search_first_reads.Post
search_first_one κs a v v' w w' = alike

pub forth_receiver_line_one : One forth_receiver_line.ended forth_receiver_line_reads.Post
forth_receiver_line_one κs a v v' w w' = alike

pub back_reaches_one : One back_reaches.ended back_reaches_reads.Post
back_reaches_one κs a v v' w w' = alike

pub trace_one : One trace.ended trace_reads.Post
trace_one κs a v v' w w' p p' = (answer_one v v' (p ∙ sym p'), refl)

pub channel_one : One channel.ended channel_reads.Post
channel_one κs a v v' w w' p p' = (back_one v v' (p ∙ sym p'), refl)

pub spread_one : (a b : Spread) → paper_spread a ≡ paper_spread b → a ≡ b
spread_one (Ok h) (Ok h') e = cc
spread_one (Ok h) (Err d) e = cc
spread_one (Err d) (Ok h) e = cc
spread_one (Err d) (Err f) e = let z : told d ≡ told f = cc in ap Err (told_one d f z)

pub spread_table_one : One spread_table.ended spread_table_reads.Post
spread_table_one κs a v v' w w' p p' = (
  spread_one v v' (p.answer ∙ sym p'.answer),
  both refl (both refl (both refl (both refl (both refl (both (p.lines ∙ sym p'.lines) (both (p.components ∙ sym p'.components) refl)))))),
)

pub spread_bytes_one : One spread_bytes.ended spread_bytes_reads.Post
spread_bytes_one κs a v v' w w' p p' = (
  spread_one v v' (p.answer ∙ sym p'.answer),
  both refl (both refl (both refl (both refl (both refl (both (p.lines ∙ sym p'.lines) (both (p.components ∙ sym p'.components) refl)))))),
)

pub rows_one : One rows.ended rows_reads.Post
rows_one κs a v v' w w' p p' =
    (set_one v v' (p.0 ∙ sym p'.0), both refl (both refl (both refl (both refl (both refl (both (p.1 ∙ sym p'.1) refl))))))
