-- Demand 3 of the calls `trace`, `channel`, `spread_table` and `spread_bytes`, from their contracts, whatever the medium.
--   Record                    = which record of which set is asked for
--   traced, came_back         = what one answer says
--   LookedUp, AskedBack       = a lookup, and the way back, of a record has that answer
--   never_shared, there_and_back = what two answers of one record say
--   tabled, bytes_tabled      = what the spread table says, and what stands in its slices
--   rows_told                 = what is said of all traces, and what stands in the slice
--   agrees                    = each of its places agrees with the lookup of its channel, in either form
use Prim.Native.Nat.{ℕ, ◌+◌, ◌*◌, ◌/◌, ◌≤◌, ◌<◌}
use mathlib.Core.Path.{◌≡◌, refl, sym, ap, subst, ◌∙◌}
use mathlib.Core.Logic.{◌↔◌}
use mathlib.Core.Bool.{Bool}
use mathlib.Core.List.{List}
use contract.Lifetimes.{Lfts}
use denote.Triple.Clauses.{AtExit}
use borrow.Fn.World.{ArgsD, ResD}
use lib.ListN.{length, get_or}
use Rattle.rules.specs.Sheet.{Sheet}
use Rattle.rules.specs.Check.{Answer as PaperAnswer}
use Rattle.rules.specs.Spread.{line_of, component_of}
use Rattle.rules.specs.Hosts.{numbers_of}
use Rattle.rules.specs.Meets.{Meets}
use Rattle.rules.proofs.Demand3.{Askable}
use Rattle.rules.proofs.Medium.{askable}
use Rattle.lines.specs.Reading.{medium_of, sheet_of}
use Rattle.lines.specs.declared.Reading.{Reading}
use Rattle.lines.proofs.Sheets.{lawful}
use Rattle.std.specs.Prelude.{Ok, Some}
use Rattle.traces.specs.Paper.{Answer, ChannelAnswer, paper, paper_channel, leading}
use Rattle.traces.specs.Calls.{lookup_on, way_back_on}
use Rattle.traces.specs.Said.{Traced, Returned, TracesTold, Tabled}
use Rattle.traces.proofs.Told as told
use Rattle.traces.proofs.Rowed.{rowed}
use Rattle.traces.specs.contracts.trace as trace
use Rattle.traces.proofs.trace.Reads as trace_reads
use Rattle.traces.specs.contracts.channel as channel
use Rattle.traces.proofs.channel.Reads as channel_reads
use Rattle.traces.specs.contracts.spread_table as spread_table
use Rattle.traces.proofs.spread_table.Reads as spread_table_reads
use Rattle.traces.specs.contracts.spread_bytes as spread_bytes
use Rattle.traces.proofs.spread_bytes.Reads as spread_bytes_reads
use Rattle.traces.specs.contracts.rows as rows
use Rattle.traces.proofs.rows.Reads as rows_reads

-- which record of which set is asked for, and how its files are read
pub record Record : Type 0 where
  pub how : Reading
  pub receivers : List ℕ
  pub shots : List ℕ
  pub relations : List ℕ
  pub tape : List ℕ
  pub number : ℕ

abbrev asked : Reading → List ℕ → List ℕ → List ℕ → List ℕ → ℕ → Record
asked how r s x t n = record { how = how; receivers = r; shots = s; relations = x; tape = t; number = n }

asks : (how : Reading) (r s x : List ℕ) → Meets (sheet_of how r) (sheet_of how s) (sheet_of how x) → Askable (sheet_of how x)
unfolding sheet_of
asks how r s x ok = askable (medium_of how) (lawful how) (sheet_of how r) (sheet_of how s) x ok

-- "In an accepted set each tape, record and channel covered by a relation line leads to one receiver line and one component, those of the
-- line's arithmetic. .. what is not covered is answered "no trace"."
pub traced : (κs : Lfts 4) (a : ArgsD trace.signature κs) (v : ResD trace.signature κs) (w : AtExit trace.ended κs)
    → trace_reads.Post κs a v w
    → Traced (sheet_of a.0.how a.1.0.now) (sheet_of a.0.how a.1.1.0.now) (sheet_of a.0.how a.1.1.1.0.now)
    a.1.1.1.1.0.now a.0.«record» a.1.1.1.1.1.0 v
traced κs a v w p =
    told.traced _ _ _ (asks a.0.how a.1.0.now a.1.1.0.now a.1.1.1.0.now) a.1.1.1.1.0.now a.0.«record»
    a.1.1.1.1.1.0 v p

pub came_back : (κs : Lfts 4) (a : ArgsD channel.signature κs) (v : ResD channel.signature κs) (w : AtExit channel.ended κs)
    → channel_reads.Post κs a v w
    → Returned (sheet_of a.0.how a.1.0.now) (sheet_of a.0.how a.1.1.0.now) (sheet_of a.0.how a.1.1.1.0.now)
    a.1.1.1.1.0.now a.0.«record» a.1.1.1.1.1.0 a.1.1.1.1.1.1.0 v
came_back κs a v w p =
    told.came_back _ _ _ (asks a.0.how a.1.0.now a.1.1.0.now a.1.1.1.0.now) a.1.1.1.1.0.now a.0.«record»
    a.1.1.1.1.1.0 a.1.1.1.1.1.1.0 v p

-- a lookup of channel c of a record has that answer
abbrev lookup_of : Record → ℕ → PaperAnswer
lookup_of q c = lookup_on q.how q.receivers q.shots q.relations q.tape q.number c

pub data LookedUp (q : Record) (c : ℕ) (v : Answer) : Type 0 where
  by_trace : (κs : Lfts 4) (a : ArgsD trace.signature κs) (w : AtExit trace.ended κs) → trace_reads.Post κs a v w
      → asked a.0.how a.1.0.now a.1.1.0.now a.1.1.1.0.now a.1.1.1.1.0.now a.0.«record» ≡ q
      → a.1.1.1.1.1.0 ≡ c → LookedUp q c v

moved : (o q : Record) (i c : ℕ) (v : Answer) → paper v ≡ lookup_of o i → o ≡ q → i ≡ c → paper v ≡ lookup_of q c
moved o q i c v p e f = subst (λ (n : ℕ). paper v ≡ lookup_of q n) f (subst (λ (u : Record). paper v ≡ lookup_of u i) e p)

looked_up : (q : Record) (c : ℕ) (v : Answer) → LookedUp q c v → paper v ≡ lookup_of q c
looked_up q c v (by_trace κs a w p e f) = moved _ q _ c v p e f

-- the way back from R line j and component m of a record has that answer
abbrev back_of : Record → ℕ → ℕ → PaperAnswer
back_of q j m = way_back_on q.how q.receivers q.shots q.relations q.tape q.number j m

pub data AskedBack (q : Record) (j m : ℕ) (v : ChannelAnswer) : Type 0 where
  by_channel : (κs : Lfts 4) (a : ArgsD channel.signature κs) (w : AtExit channel.ended κs) → channel_reads.Post κs a v w
      → asked a.0.how a.1.0.now a.1.1.0.now a.1.1.1.0.now a.1.1.1.1.0.now a.0.«record» ≡ q
      → a.1.1.1.1.1.0 ≡ j → a.1.1.1.1.1.1.0 ≡ m → AskedBack q j m v

moved_back : (o q : Record) (i j l m : ℕ) (v : ChannelAnswer) → paper_channel v ≡ back_of o i l → o ≡ q → i ≡ j → l ≡ m
    → paper_channel v ≡ back_of q j m
moved_back o q i j l m v p e f g =
    subst (λ (n : ℕ). paper_channel v ≡ back_of q j n) g
    (subst (λ (n : ℕ). paper_channel v ≡ back_of q n l) f (subst (λ (u : Record). paper_channel v ≡ back_of u i l) e p))

asked_back : (q : Record) (j m : ℕ) (v : ChannelAnswer) → AskedBack q j m v → paper_channel v ≡ back_of q j m
asked_back q j m v (by_channel κs a w p e f g) = moved_back _ q _ j _ m v p e f g

module _ (q : Record) where
  abbrev receiver_sheet : Sheet
  receiver_sheet = sheet_of q.how q.receivers

  abbrev shot_sheet : Sheet
  shot_sheet = sheet_of q.how q.shots

  abbrev relation_sheet : Sheet
  relation_sheet = sheet_of q.how q.relations

  able : Meets receiver_sheet shot_sheet relation_sheet → Askable relation_sheet
  able = asks q.how q.receivers q.shots q.relations

  -- "Within a tape and record two channels never share them."
  pub never_shared : (c d l m : ℕ) (y z : Bool) → LookedUp q c (leading l m y) → LookedUp q d (leading l m z) → c ≡ d
  never_shared c d l m y z a b =
      told.never_shared receiver_sheet shot_sheet relation_sheet able q.tape q.number c d l m y z _ _ (looked_up q c _ a) (looked_up q d _ b) refl refl

  -- "Asked from the receiver and component the answer is that channel", and the other way round.
  pub there_and_back : (c l m : ℕ) (v : Answer) (u : ChannelAnswer) → LookedUp q c v → AskedBack q l m u
      → ((d : Bool) × (v ≡ leading l m d)) ↔ (u ≡ Ok (Some c))
  there_and_back c l m v u a b =
      told.forth_and_back receiver_sheet shot_sheet relation_sheet able q.tape q.number c l m v u (looked_up q c v a) (asked_back q l m u b)

-- "Place c-1 takes channel c's R line and component, or 0 and 0 when channel c is not covered, up to the highest covered channel, which is
-- returned. Later places stay. An absent record returns 0 and writes nothing. All refusals write nothing."
pub tabled : (κs : Lfts 6) (a : ArgsD spread_table.signature κs) (v : ResD spread_table.signature κs) (w : AtExit spread_table.ended κs)
    → spread_table_reads.Post κs a v w
    → Tabled (λ l. l) (sheet_of a.0.how a.1.0.now) (sheet_of a.0.how a.1.1.0.now) (sheet_of a.0.how a.1.1.1.0.now)
    a.1.1.1.1.0.now a.0.«record» a.1.1.1.1.1.0.now a.1.1.1.1.1.1.0.now v
    w.1.1.1.1.1.0.now w.1.1.1.1.1.1.0.now
tabled κs a v w p = told.numbers_tabled _ v _ _ p

pub bytes_tabled : (κs : Lfts 6) (a : ArgsD spread_bytes.signature κs) (v : ResD spread_bytes.signature κs) (w : AtExit spread_bytes.ended κs)
    → spread_bytes_reads.Post κs a v w
    → Tabled numbers_of (sheet_of a.0.how a.1.0.now) (sheet_of a.0.how a.1.1.0.now) (sheet_of a.0.how a.1.1.1.0.now)
    a.1.1.1.1.0.now a.0.«record» a.1.1.1.1.1.0.now a.1.1.1.1.1.1.0.now v
    w.1.1.1.1.1.0.now w.1.1.1.1.1.1.0.now
bytes_tabled κs a v w p = told.bytes_tabled _ v _ _ p

-- "bytes at its end too few for a number are no place and stay"
pub odd_stays_put : (κs : Lfts 6) (a : ArgsD spread_bytes.signature κs) (v : ResD spread_bytes.signature κs) (w : AtExit spread_bytes.ended κs)
    → spread_bytes_reads.Post κs a v w → (c : ℕ) → 2 * (length a.1.1.1.1.1.0.now / 2) ≤ c
    → get_or w.1.1.1.1.1.0.now c 0 ≡ get_or a.1.1.1.1.1.0.now c 0
odd_stays_put κs a v w p = told.odd_byte _ _ _ _ p

-- "it checks once and writes the traces as rows"
pub rows_told : (κs : Lfts 4) (a : ArgsD rows.signature κs) (v : ResD rows.signature κs) (w : AtExit rows.ended κs) → rows_reads.Post κs a v w
    → TracesTold (sheet_of a.0 a.1.0.now) (sheet_of a.0 a.1.1.0.now) (sheet_of a.0 a.1.1.1.0.now)
    a.1.1.1.1.0 v a.1.1.1.1.1.0.now w.1.1.1.1.1.0.now
rows_told κs a v w p =
    rowed _ _ _ (asks a.0 a.1.0.now a.1.1.0.now a.1.1.1.0.now) a.1.1.1.1.0 v p.0 a.1.1.1.1.1.0.now _ p.1

-- the table and the lookup agree: where the one says h, the place of each channel up to h has the line and component that the other answers
pub agrees : (read : List ℕ → List ℕ) (q : Record) (d e d' e' : List ℕ) (h : ℕ)
    → Tabled read (receiver_sheet q) (shot_sheet q) (relation_sheet q) q.tape q.number d e (Ok h) d' e'
    → (c : ℕ) → c < h → (v : Answer) → LookedUp q (c + 1) v
    → (get_or (read d') c 0 ≡ line_of (paper v)) × (get_or e' c 0 ≡ component_of (paper v))
agrees read q d e d' e' h t c l v a =
    let f = t.filled h refl in
    let p = sym (looked_up q (c + 1) v a) in
    (f.0.places c l ∙ ap line_of p, f.1.places c l ∙ ap component_of p)
