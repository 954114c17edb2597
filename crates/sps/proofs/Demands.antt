-- The demands of the calls for C hosts, from their contracts: each number is that of an answer, of which the demands of `sets` and `traces` say
-- what it says, and a host reads the answer off it.
use Prim.Native.Nat.{ℕ, ◌*◌, ◌/◌, ◌≤◌}
use mathlib.Core.Path.{◌≡◌, refl, sym, ap, subst, ◌∙◌}
use mathlib.Core.Logic.{◌↔◌}
use mathlib.Core.List.{List}
use lib.ListN.{length, get_or}
use contract.Lifetimes.{Lfts}
use denote.Triple.Clauses.{AtExit}
use borrow.Fn.World.{ArgsD, ResD}
use Rattle.rules.specs.Plan.{Refusal, №}
use Rattle.rules.specs.Layout.{sps93}
use Rattle.rules.specs.Sheet.{Sheet}
use Rattle.rules.specs.Medium.{Medium, sheet}
use Rattle.rules.specs.Disc.{disc}
use Rattle.rules.specs.Tape.{tape}
use Rattle.rules.specs.OneFile.{file_form}
use Rattle.rules.specs.Check.{Answer as PaperAnswer, refusal, cross}
use Rattle.rules.specs.Calls.{Choice, on, none, choice, chosen, Chosen, form_in}
use Rattle.rules.specs.Lookup.{lookup, way_back}
use Rattle.rules.specs.Tables.{table_line}
use Rattle.rules.specs.Hosts.{host_number, numbers_of}
use Rattle.rules.proofs.Medium.{Lawful, askable}
use Rattle.rules.proofs.Media.{chosen_lawful, disc_is, tape_is, none_is}
use Rattle.rules.proofs.Listed.{asked_listed}
use Rattle.rules.proofs.Hosts.{Sized, file_sized, cross_sized, lookup_sized, back_sized, spread_sized, table_sized}
use Rattle.std.specs.Prelude.{Ok, Err}
use Rattle.lines.specs.Paper.{Verdict, told as told_as}
use Rattle.form.specs.Paper.{answered}
use Rattle.form.specs.Said.{Morning}
use Rattle.form.proofs.Demands.{told as morning_told}
use Rattle.sets.specs.Paper.{Answer as SetAnswer, paper as set_paper}
use Rattle.sets.specs.Judged.{Judged}
use Rattle.sets.proofs.Demands.{judged, parts}
use Rattle.tables.specs.Paper.{Answer as LineAnswer}
use Rattle.tables.specs.Said.{Told}
use Rattle.tables.proofs.Demands.{told_of}
use Rattle.traces.specs.Said.{Traced, Returned, Tabled}
use Rattle.traces.specs.Paper.{Answer, ChannelAnswer, Spread, paper_spread}
use Rattle.traces.specs.Calls.{table_of, SpreadBytes}
use Rattle.traces.proofs.Told.{traced, came_back, bytes_tabled, odd_byte}
use Rattle.sps.specs.Table.{SpreadTold}
use Rattle.sps.specs.Counts.{counted}
use Rattle.sps.specs.Said.{RefusedAs, TellsForm, TellsParts, TellsSet, Tells, TellsChannel, TellsSpread, TellsLine, CountsTold}
use Rattle.sps.proofs.Told.{refused_as, tells_form, tells_set, tells, tells_channel, tells_spread, tells_line}
use Rattle.sps.proofs.Told.{form_answer, set_answer, lookup_answer, back_answer, spread_answer, line_answer}
use Rattle.sps.proofs.Whole.{tells_parts}
use Rattle.sps.proofs.Counts.{length_stays, count_at, beyond_stays, refusal_stays}
use Rattle.sps.specs.contracts.sps_form as sps_form
use Rattle.sps.proofs.sps_form.Reads as sps_form_reads
use Rattle.sps.specs.contracts.sps_cross as sps_cross
use Rattle.sps.proofs.sps_cross.Reads as sps_cross_reads
use Rattle.sps.specs.contracts.sps_counts as sps_counts
use Rattle.sps.proofs.sps_counts.Reads as sps_counts_reads
use Rattle.sps.specs.contracts.sps_trace as sps_trace
use Rattle.sps.proofs.sps_trace.Reads as sps_trace_reads
use Rattle.sps.specs.contracts.sps_channel as sps_channel
use Rattle.sps.proofs.sps_channel.Reads as sps_channel_reads
use Rattle.sps.specs.contracts.sps_table_line as sps_table_line
use Rattle.sps.proofs.sps_table_line.Reads as sps_table_line_reads
use Rattle.sps.specs.contracts.sps_spread as sps_spread
use Rattle.sps.proofs.sps_spread.Reads as sps_spread_reads

-- a set whose medium is chosen
module _ (M : Medium) (g : Lawful M) (r s x : List ℕ) where
  abbrev file : List ℕ → Sheet
  file = sheet M sps93

  pub set_known : (n : ℕ) → n ≡ host_number (cross (file r) (file s) (file x))
      → (v : SetAnswer) × Judged (file r) (file s) (file x) v × TellsSet n v × (set_paper v ≡ cross (file r) (file s) (file x))
  set_known n e =
      let a = set_answer (file r) (file s) (file x) in (
        a.0,
        judged _ _ _ a.0 a.1,
        tells_set a.0 (subst Sized (sym a.1) (cross_sized M g r s x)) n (e ∙ ap host_number (sym a.1)),
        a.1,
      )

  set_told : (n : ℕ) → n ≡ host_number (cross (file r) (file s) (file x)) → (v : SetAnswer) × Judged (file r) (file s) (file x) v × TellsSet n v
  set_told n e = let a = set_known n e in (a.0, a.1, a.2)

  slice_told : (n : ℕ) → n ≡ host_number (cross (file r) (file s) (file x)) → (o e : List ℕ) → e ≡ counted (cross (file r) (file s) (file x)) o
      → (v : SetAnswer) × Judged (file r) (file s) (file x) v × TellsSet n v × CountsTold v o e
  slice_told n p o e w =
      let a = set_known n p in
      let q : (u : SetAnswer) → a.0 ≡ u → cross (file r) (file s) (file x) ≡ set_paper u = λ u y. sym a.3 ∙ ap set_paper y in (
        a.0,
        a.1,
        a.2,
        record {
          size = length_stays M g r s x o e w;
          written = λ c y. count_at M g r s x o e w c.receivers c.shots c.relations c.traces c.dead_traces (q (Ok c) y);
          others = beyond_stays M g r s x o e w;
          unwritten = λ d y. refusal_stays M g r s x o e w (told_as d) (q (Err d) y);
        },
      )

  module _ (t : List ℕ) (k : ℕ) where
    lookup_told : (c n : ℕ) → n ≡ host_number (lookup (file r) (file s) (file x) t k c)
        → (v : Answer) × Traced (file r) (file s) (file x) t k c v × Tells n v
    lookup_told c n e =
        let a = lookup_answer (file r) (file s) (file x) t k c in (
          a.0,
          traced _ _ _ (λ ok. askable M g _ _ x ok) t k c a.0 a.1,
          tells a.0 (subst Sized (sym a.1) (lookup_sized M g r s x t k c)) n (e ∙ ap host_number (sym a.1)),
        )

    back_told : (j m n : ℕ) → n ≡ host_number (way_back (file r) (file s) (file x) t k j m)
        → (v : ChannelAnswer) × Returned (file r) (file s) (file x) t k j m v × TellsChannel n v
    back_told j m n e =
        let a = back_answer (file r) (file s) (file x) t k j m in (
          a.0,
          came_back _ _ _ (λ ok. askable M g _ _ x ok) t k j m a.0 a.1,
          tells_channel a.0 (subst Sized (sym a.1) (back_sized M g r s x t k j m)) n (e ∙ ap host_number (sym a.1)),
        )

  naming_told : (b : ℕ) (c : List ℕ) (n : ℕ) → n ≡ host_number (table_line (file r) (file s) (file x) b c)
      → (v : LineAnswer) × Told (file r) (file s) (file x) b c v × TellsLine n v
  naming_told b c n e =
      let a = line_answer (file r) (file s) (file x) b c in (
        a.0,
        told_of _ _ _ b c a.0 a.1.0 a.1.1,
        tells_line a.0 (subst Sized (sym a.1.0) (table_sized M g r s x b c)) n (e ∙ ap host_number (sym a.1.0)),
      )

  table_told : (t : List ℕ) (k : ℕ) (d e d' e' : List ℕ) (n : ℕ) (u : PaperAnswer) → n ≡ host_number u
      → SpreadBytes (table_of file r s x t k d e) u d' e'
      → (v : Spread) × Tabled numbers_of (file r) (file s) (file x) t k d e v d' e' × TellsSpread n v
  table_told t k d e d' e' n u p q =
      let a = spread_answer (file r) (file s) (file x) t k (length d / 2) (length e) in
      let v : u ≡ paper_spread a.0 = q.answer ∙ sym a.1 in (
        a.0,
        bytes_tabled (table_of file r s x t k d e) a.0 d' e' (subst (λ (y : PaperAnswer). SpreadBytes (table_of file r s x t k d e) y d' e') v q),
        tells_spread a.0 (subst Sized (sym a.1) (spread_sized M g r s x t k (length d / 2) (length e))) n (p ∙ ap host_number v),
      )

-- one file whose medium is chosen, and three
module _ (M : Medium) (g : Lawful M) where
  one_told : (b : ℕ) (f : List ℕ) (n : ℕ) → n ≡ host_number (file_form b (sheet M sps93 f))
      → (v : Verdict) × Morning b (sheet M sps93 f) v × TellsForm n v × (answered v ≡ file_form b (sheet M sps93 f))
  one_told b f n e =
      let a = form_answer b (sheet M sps93 f) in (
        a.0,
        morning_told _ _ a.0 a.1,
        tells_form a.0 (subst Sized (sym a.1) (file_sized M g b f)) n (e ∙ ap host_number (sym a.1)),
        a.1,
      )

  parts_told : (r s x : List ℕ) (n m k t : ℕ) → n ≡ host_number (file_form 82 (sheet M sps93 r)) → m ≡ host_number (file_form 83 (sheet M sps93 s))
      → k ≡ host_number (file_form 88 (sheet M sps93 x)) → t ≡ host_number (cross (sheet M sps93 r) (sheet M sps93 s) (sheet M sps93 x))
      → TellsParts n m k t
  parts_told r s x n m k t en em ek et =
      let u = one_told 82 r n en in
      let v = one_told 83 s m em in
      let w = one_told 88 x k ek in
      let a = set_answer (sheet M sps93 r) (sheet M sps93 s) (sheet M sps93 x) in
      tells_parts u.0 v.0 w.0 a.0
      (parts _ _ _ u.0 v.0 w.0 a.0 u.3 v.3 w.3 a.1) n m k t (en ∙ ap host_number (sym u.3))
      (em ∙ ap host_number (sym v.3)) (ek ∙ ap host_number (sym w.3)) (et ∙ ap host_number (sym a.1)) u.2 v.2
      (tells_set a.0 (subst Sized (sym a.1) (cross_sized M g r s x)) t (et ∙ ap host_number (sym a.1)))

-- by the medium that a number chooses, or 20
pub told : (d : Choice) (P : Medium → Type 0) (Q : Type 0) → ((M : Medium) → d ≡ on M → P M) → (d ≡ none → Q) → Chosen d P Q
told (on M) P Q f g = f M refl
told none P Q f g = g refl

pub answered_by : (d e : Choice) (A : Medium → PaperAnswer) (n : ℕ) → n ≡ host_number (chosen d A) → d ≡ e → n ≡ host_number (chosen e A)
answered_by d e A n p y = p ∙ ap (λ (u : Choice). host_number (chosen u A)) y

pub unknown : (d : Choice) (A : Medium → PaperAnswer) (n : ℕ) → n ≡ host_number (chosen d A) → d ≡ none → RefusedAs n 20 0 0 0
unfolding host_number
unknown d A n p y = refused_as 20 0 0 0 asked_listed n (answered_by d none A n p y)

-- "A C host gets one 64-bit number: a refusal as number * 2^40 + file * 2^32 + line * 256 + column (R 1, S 2, X 3); otherwise the traces, the
-- R line * 16 + component, the channel, or the highest channel, and 0 where there is none."
-- 20 comes "first, for a medium that is neither".
-- "the form of a single file of a stated kind"
pub form_told : (κs : Lfts 1) (a : ArgsD sps_form.signature κs) (n : ResD sps_form.signature κs) (w : AtExit sps_form.ended κs)
    → sps_form_reads.Post κs a n w
    → Chosen (choice a.0) (λ M. (v : Verdict) × Morning a.1.0 (sheet M sps93 a.1.1.0.now) v × TellsForm n v) (RefusedAs n 20 0 0 0)
form_told κs a n w p =
    told (choice a.0) _ _
    (λ M y.
    let v = one_told M (chosen_lawful a.0 M y) a.1.0 a.1.1.0.now n (answered_by (choice a.0) (on M) _ n p y) in
    (v.0, v.1, v.2))
    (unknown (choice a.0) _ n p)

-- demands 1 and 2
pub cross_told : (κs : Lfts 3) (a : ArgsD sps_cross.signature κs) (n : ResD sps_cross.signature κs) (w : AtExit sps_cross.ended κs)
    → sps_cross_reads.Post κs a n w
    → Chosen (choice a.0)
    (λ M. (v : SetAnswer) × Judged (sheet M sps93 a.1.0.now) (sheet M sps93 a.1.1.0.now) (sheet M sps93 a.1.1.1.0.now) v × TellsSet n v)
    (RefusedAs n 20 0 0 0)
cross_told κs a n w p =
    told (choice a.0) _ _
    (λ M y.
    set_told M (chosen_lawful a.0 M y) a.1.0.now a.1.1.0.now a.1.1.1.0.now n (answered_by (choice a.0) (on M) _ n p y))
    (unknown (choice a.0) _ n p)

uncounted : (o : List ℕ) (u : Refusal) → counted (refusal u) o ≡ o
unfolding counted
uncounted o u = refl

pub counts_told : (κs : Lfts 4) (a : ArgsD sps_counts.signature κs) (n : ResD sps_counts.signature κs) (w : AtExit sps_counts.ended κs)
    → sps_counts_reads.Post κs a n w
    → Chosen (choice a.0)
    (λ M. (v : SetAnswer) × Judged (sheet M sps93 a.1.0.now) (sheet M sps93 a.1.1.0.now) (sheet M sps93 a.1.1.1.0.now) v
    × TellsSet n v × CountsTold v a.1.1.1.1.0.now w.1.1.1.1.0.now)
    (RefusedAs n 20 0 0 0 × (w.1.1.1.1.0.now ≡ a.1.1.1.1.0.now))
counts_told κs a n w p =
    let A : Medium → PaperAnswer = λ M. cross (sheet M sps93 a.1.0.now) (sheet M sps93 a.1.1.0.now) (sheet M sps93 a.1.1.1.0.now) in
    told (choice a.0) _ _
    (λ M y.
    slice_told M (chosen_lawful a.0 M y) a.1.0.now a.1.1.0.now a.1.1.1.0.now n (answered_by (choice a.0) (on M) A n p.0 y)
    a.1.1.1.1.0.now w.1.1.1.1.0.now (p.1 ∙ ap (λ (u : Choice). counted (chosen u A) a.1.1.1.1.0.now) y))
    (λ y. (unknown (choice a.0) A n p.0 y, p.1 ∙ ap (λ (u : Choice). counted (chosen u A) a.1.1.1.1.0.now) y ∙ uncounted _ _))

-- demand 3
pub trace_told : (κs : Lfts 4) (a : ArgsD sps_trace.signature κs) (n : ResD sps_trace.signature κs) (w : AtExit sps_trace.ended κs)
    → sps_trace_reads.Post κs a n w
    → Chosen (choice a.0)
    (λ M. (v : Answer) × Traced (sheet M sps93 a.1.0.now) (sheet M sps93 a.1.1.0.now) (sheet M sps93 a.1.1.1.0.now)
    a.1.1.1.1.0.now a.1.1.1.1.1.0 a.1.1.1.1.1.1.0 v × Tells n v)
    (RefusedAs n 20 0 0 0)
trace_told κs a n w p =
    told (choice a.0) _ _
    (λ M y.
    lookup_told M (chosen_lawful a.0 M y) a.1.0.now a.1.1.0.now a.1.1.1.0.now a.1.1.1.1.0.now a.1.1.1.1.1.0
    a.1.1.1.1.1.1.0 n (answered_by (choice a.0) (on M) _ n p y))
    (unknown (choice a.0) _ n p)

pub channel_told : (κs : Lfts 4) (a : ArgsD sps_channel.signature κs) (n : ResD sps_channel.signature κs) (w : AtExit sps_channel.ended κs)
    → sps_channel_reads.Post κs a n w
    → Chosen (choice a.0)
    (λ M. (v : ChannelAnswer) × Returned (sheet M sps93 a.1.0.now) (sheet M sps93 a.1.1.0.now) (sheet M sps93 a.1.1.1.0.now)
    a.1.1.1.1.0.now a.1.1.1.1.1.0 a.1.1.1.1.1.1.0 a.1.1.1.1.1.1.1.0 v × TellsChannel n v)
    (RefusedAs n 20 0 0 0)
channel_told κs a n w p =
    told (choice a.0) _ _
    (λ M y.
    back_told M (chosen_lawful a.0 M y) a.1.0.now a.1.1.0.now a.1.1.1.0.now a.1.1.1.1.0.now a.1.1.1.1.1.0
    a.1.1.1.1.1.1.0 a.1.1.1.1.1.1.1.0 n (answered_by (choice a.0) (on M) _ n p y))
    (unknown (choice a.0) _ n p)

-- and of the code tables
pub line_told : (κs : Lfts 4) (a : ArgsD sps_table_line.signature κs) (n : ResD sps_table_line.signature κs) (w : AtExit sps_table_line.ended κs)
    → sps_table_line_reads.Post κs a n w
    → Chosen (choice a.0)
    (λ M. (v : LineAnswer) × Told (sheet M sps93 a.1.0.now) (sheet M sps93 a.1.1.0.now) (sheet M sps93 a.1.1.1.0.now)
    a.1.1.1.1.0 a.1.1.1.1.1.0.now v × TellsLine n v)
    (RefusedAs n 20 0 0 0)
line_told κs a n w p =
    told (choice a.0) _ _
    (λ M y.
    naming_told M (chosen_lawful a.0 M y) a.1.0.now a.1.1.0.now a.1.1.1.0.now a.1.1.1.1.0 a.1.1.1.1.1.0.now n
    (answered_by (choice a.0) (on M) _ n p y))
    (unknown (choice a.0) _ n p)

-- and of the spread table, where 20 writes nothing; "bytes at its end too few for a number are no place and stay"
abbrev OddStays : List ℕ → List ℕ → Type 0
OddStays o l = (c : ℕ) → 2 * (length o / 2) ≤ c → get_or l c 0 ≡ get_or o c 0

spread_by : (d : Choice) → ((M : Medium) → d ≡ on M → Lawful M) → (r s x t : List ℕ) (k : ℕ) (o q : List ℕ) (n : ℕ) (l m : List ℕ)
    → SpreadTold d (λ M. table_of (sheet M sps93) r s x t k o q) o q n l m
    → Chosen d
    (λ M. (v : Spread) × Tabled numbers_of (sheet M sps93 r) (sheet M sps93 s) (sheet M sps93 x) t k o q v l m × TellsSpread n v × OddStays o l)
    (RefusedAs n 20 0 0 0 × ((l ≡ o) × (m ≡ q)))
spread_by (on M) g r s x t k o q n l m (u, (e, p)) =
    let a = table_told M (g M refl) r s x t k o q l m n u e p in
    (a.0, a.1, a.2, odd_byte _ _ _ _ p)
spread_by none g r s x t k o q n l m (e, w) = (refused_as 20 0 0 0 asked_listed n e, w)

pub spread_told : (κs : Lfts 6) (a : ArgsD sps_spread.signature κs) (n : ResD sps_spread.signature κs) (w : AtExit sps_spread.ended κs)
    → sps_spread_reads.Post κs a n w
    → Chosen (choice a.0)
    (λ M. (v : Spread) × Tabled numbers_of (sheet M sps93 a.1.0.now) (sheet M sps93 a.1.1.0.now) (sheet M sps93 a.1.1.1.0.now)
    a.1.1.1.1.0.now a.1.1.1.1.1.0 a.1.1.1.1.1.1.0.now a.1.1.1.1.1.1.1.0.now v
    w.1.1.1.1.1.1.0.now w.1.1.1.1.1.1.1.0.now × TellsSpread n v
    × OddStays a.1.1.1.1.1.1.0.now w.1.1.1.1.1.1.0.now)
    (RefusedAs n 20 0 0 0
    × ((w.1.1.1.1.1.1.0.now ≡ a.1.1.1.1.1.1.0.now) × (w.1.1.1.1.1.1.1.0.now ≡ a.1.1.1.1.1.1.1.0.now)))
spread_told κs a n w p =
    spread_by (choice a.0) (chosen_lawful a.0) a.1.0.now a.1.1.0.now a.1.1.1.0.now a.1.1.1.1.0.now
    a.1.1.1.1.1.0 a.1.1.1.1.1.1.0.now a.1.1.1.1.1.1.1.0.now n w.1.1.1.1.1.1.0.now
    w.1.1.1.1.1.1.1.0.now p

-- the calls on one file and that on three
one_asked : (M : Medium) (d : ℕ) → choice d ≡ on M → (c b b' : ℕ) (f f' : List ℕ) (n : ℕ) → n ≡ host_number (form_in (choice c) b f)
    → c ≡ d → b ≡ b' → f ≡ f' → n ≡ host_number (file_form b' (sheet M sps93 f'))
one_asked M d y c b b' f f' n p e z w =
    p ∙ ap (λ (u : Choice). host_number (form_in u b f)) (ap choice e ∙ y) ∙ ap (λ (j : ℕ). host_number (file_form j (sheet M sps93 f))) z
    ∙ ap (λ (h : List ℕ). host_number (file_form b' (sheet M sps93 h))) w

pub tied : (κs : Lfts 3) (a : ArgsD sps_cross.signature κs) (t : ResD sps_cross.signature κs) (w : AtExit sps_cross.ended κs)
    → sps_cross_reads.Post κs a t w
    → (κr κt κx : Lfts 1) (b : ArgsD sps_form.signature κr) (c : ArgsD sps_form.signature κt) (d : ArgsD sps_form.signature κx)
    (n : ResD sps_form.signature κr) (m : ResD sps_form.signature κt) (k : ResD sps_form.signature κx)
    (y : AtExit sps_form.ended κr) (z : AtExit sps_form.ended κt) (q : AtExit sps_form.ended κx)
    → sps_form_reads.Post κr b n y → sps_form_reads.Post κt c m z → sps_form_reads.Post κx d k q
    → (b.0 ≡ a.0) × ((b.1.0 ≡ 82) × (b.1.1.0.now ≡ a.1.0.now))
    → (c.0 ≡ a.0) × ((c.1.0 ≡ 83) × (c.1.1.0.now ≡ a.1.1.0.now))
    → (d.0 ≡ a.0) × ((d.1.0 ≡ 88) × (d.1.1.0.now ≡ a.1.1.1.0.now))
    → Chosen (choice a.0) (λ M. TellsParts n m k t) (RefusedAs t 20 0 0 0)
tied κs a t w p κr κt κx b c d n m k y z q pn pm pk eb ec ed =
    told (choice a.0) _ _
    (λ M e.
    parts_told M (chosen_lawful a.0 M e) a.1.0.now a.1.1.0.now a.1.1.1.0.now n m k t
    (one_asked M a.0 e _ _ _ _ _ n pn eb.0 eb.1.0 eb.1.1) (one_asked M a.0 e _ _ _ _ _ m pm ec.0 ec.1.0 ec.1.1)
    (one_asked M a.0 e _ _ _ _ _ k pk ed.0 ed.1.0 ed.1.1) (answered_by (choice a.0) (on M) _ t p e))
    (unknown (choice a.0) _ t p)

-- 1 chooses the disc form, 2 the tape form, any other number none
pub which : (choice 1 ≡ on disc) × ((choice 2 ≡ on tape) × ((n : ℕ) → (choice n ≡ none) ↔ ((n ≡ 1 → ⊥) × (n ≡ 2 → ⊥))))
which = (disc_is, (tape_is, none_is))
