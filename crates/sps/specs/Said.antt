-- What a host reads off the number that a call gives it, in words: "A C host gets one 64-bit number: a refusal as number * 2^40 + file * 2^32
-- + line * 256 + column (R 1, S 2, X 3); otherwise the traces, the R line * 16 + component, the channel, or the highest channel, and 0 where
-- there is none."
--   RefusedAs n i f l c  = n is that refusal, and its parts come back; Refuses n e = the same of a refusal of the code
--   TellsForm n v        = n is the number of a verdict on the form of one file
--   TellsParts n m k t   = n, m and k are the numbers of the forms of R, S and X, and t that of the cross-check of the three
--   TellsSet n a         = n is the number of an answer to the cross-check
--   Tells n a            = n is the number of an answer to a lookup
--   TellsChannel n a     = n is the number of an answer to the way back
--   TellsSpread n a      = n is the number of an answer of the spread table
--   TellsLine n a        = n is the number of an answer on the code tables
--   value_of bs, read_at i o = the number of some bytes, low byte first; of place i, of eight bytes
--   TellsRead n o s      = n is the number of a line that is read by the order o, and s that of its state
--   ValuesTold n ps o e  = what stands in the slice of values, o before and e after the call that answers n, of the numbers ps
--   TellsWritten n ok m  = n is the number of a line that is written, of values that go into it or not, into a slice of m bytes
--   LineTold n l o e     = what stands in that slice, o before and e after the call that answers n, of the line l
--   CountsTold v o e     = what stands in the slice of counts, o before and e after the call that answers v
use Rattle.std.specs.Prelude.{ℕ, ◌+◌, ◌*◌, ◌/◌, ◌%◌, ◌^◌, ◌≤◌, ◌<◌, ◌≡◌, ◌↔◌, Bool, true, false}
use Rattle.std.specs.Prelude.{Option, None, Some, Ok, Err, List, [], ◌∷◌, ◌++◌, length, get_or, take, drop}
use Rattle.rules.specs.Places.{pick}
use Rattle.rules.specs.Plan.{№}
use Rattle.rules.specs.Hosts.{low_bytes}
use Rattle.rules.specs.Refuses.{Order, Kept, First}
use Rattle.lines.specs.Paper.{Verdict}
use Rattle.lines.specs.declared.Refusal.{Refusal}
use Rattle.sets.specs.Paper.{Answer as SetAnswer}
use Rattle.sets.specs.declared.Counts.{Counts}
use Rattle.tables.specs.Paper.{Answer as LineAnswer}
use Rattle.traces.specs.Paper.{Answer, ChannelAnswer, Spread}
use Rattle.sps.specs.Number.{or_zero}

abbrev pub RefusedAs : ℕ → ℕ → ℕ → ℕ → ℕ → Type 0
RefusedAs n i f l c =
    (2 ^ 40 ≤ n) × ((n / 2 ^ 40 ≡ i) × ((n / 2 ^ 32 % 256 ≡ f) × ((n / 256 % 2 ^ 24 ≡ l) × (n % 256 ≡ c))))

abbrev pub Refuses : ℕ → Refusal → Type 0
Refuses n e = RefusedAs n e.number e.file e.line e.column

abbrev pub TellsForm : ℕ → Verdict → Type 0
TellsForm n (Ok _) = n ≡ 0
TellsForm n (Err e) = Refuses n e

-- "three files are accepted by the cross-check only if each is by the form of its kind, and if one is not, it refuses as the first of the three does"
pub record TellsParts (n m k t : ℕ) : Type 0 where
  pub accepted_only : t < 2 ^ 40 → (n ≡ 0) × ((m ≡ 0) × (k ≡ 0))
  pub as_r : (n ≡ 0 → ⊥) → t ≡ n
  pub as_s : n ≡ 0 → (m ≡ 0 → ⊥) → t ≡ m
  pub as_x : n ≡ 0 → m ≡ 0 → (k ≡ 0 → ⊥) → t ≡ k

abbrev pub TellsSet : ℕ → SetAnswer → Type 0
TellsSet n (Ok c) = (n < 2 ^ 40) × (n ≡ c.traces)
TellsSet n (Err e) = Refuses n e

abbrev pub Tells : ℕ → Answer → Type 0
Tells n (Ok (Some t)) =
    (n < 2 ^ 40) × ((n / 2 ^ 32 ≡ pick t.killed 1 0) × ((n % 2 ^ 32 / 16 ≡ t.line) × ((n % 16 ≡ t.component) × (1 ≤ t.component))))
Tells n (Ok None) = n ≡ 0
Tells n (Err e) = Refuses n e

abbrev pub TellsChannel : ℕ → ChannelAnswer → Type 0
TellsChannel n (Ok (Some c)) = (n < 2 ^ 40) × ((n ≡ c) × (1 ≤ c))
TellsChannel n (Ok None) = n ≡ 0
TellsChannel n (Err e) = Refuses n e

abbrev pub TellsSpread : ℕ → Spread → Type 0
TellsSpread n (Ok h) = (n < 2 ^ 40) × (n ≡ h)
TellsSpread n (Err e) = Refuses n e

abbrev pub TellsLine : ℕ → LineAnswer → Type 0
TellsLine n (Ok l) = (n < 2 ^ 40) × (n ≡ or_zero l)
TellsLine n (Err e) = Refuses n e

abbrev pub value_of : List ℕ → ℕ
value_of [] = 0
value_of (b ∷ bs) = b + 256 * value_of bs

abbrev pub read_at : ℕ → List ℕ → ℕ
read_at i o = value_of (take 8 (drop (8 * i) o))

pub record CountsTold (v : SetAnswer) (o e : List ℕ) : Type 0 where
  pub size : length e ≡ length o
  -- the receivers, shots, relation lines, traces and dead traces, in the places that the slice has whole
  pub written : (c : Counts) → v ≡ Ok c → (i : ℕ) → i < 5 → 8 * i + 8 ≤ length o
      → read_at i e ≡ get_or (c.receivers ∷ c.shots ∷ c.relations ∷ c.traces ∷ c.dead_traces ∷ []) i 0
  -- "bytes at its end too few for a number are no place and stay", and so does all after the fifth
  pub others : (i : ℕ) → (i < 5 → length o < 8 * i + 8) → drop (8 * i) e ≡ drop (8 * i) o
  pub unwritten : (w : Refusal) → v ≡ Err w → e ≡ o

-- "20 for a medium, a letter or a line that is not there; 3 to 6 of that line with its place; a marker is answered as such"
pub record TellsRead (n : ℕ) (o : Order) (s : ℕ) : Type 0 where
  pub read_when : (n < 2 ^ 40) ↔ Kept o
  pub state : Kept o → n ≡ s
  pub refused_when : (i f l c : ℕ) → RefusedAs n i f l c ↔ First o (№ i f l c)

pub record ValuesTold (n : ℕ) (ps o e : List ℕ) : Type 0 where
  pub size : length e ≡ length o
  pub written : n < 2 ^ 40 → (i : ℕ) → i < 16 → 8 * i + 8 ≤ length o → take 8 (drop (8 * i) e) ≡ low_bytes 8 (get_or ps i 0)
  -- bytes that are no place, and all after the sixteenth
  pub others : (i : ℕ) → (i < 16 → length o < 8 * i + 8) → drop (8 * i) e ≡ drop (8 * i) o
  pub unwritten : 2 ^ 40 ≤ n → e ≡ o

pub record TellsWritten (n : ℕ) (ok : Bool) (m : ℕ) : Type 0 where
  pub done : ok ≡ true → 82 ≤ m → n ≡ 0
  -- "22: a value that its columns can't hold or its rule forbids. Then 23: a slice shorter than 82 bytes. File, line and column are 0."
  pub forbidden : ok ≡ false → RefusedAs n 22 0 0 0
  pub short : ok ≡ true → m < 82 → RefusedAs n 23 0 0 0

-- "write its 82 bytes at the start of a lent slice; later bytes stay"; "a refusal writes nothing"
pub record LineTold (n : ℕ) (l o e : List ℕ) : Type 0 where
  pub written : n ≡ 0 → e ≡ l ++ drop (length l) o
  pub unwritten : (n ≡ 0 → ⊥) → e ≡ o
