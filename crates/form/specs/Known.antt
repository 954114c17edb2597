-- What is known of a well-formed file, and what the rules over the set need of it.
--   Columns n s   = the span s is n columns of a line; AtMost n s = at most n
--   Shape L       = how wide the fields of a layout are that are compared as numbers
--   Clean f       = the columns of its lines hold bytes
--   owned f k     = the first 80 bytes of line k as the medium has them
--   Known i f     = file i has few lines, clean columns, the form met, and a layout of that shape; the own bytes of its lines are those of
--                   their characters, each of which has one
use Rattle.std.specs.Prelude.{ℕ, ◌+◌, ◌≤◌, ◌<◌, ◌≡◌, List, get_or, take}
use Rattle.rules.specs.Plan.{fine, run}
use Rattle.rules.specs.Names.{ranked}
use Rattle.rules.specs.Layout.{Span, Layout}
use Rattle.rules.specs.Sheet.{Sheet, most_lines}
use Rattle.rules.specs.Form.{form}
use Rattle.fields.specs.Ranks.{Ranks, Told}

abbrev pub Columns : ℕ → Span → Type 0
Columns n s = (1 ≤ s.first) × (s.last + 1 ≡ s.first + n)

abbrev pub AtMost : ℕ → Span → Type 0
AtMost n s = (1 ≤ s.first) × (s.last < s.first + n)

pub record Shape (L : Layout) : Type 0 where
  pub name : Columns 16 L.name
  pub point : AtMost 8 L.point
  pub index : Columns 1 L.index
  pub time : AtMost 6 L.time
  pub tape : Columns 6 L.tape
  pub number : AtMost 8 L.number
  pub increment : Columns 1 L.increment
  pub instrument : Columns 1 L.instrument
  pub source : Columns 16 L.source
  pub shot : AtMost 8 L.shot
  pub shot_index : Columns 1 L.shot_index
  pub from : AtMost 8 L.from
  pub upto : AtMost 8 L.upto
  pub step : Columns 1 L.step
  pub receiver : Columns 16 L.receiver
  pub from_receiver : AtMost 8 L.from_receiver
  pub to_receiver : AtMost 8 L.to_receiver
  pub receiver_index : Columns 1 L.receiver_index

abbrev pub Clean : Sheet → Type 0
Clean f = (k : ℕ) → k < f.count → (c : ℕ) → get_or (f.row k) c 0 < 256

abbrev pub owned : Sheet → ℕ → List ℕ
owned f k = take 80 (f.raw k)

pub record Known (i : ℕ) (f : Sheet) : Type 0 where
  pub few : f.count ≤ most_lines
  pub clean : Clean f
  pub met : fine ≡ run (form i f)
  pub shape : Shape f.layout
  pub ranks : Ranks f.rank
  pub own : (k : ℕ) → k < f.count → owned f k ≡ ranked f.rank (f.row k)
  pub told : (k : ℕ) → k < f.count → Told f.rank (f.row k)
