-- Demand 3 in words: what the answers to the questions say of the sheets of a set.
--   LeadsTo r q c v          = v is the one receiver line and the component that channel c of a relation line leads to, with the receiver's mark
--   Traced r s x t n c v     = what the lookup's answer v says
--   Returned r s x t n j m v = what the way back's answer v says
--   Slice h part old new     = part 1 to part h stand in the first h places of a slice, and its later places stay
--   TracesTold r s x i v o e = what stands in a slice after the rows from trace i on are asked for, o before and e after, by the answer v
--   Tabled read r s x t n .. = what the spread table's answer v says, and what stands in its slices; read gives the numbers of the first
use Rattle.std.specs.Prelude.{ℕ, ◌+◌, ◌-◌, ◌*◌, ◌≤◌, ◌<◌, Bool, true, ◌≡◌, ◌↔◌, List, length, get_or, take, drop, Ok, Err, None}
use Rattle.rules.specs.Plan.{№}
use Rattle.rules.specs.Sheet.{Sheet}
use Rattle.rules.specs.Relations.{Reach, reach_at}
use Rattle.rules.specs.Cover.{leads as leads_to, component}
use Rattle.rules.specs.Lookup.{lookup}
use Rattle.rules.specs.Spread.{line_of, component_of}
use Rattle.rules.specs.MeetsCover.{Carries}
use Rattle.rules.specs.MeetsSet.{Receiver, Killed}
use Rattle.rules.specs.Meets.{Meets}
use Rattle.rules.specs.Refuses.{First}
use Rattle.rules.specs.MeetsQuestions.{Asked, AskedChannel, AskedLine, Of, Uncovered, Unreached, Absent, Highest as HighestOf}
use Rattle.rules.specs.MeetsQuestions.{lookup_order, way_back_order, spread_order}
use Rattle.rules.specs.TraceRows.{trace_row, row_bytes}
use Rattle.rules.specs.MeetsTraces.{RowsTold}
use Rattle.sets.specs.declared.Counts.{Counts}
use Rattle.sets.specs.Paper.{Answer as SetAnswer}
use Rattle.traces.specs.Paper.{Answer, ChannelAnswer, Spread, leading, denied}

abbrev pub LeadsTo : Sheet → Reach → ℕ → Answer → Type 0
LeadsTo r q c v =
    (j : ℕ) × (j < r.count) × Receiver r q (leads_to q c) j
    × ((i : ℕ) → i < r.count → Receiver r q (leads_to q c) i → i ≡ j)
    × ((d : Bool) × ((d ≡ true) ↔ Killed r j) × (v ≡ leading (j + 1) (component q c) d))

pub record Traced (r s x : Sheet) (t : List ℕ) (n c : ℕ) (v : Answer) : Type 0 where
  -- "each tape, record and channel covered by a relation line leads to one receiver line and one component, those of the line's arithmetic"
  pub leads : Meets r s x → (k : ℕ) → k < x.count → Of x t n k → Carries (reach_at x k) c → LeadsTo r (reach_at x k) c v
  -- "Lookups answer killed beside the receiver"
  pub marked : (l m : ℕ) (d : Bool) → v ≡ leading l m d → (d ≡ true) ↔ Killed r (l - 1)
  -- "what is not covered is answered "no trace""
  pub none : (v ≡ Ok None) ↔ ((Asked x.layout t n × AskedChannel x.layout c) × (Meets r s x × Uncovered x t n c))
  -- "20 comes before 1 to 19"
  pub refused : (i f l e : ℕ) → (v ≡ Err (denied i f l e)) ↔ First (lookup_order r s x t n c) (№ i f l e)

pub record Returned (r s x : Sheet) (t : List ℕ) (n j m : ℕ) (v : ChannelAnswer) : Type 0 where
  pub none : (v ≡ Ok None) ↔ ((Asked x.layout t n × AskedLine j m) × (Meets r s x × Unreached r x t n j m))
  pub refused : (i f l e : ℕ) → (v ≡ Err (denied i f l e)) ↔ First (way_back_order r s x t n j m) (№ i f l e)

pub record Slice (h : ℕ) (part : ℕ → ℕ) (old new : List ℕ) : Type 0 where
  pub size : length new ≡ length old
  pub places : (c : ℕ) → c < h → get_or new c 0 ≡ part (c + 1)
  -- "Later places stay."
  pub later : (c : ℕ) → h ≤ c → get_or new c 0 ≡ get_or old c 0

pub record Tabled (read : List ℕ → List ℕ) (r s x : Sheet) (t : List ℕ) (n : ℕ) (lines components : List ℕ) (v : Spread)
    (lines' components' : List ℕ) : Type 0 where
  -- "up to the highest covered channel, which is returned"
  pub highest : (h : ℕ)
      → (v ≡ Ok h)
      ↔ (Asked x.layout t n × (Meets r s x × (HighestOf x t n h × ((h ≤ length (read lines)) × (h ≤ length components)))))
  -- "Place c-1 takes channel c's R line and component, or 0 and 0 when channel c is not covered"
  pub filled : (h : ℕ) → v ≡ Ok h
      → Slice h (λ c. line_of (lookup r s x t n c)) (read lines) (read lines') × Slice h (λ c. component_of (lookup r s x t n c)) components components'
  -- "An absent record returns 0 and writes nothing."
  pub absent : Absent x t n → (h : ℕ) → v ≡ Ok h → (h ≡ 0) × ((lines' ≡ lines) × (components' ≡ components))
  -- "20 comes before 1 to 19, and 21 after them"
  pub refused : (i f l e : ℕ) → (v ≡ Err (denied i f l e)) ↔ First (spread_order r s x t n (length (read lines)) (length components)) (№ i f l e)
  -- "All refusals write nothing."
  pub unwritten : (i f l e : ℕ) → v ≡ Err (denied i f l e) → (lines' ≡ lines) × (components' ≡ components)

pub record TracesTold (r s x : Sheet) (i : ℕ) (v : SetAnswer) (o e : List ℕ) : Type 0 where
  pub size : length e ≡ length o
  -- the rows of an accepted set are what the lookup and the way back answer
  pub rows : Meets r s x → RowsTold r s x
  -- "from number `first` on, as many as the slice has whole places"
  pub written : (c : Counts) → v ≡ Ok c → (j : ℕ) → i + j < c.traces → 16 * j + 16 ≤ length o
      → take 16 (drop (16 * j) e) ≡ row_bytes (trace_row r x (i + j))
  -- "places after the last trace and bytes that are no whole place stay"
  pub others : (c : Counts) → v ≡ Ok c → (j : ℕ) → (i + j < c.traces → length o < 16 * j + 16) → drop (16 * j) e ≡ drop (16 * j) o
  -- "a refusal writes nothing"
  pub unwritten : (n f l c : ℕ) → v ≡ Err (denied n f l c) → e ≡ o
