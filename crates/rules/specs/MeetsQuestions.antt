-- The questions in words: which can be asked, in which order they are refused, and what is covered.
--   Asked L t n               = a tape and a record in range
--   AskedChannel, AskedLine   = a channel; an R line and a component
--   Unasked ..                = the contrary of each
--   Of x t n k                = line k is a relation line of that tape and record
--   Stands r j                = R line j is a receiver
--   Leads p m q               = the relation line leads to component m of the receiver p
--   Uncovered x t n c         = no relation line of that tape and record carries channel c
--   Unreached r x t n j m     = none leads to component m of the receiver in R line j, or no receiver stands there
--   Absent x t n              = no relation line is of that tape and record
--   Highest x t n h           = h is the record's highest covered channel; 0 where the record is absent
--   Room, Short               = both spread slices, of a and b places, have a place for each channel up to it; one has not
--   KindLetter b i            = the letter of a file, and of the kind of codes that it uses
--   AskedKind b               = a kind
--   AskedCode b c             = a kind, and a code of it: two bytes, of an instrument one
--   NamedIn r i c l           = line l of R names the code; l is 0 where none does
--   file_order                 = "20 for a kind that is not R, S or X, before the rest", then the form of one file
--   lookup_order, way_back_order, spread_order, table_order = "20 comes before 1 to 19, and 21 after them"
use Rattle.std.specs.Prelude.{ℕ, ◌+◌, ◌-◌, ◌≤◌, ◌<◌, ◌≡◌, ◌⊎◌, List, length, get_or}
use Prim.Native.Char.{code as ascii}
use Rattle.rules.specs.Plan.{№, file_r, file_s, file_x}
use Rattle.rules.specs.Text.{col}
use Rattle.rules.specs.Layout.{Layout}
use Rattle.rules.specs.Sheet.{Sheet, most_lines}
use Rattle.rules.specs.Points.{Point as PointValues, point_at}
use Rattle.rules.specs.Relations.{Reach, reach_at}
use Rattle.rules.specs.Lines.{kind_of}
use Rattle.rules.specs.Tables.{written}
use Rattle.rules.specs.MeetsForm.{Data, Point}
use Rattle.rules.specs.MeetsHeaders.{InHeader}
use Rattle.rules.specs.MeetsCodes.{CodeOf, NamesCode, Named}
use Rattle.rules.specs.MeetsDisc.{Printable}
use Rattle.rules.specs.MeetsCover.{Carries, Reached}
use Rattle.rules.specs.MeetsSet.{OfRecord}
use Rattle.rules.specs.Refuses.{Order, look, ◌then◌, By, form_order, order}

-- 20: "tape not 6 columns of bytes 32-126 starting with a non-blank, record above 9999, channel or R line not 1-9999, component not 1-9"
abbrev pub Asked : Layout → List ℕ → ℕ → Type 0
Asked L t n =
    (length t ≡ L.tape.last + 1 - L.tape.first)
    × (((i : ℕ) → i < length t → Printable (get_or t i 0)) × ((col t 1 ≡ 32 → ⊥) × (n ≤ L.most_record)))

abbrev pub Unasked : Layout → List ℕ → ℕ → Type 0
Unasked L t n =
    (length t ≡ L.tape.last + 1 - L.tape.first → ⊥)
    ⊎ (((i : ℕ) × (i < length t) × (Printable (get_or t i 0) → ⊥)) ⊎ ((col t 1 ≡ 32) ⊎ (L.most_record < n)))

abbrev pub AskedChannel : Layout → ℕ → Type 0
AskedChannel L c = (1 ≤ c) × (c ≤ L.most_channel)

abbrev pub UnaskedChannel : Layout → ℕ → Type 0
UnaskedChannel L c = (c ≡ 0) ⊎ (L.most_channel < c)

abbrev pub AskedLine : ℕ → ℕ → Type 0
AskedLine j m = ((1 ≤ j) × (j ≤ most_lines)) × ((1 ≤ m) × (m ≤ 9))

abbrev pub UnaskedLine : ℕ → ℕ → Type 0
UnaskedLine j m = ((j ≡ 0) ⊎ (most_lines < j)) ⊎ ((m ≡ 0) ⊎ (9 < m))

abbrev pub Of : Sheet → List ℕ → ℕ → ℕ → Type 0
Of x t n k = Data x k × OfRecord t n (reach_at x k)

abbrev pub Stands : Sheet → ℕ → Type 0
Stands r j = (1 ≤ j) × ((j ≤ r.count) × Point r (j - 1))

abbrev pub Leads : PointValues → ℕ → Reach → Type 0
Leads p m q = (q.receiver ≡ p.name) × ((q.receiver_index ≡ p.index) × Reached q p.number m)

abbrev pub Uncovered : Sheet → List ℕ → ℕ → ℕ → Type 0
Uncovered x t n c = (k : ℕ) → k < x.count → Of x t n k → Carries (reach_at x k) c → ⊥

abbrev pub Unreached : Sheet → Sheet → List ℕ → ℕ → ℕ → ℕ → Type 0
Unreached r x t n j m =
    Stands r j → (k : ℕ) → k < x.count → Of x t n k → Leads (point_at r (j - 1)) m (reach_at x k) → ⊥

-- 21: "either spread slice is shorter than the record's highest channel"
abbrev pub Absent : Sheet → List ℕ → ℕ → Type 0
Absent x t n = (k : ℕ) → k < x.count → Of x t n k → ⊥

abbrev pub Highest : Sheet → List ℕ → ℕ → ℕ → Type 0
Highest x t n h =
    ((k : ℕ) → k < x.count → Of x t n k → (reach_at x k).upto ≤ h)
    × ((Absent x t n × (h ≡ 0)) ⊎ ((k : ℕ) × (k < x.count) × Of x t n k × ((reach_at x k).upto ≡ h)))

abbrev pub Room : Sheet → List ℕ → ℕ → ℕ → ℕ → Type 0
Room x t n a b = (h : ℕ) × Highest x t n h × ((h ≤ a) × (h ≤ b))

abbrev pub Short : Sheet → List ℕ → ℕ → ℕ → ℕ → Type 0
Short x t n a b = (h : ℕ) × Highest x t n h × ((a < h) ⊎ (b < h))

-- one file, and the line that names a code
abbrev pub KindLetter : ℕ → ℕ → Type 0
KindLetter b i = ((b ≡ ascii "R") × (i ≡ file_r)) ⊎ (((b ≡ ascii "S") × (i ≡ file_s)) ⊎ ((b ≡ ascii "X") × (i ≡ file_x)))

abbrev pub AskedKind : ℕ → Type 0
AskedKind b = (i : ℕ) × KindLetter b i

abbrev pub AskedCode : ℕ → List ℕ → Type 0
AskedCode b c = (i : ℕ) × KindLetter b i × ((length (written i c) ≡ 2) × CodeOf i (written i c))

abbrev pub NamedIn : Sheet → ℕ → List ℕ → ℕ → Type 0
NamedIn r i c l =
    ((k : ℕ) × (k + 1 ≡ l) × InHeader r k × NamesCode r.layout i c (r.row k)) ⊎ ((l ≡ 0) × (Named r i c → ⊥))

abbrev pub asking : Type 0 → Type 0 → Order → Order
asking A U o = look A (By U (№ 20 0 0 0)) then o

abbrev pub file_order : ℕ → Sheet → Order
file_order b f = asking (AskedKind b) (AskedKind b → ⊥) (form_order (kind_of b) f)

abbrev pub lookup_order : Sheet → Sheet → Sheet → List ℕ → ℕ → ℕ → Order
lookup_order r s x t n c =
    asking (Asked x.layout t n × AskedChannel x.layout c) (Unasked x.layout t n ⊎ UnaskedChannel x.layout c) (order r s x)

abbrev pub way_back_order : Sheet → Sheet → Sheet → List ℕ → ℕ → ℕ → ℕ → Order
way_back_order r s x t n j m =
    asking (Asked x.layout t n × AskedLine j m) (Unasked x.layout t n ⊎ UnaskedLine j m) (order r s x)

abbrev pub spread_order : Sheet → Sheet → Sheet → List ℕ → ℕ → ℕ → ℕ → Order
spread_order r s x t n a b =
    asking (Asked x.layout t n) (Unasked x.layout t n)
    (order r s x then look (Room x t n a b) (By (Short x t n a b) (№ 21 0 0 0)))

abbrev pub table_order : Sheet → Sheet → Sheet → ℕ → List ℕ → Order
table_order r s x b c = asking (AskedCode b c) (AskedCode b c → ⊥) (order r s x)
