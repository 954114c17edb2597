-- Refusals 10 to 19 in words: what each rule says, and what it is to break it. "Receivers and shots in 10 to 19 are the lines that are not PM."
--   Less a b            = a comes before b by bytes
--   LessName rank a b   = the same of names, by the medium's own bytes
--   Above rank v w      = v stands above w, by line name bytes, point, index
--   Earlier v w         = v is earlier than w, by day then time
--   At n p i v          = the point of that name, number and index
--   SamePoint v w       = the same name, number and index
--   PointAt f n p i j   = line j holds it
--   Killed f j          = line j is killed
--   Shot s v j          = line j of S holds the shot of a relation
--   Receiver r q n j    = line j of R holds receiver number n of a reach
--   NoneBetween f j k   = no receiver or shot stands between lines j and k
--   NamedBy s x k j     = line j of X is a relation line that names the shot in line k of S
--   OfRecord t n q      = a reach of that tape and record
--   Mates x k j         = line j is a relation line of the same tape and record as line k
--   SameShot v w        = the same source, record increment and instrument
--   Rule10 .. Rule19    = the rules of those numbers, of line k
--   Breach10 .. Breach19 = the contrary of each
use Rattle.std.specs.Prelude.{ℕ, suc, ◌≤◌, ◌<◌, ◌≡◌, ◌⊎◌, List, [], ◌∷◌}
use Rattle.rules.specs.Names.{Name, text, ranked}
use Rattle.rules.specs.Sheet.{Sheet}
use Rattle.rules.specs.Points.{Point as PointValues, point_at, killed}
use Rattle.rules.specs.Relations.{Reach, Relation, reach_at, relation_at}
use Rattle.rules.specs.MeetsForm.{Data, Point}
use Rattle.rules.specs.MeetsCover.{Covers, Meet}

abbrev pub Less : List ℕ → List ℕ → Type 0
Less xs [] = ⊥
Less [] (y ∷ ys) = Unit {0}
Less (x ∷ xs) (y ∷ ys) = (x < y) ⊎ ((x ≡ y) × Less xs ys)

abbrev pub LessName : (ℕ → ℕ) → Name → Name → Type 0
LessName rank (text a) (text b) = Less (ranked rank a) (ranked rank b)

abbrev pub Above : (ℕ → ℕ) → PointValues → PointValues → Type 0
Above rank v w =
    LessName rank w.name v.name
    ⊎ ((w.name ≡ v.name) × ((w.number < v.number) ⊎ ((w.number ≡ v.number) × (w.index < v.index))))

abbrev pub Earlier : PointValues → PointValues → Type 0
Earlier v w = (v.day < w.day) ⊎ ((v.day ≡ w.day) × (v.time < w.time))

abbrev pub At : Name → ℕ → ℕ → PointValues → Type 0
At n p i v = (v.name ≡ n) × ((v.number ≡ p) × (v.index ≡ i))

abbrev pub SamePoint : PointValues → PointValues → Type 0
SamePoint v w = At w.name w.number w.index v

abbrev pub PointAt : Sheet → Name → ℕ → ℕ → ℕ → Type 0
PointAt f n p i j = Point f j × At n p i (point_at f j)

abbrev pub Killed : Sheet → ℕ → Type 0
Killed f j = (point_at f j).state ≡ killed

abbrev pub Shot : Sheet → Relation → ℕ → Type 0
Shot s v j = PointAt s v.source v.shot v.shot_index j

abbrev pub Receiver : Sheet → Reach → ℕ → ℕ → Type 0
Receiver r q n j = PointAt r q.receiver n q.receiver_index j

abbrev pub NoneBetween : Sheet → ℕ → ℕ → Type 0
NoneBetween f j k = (m : ℕ) → j < m → m < k → Point f m → ⊥

-- 10: "a receiver is not above the receiver line before it, by line name bytes, point, index"
abbrev pub Rule10 : Sheet → ℕ → Type 0
Rule10 r k =
    Point r k → (j : ℕ) → j < k → Point r j → NoneBetween r j k → Above r.rank (point_at r k) (point_at r j)

abbrev pub Breach10 : Sheet → ℕ → Type 0
Breach10 r k =
    Point r k × ((j : ℕ) × (j < k) × Point r j × NoneBetween r j k × (Above r.rank (point_at r k) (point_at r j) → ⊥))

-- 11: "a shot is earlier, by day then time, than the shot line before it"
abbrev pub Rule11 : Sheet → ℕ → Type 0
Rule11 s k =
    Point s k → (j : ℕ) → j < k → Point s j → NoneBetween s j k → Earlier (point_at s k) (point_at s j) → ⊥

abbrev pub Breach11 : Sheet → ℕ → Type 0
Breach11 s k =
    Point s k × ((j : ℕ) × (j < k) × Point s j × NoneBetween s j k × Earlier (point_at s k) (point_at s j))

-- 12: "a shot repeats an earlier shot's name, point and index"
abbrev pub Rule12 : Sheet → ℕ → Type 0
Rule12 s k = Point s k → (j : ℕ) → j < k → Point s j → SamePoint (point_at s k) (point_at s j) → ⊥

abbrev pub Breach12 : Sheet → ℕ → Type 0
Breach12 s k = Point s k × ((j : ℕ) × (j < k) × (Point s j × SamePoint (point_at s k) (point_at s j)))

-- 13: "no shot has the relation's source name, point and index"; "13 is also given for a killed shot"
abbrev pub Rule13 : Sheet → Sheet → ℕ → Type 0
Rule13 s x k = (j : ℕ) × (j < s.count) × (Shot s (relation_at x k) j × (Killed s j → ⊥))

abbrev pub Breach13 : Sheet → Sheet → ℕ → Type 0
Breach13 s x k = (j : ℕ) → j < s.count → Shot s (relation_at x k) j × (Killed s j → ⊥) → ⊥

-- 14: "its shot stands in S before that of the previous relation line"
abbrev pub Rule14 : Sheet → Sheet → ℕ → Type 0
Rule14 s x k =
    (j : ℕ) → suc j ≡ k → Data x j
    → (a b : ℕ) → a < s.count → b < s.count → Shot s (relation_at x j) a → Shot s (relation_at x k) b → a ≤ b

abbrev pub Breach14 : Sheet → Sheet → ℕ → Type 0
Breach14 s x k =
    (j : ℕ) × (suc j ≡ k) × Data x j
    × ((a b : ℕ) × (a < s.count) × (b < s.count) × Shot s (relation_at x j) a × Shot s (relation_at x k) b × (b < a))

-- 15: "a shot that no relation line names"; "A killed shot needs no relation line"
abbrev pub NamedBy : Sheet → Sheet → ℕ → ℕ → Type 0
NamedBy s x k j = Data x j × At (relation_at x j).source (relation_at x j).shot (relation_at x j).shot_index (point_at s k)

abbrev pub Rule15 : Sheet → Sheet → ℕ → Type 0
Rule15 s x k = Point s k × (Killed s k → ⊥) → (j : ℕ) × (j < x.count) × NamedBy s x k j

abbrev pub Breach15 : Sheet → Sheet → ℕ → Type 0
Breach15 s x k = (Point s k × (Killed s k → ⊥)) × ((j : ℕ) → j < x.count → NamedBy s x k j → ⊥)

-- 16: "an earlier relation line has the same tape and record, and the line just before has not; or it has, and differs in source,
-- record increment or instrument"
abbrev pub OfRecord : List ℕ → ℕ → Reach → Type 0
OfRecord t n q = (q.tape ≡ t) × (q.number ≡ n)

abbrev pub Mates : Sheet → ℕ → ℕ → Type 0
Mates x k j = Data x j × OfRecord (reach_at x k).tape (reach_at x k).number (reach_at x j)

abbrev pub SameShot : Relation → Relation → Type 0
SameShot v w =
    (v.source ≡ w.source)
    × ((v.shot ≡ w.shot)
    × ((v.shot_index ≡ w.shot_index) × ((v.increment ≡ w.increment) × (v.instrument ≡ w.instrument))))

abbrev pub Rule16 : Sheet → ℕ → Type 0
Rule16 x k =
    ((j : ℕ) → j < k → Mates x k j → (i : ℕ) × (suc i ≡ k) × Mates x k i)
    × ((j : ℕ) → suc j ≡ k → Mates x k j → SameShot (relation_at x k) (relation_at x j))

abbrev pub Breach16 : Sheet → ℕ → Type 0
Breach16 x k =
    ((j : ℕ) × (j < k) × (Mates x k j × ((i : ℕ) → suc i ≡ k → Mates x k i → ⊥)))
    ⊎ ((j : ℕ) × (suc j ≡ k) × (Mates x k j × (SameShot (relation_at x k) (relation_at x j) → ⊥)))

-- 17: "the line just before has the same tape and record, and F is not above its T"
abbrev pub Rule17 : Sheet → ℕ → Type 0
Rule17 x k = (j : ℕ) → suc j ≡ k → Mates x k j → (reach_at x j).upto < (reach_at x k).from

abbrev pub Breach17 : Sheet → ℕ → Type 0
Breach17 x k = (j : ℕ) × (suc j ≡ k) × (Mates x k j × ((reach_at x k).from ≤ (reach_at x j).upto))

-- 18: "a covered receiver number has no receiver of that line name and index"
abbrev pub Rule18 : Sheet → Sheet → ℕ → Type 0
Rule18 r x k = (n : ℕ) → Covers (reach_at x k) n → (j : ℕ) × (j < r.count) × Receiver r (reach_at x k) n j

abbrev pub Breach18 : Sheet → Sheet → ℕ → Type 0
Breach18 r x k = (n : ℕ) × Covers (reach_at x k) n × ((j : ℕ) → j < r.count → Receiver r (reach_at x k) n j → ⊥)

-- 19: "a covered receiver is covered by an earlier line of the same tape and record"
abbrev pub Rule19 : Sheet → ℕ → Type 0
Rule19 x k = (j : ℕ) → j < k → Mates x k j → Meet (reach_at x k) (reach_at x j) → ⊥

abbrev pub Breach19 : Sheet → ℕ → Type 0
Breach19 x k = (j : ℕ) × (j < k) × (Mates x k j × Meet (reach_at x k) (reach_at x j))
