-- Across the files: refusals 10 to 19. "Receivers and shots in 10 to 19 are the lines that are not PM."
--   above rank v w      = v stands above w, by line name bytes, point, index
--   earlier v w         = v is earlier than w, by day then time
--   line_of_point f n p i = the line of the point of that name, number and index; the number of lines where there is none
--   rule10 .. rule19    = the refusals of those numbers
use Rattle.std.specs.Prelude.{ℕ, ◌+◌, Bool, not, ◌&&◌, ◌||◌, eqb, leb, ltb}
use Rattle.rules.specs.Places.{every, some, least, if_before, of_last}
use Rattle.rules.specs.Plan.{Plan, №, file_r, file_s, file_x, need, when}
use Rattle.rules.specs.Names.{Name, same_name, less_name}
use Rattle.rules.specs.Layout.{letter_column}
use Rattle.rules.specs.Sheet.{Sheet}
use Rattle.rules.specs.Lines.{is_data, is_point}
use Rattle.rules.specs.Points.{Point, point_at, is_at, same_point, is_killed}
use Rattle.rules.specs.Relations.{Reach, Relation, reach_at, relation_at}
use Rattle.rules.specs.Cover.{receivers, receiver_on}
use Rattle.rules.specs.Reaches.{reaches_of, mates, together, rises, once}

unfoldable pub above : (ℕ → ℕ) → Point → Point → Bool
above rank v w =
    less_name rank w.name v.name
    || (same_name w.name v.name
    && (ltb w.number v.number || (eqb w.number v.number && ltb w.index v.index)))

unfoldable pub earlier : Point → Point → Bool
earlier v w = ltb v.day w.day || (eqb v.day w.day && ltb v.time w.time)

-- 10: a receiver is not above the receiver line before it
unfoldable pub rule10 : Sheet → ℕ → Plan
rule10 r k =
    when (is_point r k)
    (need (of_last (is_point r) (λ j. above r.rank (point_at r k) (point_at r j)) k) (№ 10 file_r (k + 1) r.layout.name.first))

-- 11: a shot is earlier than the shot line before it
unfoldable pub rule11 : Sheet → ℕ → Plan
rule11 s k =
    when (is_point s k)
    (need (of_last (is_point s) (λ j. not (earlier (point_at s k) (point_at s j))) k) (№ 11 file_s (k + 1) s.layout.day.first))

-- 12: a shot repeats an earlier shot's name, point and index
unfoldable pub rule12 : Sheet → ℕ → Plan
rule12 s k =
    when (is_point s k)
    (need (every k (λ j. not (is_point s j) || not (same_point (point_at s k) (point_at s j)))) (№ 12 file_s (k + 1) s.layout.name.first))

-- line j holds the point of that name, number and index
unfoldable pub is_point_at : Sheet → Name → ℕ → ℕ → ℕ → Bool
is_point_at f n p i j = is_point f j && is_at n p i (point_at f j)

unfoldable pub line_of_point : Sheet → Name → ℕ → ℕ → ℕ
line_of_point f n p i = least f.count (is_point_at f n p i)

unfoldable pub shot_line : Sheet → Relation → ℕ
shot_line s v = line_of_point s v.source v.shot v.shot_index

unfoldable pub receiver_line : Sheet → Reach → ℕ → ℕ
receiver_line r q n = line_of_point r q.receiver n q.receiver_index

-- a receiver or a shot that is not killed
unfoldable pub is_live : Sheet → ℕ → Bool
is_live f j = is_point f j && not (is_killed (point_at f j))

-- 13: no shot that is not killed has the relation's source name, point and index
unfoldable pub is_shot_of : Sheet → Relation → ℕ → Bool
is_shot_of s v j = is_point_at s v.source v.shot v.shot_index j && not (is_killed (point_at s j))

unfoldable pub rule13 : Sheet → Sheet → ℕ → Plan
rule13 s x k =
    let v = relation_at x k in
    need (some s.count (is_shot_of s v)) (№ 13 file_x (k + 1) x.layout.source.first)

-- 14: its shot stands in S before that of the previous relation line
unfoldable pub rule14 : Sheet → Sheet → ℕ → Plan
rule14 s x k =
    need (if_before (λ j. not (is_data x j) || leb (shot_line s (relation_at x j)) (shot_line s (relation_at x k))) k)
    (№ 14 file_x (k + 1) x.layout.source.first)

-- 15: a shot that is not killed and that no relation line names
unfoldable pub names : Relation → Point → Bool
names v p = is_at v.source v.shot v.shot_index p

unfoldable pub rule15 : Sheet → Sheet → ℕ → Plan
rule15 s x k =
    when (is_live s k)
    (need (some x.count (λ j. is_data x j && names (relation_at x j) (point_at s k))) (№ 15 file_s (k + 1) letter_column))

-- 16: a record stands apart, or changes its source, record increment or instrument
unfoldable pub same_shot : Relation → Relation → Bool
same_shot v w =
    same_name v.source w.source
    && (eqb v.shot w.shot
    && (eqb v.shot_index w.shot_index && (eqb v.increment w.increment && eqb v.instrument w.instrument)))

unfoldable pub rule16 : Sheet → ℕ → Plan
rule16 x k =
    let Q = reaches_of x in
    need (together Q k && if_before (λ j. not (mates Q k j) || same_shot (relation_at x k) (relation_at x j)) k)
    (№ 16 file_x (k + 1) x.layout.tape.first)

-- 17: F is not above T of the line just before, in the same record
unfoldable pub rule17 : Sheet → ℕ → Plan
rule17 x k = need (rises (reaches_of x) k) (№ 17 file_x (k + 1) x.layout.from.first)

-- 18: a covered receiver number has no receiver of that line name and index
unfoldable pub receivers_there : Sheet → Reach → Bool
receivers_there r q =
    every (receivers q) (λ d. some r.count (is_point_at r q.receiver (receiver_on q d) q.receiver_index))

unfoldable pub rule18 : Sheet → Sheet → ℕ → Plan
rule18 r x k = need (receivers_there r (reach_at x k)) (№ 18 file_x (k + 1) x.layout.from_receiver.first)

-- 19: a covered receiver is covered by an earlier line of the same tape and record
unfoldable pub rule19 : Sheet → ℕ → Plan
rule19 x k = need (once (reaches_of x) k) (№ 19 file_x (k + 1) x.layout.from_receiver.first)
