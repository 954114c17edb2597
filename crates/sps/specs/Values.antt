-- The values of a line in the places of a byte slice, eight bytes each, low byte first.
--   given bs               = the number in each place
--   Sixteen vs bs          = vs are the numbers in the first sixteen
--   point_taken b bs        = 22: sixteen places, and values that go into a line of the letter b
--   point_written b bs      = that line; relation_taken, relation_written likewise
--   read_as v n             = what a host gets of a line that is read: its refusal, or n
--   carried v ps o         = o with the numbers ps in its places, unless v refuses
--   Told v n ps o a e      = a host gets a of a line with the verdict v, and its slice holds e, o before
--   PointTold, RelationTold = what it gets of a line by its medium; 20 where it is none
use Rattle.std.specs.Prelude.{ℕ, ◌-◌, ◌<◌, ◌≡◌, Bool, ◌&&◌, List, [], eqb, length, get_or}
use Rattle.rules.specs.Plan.{№, Verdict, fine, refused, file_x}
use Rattle.rules.specs.Layout.{sps93}
use Rattle.rules.specs.Medium.{sheet}
use Rattle.rules.specs.Lines.{letter, kind_of}
use Rattle.rules.specs.Points.{point_at}
use Rattle.rules.specs.Relations.{relation_at}
use Rattle.rules.specs.Rows.{point_rows, relation_rows}
use Rattle.rules.specs.Writer.{point_goes, relation_goes, line_of}
use Rattle.rules.specs.Carried.{bytes_of, state_given, point_given, relation_given, reach_given, state_place, point_places, relation_places}
use Rattle.rules.specs.OneLine.{point_verdict, relation_verdict}
use Rattle.rules.specs.Calls.{Choice, Chosen}
use Rattle.rules.specs.Hosts.{packed}
use Rattle.sps.specs.Counts.{placed}
use Rattle.sps.specs.Said.{read_at}

abbrev pub given : List ℕ → ℕ → ℕ
given bs i = read_at i bs

abbrev pub Sixteen : List ℕ → List ℕ → Type 0
Sixteen vs bs = (i : ℕ) → i < 16 → get_or vs i 0 ≡ given bs i

unfoldable pub point_taken : ℕ → List ℕ → Bool
point_taken b bs = eqb (length bs) 128 && point_goes b (bytes_of 2 (given bs 4)) (state_given (given bs 5)) (point_given (given bs))

unfoldable pub point_written : ℕ → List ℕ → List ℕ
point_written b bs = line_of (letter (kind_of b)) (point_rows sps93 (kind_of b)) (point_given (given bs))

unfoldable pub relation_taken : List ℕ → Bool
relation_taken bs = eqb (length bs) 128 && relation_goes (relation_given (given bs)) (reach_given (given bs))

unfoldable pub relation_written : List ℕ → List ℕ
relation_written bs = line_of (letter file_x) (relation_rows sps93) (relation_given (given bs))

unfoldable pub read_as : Verdict → ℕ → ℕ
read_as fine n = n
read_as (refused w) n = packed w

unfoldable pub carried : Verdict → List ℕ → List ℕ → List ℕ
carried fine ps o = placed ps o
carried (refused w) ps o = o

pub record Told (v : Verdict) (n : ℕ) (ps o : List ℕ) (a : ℕ) (e : List ℕ) : Type 0 where
  pub answer : a ≡ read_as v n
  pub values : e ≡ carried v ps o

abbrev pub NoMedium : List ℕ → ℕ → List ℕ → Type 0
NoMedium o a e = Told (refused (№ 20 0 0 0)) 0 [] o a e

abbrev pub PointTold : Choice → ℕ → List ℕ → ℕ → List ℕ → ℕ → List ℕ → Type 0
PointTold d b f l o a e =
    Chosen d
    (λ M. Told (point_verdict b (sheet M sps93 f) l) (state_place (point_at (sheet M sps93 f) (l - 1)).state)
    (point_places (point_at (sheet M sps93 f) (l - 1))) o a e)
    (NoMedium o a e)

abbrev pub RelationTold : Choice → List ℕ → ℕ → List ℕ → ℕ → List ℕ → Type 0
RelationTold d f l o a e =
    Chosen d (λ M. Told (relation_verdict (sheet M sps93 f) l) 0 (relation_places (relation_at (sheet M sps93 f) (l - 1))) o a e) (NoMedium o a e)
