-- The values of a relation line.
--   Reach           = what it covers, and of which tape and record
--   Relation        = the reach, its shot, the record increment and the instrument
--   reach_at x k     = the reach of line k
--   relation_at x k  = the relation of line k
-- Fields are named as in `Layout`, whose head has the paper's names: number the field record, step the channel increment I, from F, upto T.
use Rattle.std.specs.Prelude.{ℕ, List}
use Rattle.rules.specs.Names.{Name}
use Rattle.rules.specs.Layout.{Layout, at}
use Rattle.rules.specs.Sheet.{Sheet}
use Rattle.rules.specs.Points.{name_of, number_of, index_at}

pub record Reach : Type 0 where
  pub tape : List ℕ
  pub number : ℕ
  pub from : ℕ
  pub upto : ℕ
  pub step : ℕ
  pub receiver : Name
  pub from_receiver : ℕ
  pub to_receiver : ℕ
  pub receiver_index : ℕ

pub record Relation : Type 0 where
  pub increment : ℕ
  pub instrument : ℕ
  pub source : Name
  pub shot : ℕ
  pub shot_index : ℕ
  pub reach : Reach

unfoldable pub reach : Layout → List ℕ → Reach
reach L l =
    record {
      tape = at l L.tape;
      number = number_of l L.number;
      from = number_of l L.from;
      upto = number_of l L.upto;
      step = index_at l L.step;
      receiver = name_of l L.receiver;
      from_receiver = number_of l L.from_receiver;
      to_receiver = number_of l L.to_receiver;
      receiver_index = index_at l L.receiver_index;
    }

unfoldable pub relation : Layout → List ℕ → Relation
relation L l =
    record {
      increment = index_at l L.increment;
      instrument = index_at l L.instrument;
      source = name_of l L.source;
      shot = number_of l L.shot;
      shot_index = index_at l L.shot_index;
      reach = reach L l;
    }

unfoldable pub reach_at : Sheet → ℕ → Reach
reach_at f k = reach f.layout (f.row k)

unfoldable pub relation_at : Sheet → ℕ → Relation
relation_at f k = relation f.layout (f.row k)
