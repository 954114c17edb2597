-- What a met form tells of a file: its lines are few, their columns hold bytes, so names have 16 bytes, and numbers are small.
--   known              = a file whose form is met is known
--   formed             = it is well formed in the paper's words
--   long_at, index_small, number_small = a field of a line of bytes, by its span
--   point_wide .. to_receiver_small    = the fields of line k that the rules over the set compare
use Prim.Native.Nat.{ℕ, ◌+◌, ◌-◌, ◌^◌, ◌<◌}
use native.Mathlib.Omega.{arith}
use mathlib.Core.Path.{◌≡◌, refl, sym, subst}
use mathlib.Core.Bool.{Bool, true, false}
use mathlib.Core.List.{List}
use lib.Dec.{eqb, lit≤}
use lib.ListN.{length, get_or}
use Rattle.rules.specs.Places.{pick}
use Rattle.rules.specs.Plan.{fine, run}
use Rattle.rules.specs.Text.{cols}
use Rattle.rules.specs.Numbers.{whole}
use Rattle.rules.specs.Kinds.{index_of}
use Rattle.rules.specs.Layout.{Span, sps93, at}
use Rattle.rules.specs.Sheet.{Sheet}
use Rattle.rules.specs.Form.{form}
use Rattle.rules.specs.Points.{point, point_at, name_of, number_of, index_at}
use Rattle.rules.specs.Relations.{reach, relation, reach_at, relation_at}
use Rattle.rules.proofs.Columns.{cols_length}
use Rattle.rules.proofs.Sizes.{small_more, whole_small}
use Rattle.rules.proofs.Breach.{run_met}
use Rattle.rules.specs.Form.{stray}
use Rattle.rules.specs.MeetsForm.{Formed}
use Rattle.rules.proofs.Raw.{clean_stray}
use Rattle.rules.proofs.Meets.{form_is}
use Rattle.lines.specs.declared.Reading.{Reading}
use Rattle.lines.specs.Reading.{medium_of, sheet_of}
use Rattle.lines.proofs.Sheets.{lawful, layout_is, rank_is, row_small, own_is, row_told}
use Rattle.fields.specs.Texts.{Small, Long, Wide}
use Rattle.fields.specs.Ranks.{Ranks}
use Rattle.fields.proofs.Codes.{first_column}
use Rattle.fields.proofs.Texts.{cols_long}
use Rattle.form.specs.Known.{Columns, AtMost, Shape, Known}

pub sps93_shape : Shape sps93
unfolding sps93
sps93_shape =
    record {
      name = (lit≤ tt, refl);
      point = (lit≤ tt, lit≤ tt);
      index = (lit≤ tt, refl);
      time = (lit≤ tt, lit≤ tt);
      tape = (lit≤ tt, refl);
      number = (lit≤ tt, lit≤ tt);
      increment = (lit≤ tt, refl);
      instrument = (lit≤ tt, refl);
      source = (lit≤ tt, refl);
      shot = (lit≤ tt, lit≤ tt);
      shot_index = (lit≤ tt, refl);
      from = (lit≤ tt, lit≤ tt);
      upto = (lit≤ tt, lit≤ tt);
      step = (lit≤ tt, refl);
      receiver = (lit≤ tt, refl);
      from_receiver = (lit≤ tt, lit≤ tt);
      to_receiver = (lit≤ tt, lit≤ tt);
      receiver_index = (lit≤ tt, refl);
    }

met_formed : (i : ℕ) (f : Sheet) → fine ≡ run (form i f) → Formed i f
met_formed i f m = (form_is i f).0 ((run_met (form i f)).0 (sym m))

-- 3 of each line is met
pub clean_line : (i : ℕ) (f : Sheet) → Known i f → (k : ℕ) → k < f.count → stray f k ≡ 0
clean_line i f w k h = (clean_stray f k).1 ((met_formed i f w.met).rule3 k h)

bytes_rank : (how : Reading) → Ranks (medium_of how).byte_of
bytes_rank how =
    let w = lawful how in
    record { none = w.none; fits = w.fits; apart = w.apart; blanks = w.blanks; digits = w.digits }

pub known : (how : Reading) (i : ℕ) (f : List ℕ) → fine ≡ run (form i (sheet_of how f)) → Known i (sheet_of how f)
known how i f m =
    let w = met_formed i (sheet_of how f) m in
    let s : (k : ℕ) → k < (sheet_of how f).count → stray (sheet_of how f) k ≡ 0 = λ k h. (clean_stray (sheet_of how f) k).1 (w.rule3 k h) in
    record {
      few = let h = w.rule2 in omega arith;
      clean = λ k h. row_small how f k h (s k h);
      met = m;
      shape = rw (layout_is how f) sps93_shape;
      ranks = rw (rank_is how f) (bytes_rank how);
      own = λ k h. own_is how f k h (s k h);
      told = λ k h. row_told how f k h (s k h);
    }

-- a field of a line of bytes, by its span
module _ (l : List ℕ) (s : Small l) (p : Span) where
  pub long_at : (n : ℕ) → Columns n p → Long n (at l p)
  unfolding at
  long_at n w =
      subst (λ (b : ℕ). Long n (cols l p.first b)) (let z : p.first + n - 1 ≡ p.last = omega arith in z)
      (cols_long l s n p.first w.0)

  pub index_small : Columns 1 p → index_at l p < 256
  unfolding index_at at index_of pick
  index_small w =
      rw (first_column l p.first p.last w.0 (omega arith))
      (go (eqb (get_or l (p.first - 1) 0) 32) (get_or l (p.first - 1) 0) (s (p.first - 1)))
    where
      go : (t : Bool) (b : ℕ) → b < 256 → pick t 1 (b - 48) < 256
      go true b h = lit≤ tt
      go false b h = omega arith

pub number_small : (l : List ℕ) (p : Span) (n : ℕ) → AtMost n p → number_of l p < 10 ^ n
unfolding number_of at
number_small l p n w =
    let bs = cols l p.first p.last in
    let e = cols_length l p.first w.0 p.last in
    small_more (whole bs) (length bs) n (omega arith) (whole_small bs)

module _ (i : ℕ) (f : Sheet) (w : Known i f) where
  pub formed : Formed i f
  formed = met_formed i f w.met

  -- line k
  module _ (k : ℕ) (h : k < f.count) where
    pub line_small : Small (f.row k)
    line_small = w.clean k h

    pub point_wide : Wide (point_at f k).name
    unfolding point_at point name_of
    point_wide = long_at (f.row k) line_small f.layout.name 16 w.shape.name

    pub point_number : (point_at f k).number < 100000000
    unfolding point_at point
    point_number = number_small (f.row k) f.layout.point 8 w.shape.point

    pub point_index : (point_at f k).index < 256
    unfolding point_at point
    point_index = index_small (f.row k) line_small f.layout.index w.shape.index

    pub point_time : (point_at f k).time < 1000000
    unfolding point_at point
    point_time = number_small (f.row k) f.layout.time 6 w.shape.time

    pub increment_small : (relation_at f k).increment < 256
    unfolding relation_at relation
    increment_small = index_small (f.row k) line_small f.layout.increment w.shape.increment

    pub instrument_small : (relation_at f k).instrument < 256
    unfolding relation_at relation
    instrument_small = index_small (f.row k) line_small f.layout.instrument w.shape.instrument

    pub source_wide : Wide (relation_at f k).source
    unfolding relation_at relation name_of
    source_wide = long_at (f.row k) line_small f.layout.source 16 w.shape.source

    pub shot_number : (relation_at f k).shot < 100000000
    unfolding relation_at relation
    shot_number = number_small (f.row k) f.layout.shot 8 w.shape.shot

    pub shot_index_lem : (relation_at f k).shot_index < 256
    unfolding relation_at relation
    shot_index_lem = index_small (f.row k) line_small f.layout.shot_index w.shape.shot_index

    pub tape_long : Long 6 (reach_at f k).tape
    unfolding reach_at reach
    tape_long = long_at (f.row k) line_small f.layout.tape 6 w.shape.tape

    pub record_small : (reach_at f k).number < 100000000
    unfolding reach_at reach
    record_small = number_small (f.row k) f.layout.number 8 w.shape.number

    pub from_small : (reach_at f k).from < 100000000
    unfolding reach_at reach
    from_small = number_small (f.row k) f.layout.from 8 w.shape.from

    pub upto_small : (reach_at f k).upto < 100000000
    unfolding reach_at reach
    upto_small = number_small (f.row k) f.layout.upto 8 w.shape.upto

    pub step_small : (reach_at f k).step < 256
    unfolding reach_at reach
    step_small = index_small (f.row k) line_small f.layout.step w.shape.step

    pub receiver_wide : Wide (reach_at f k).receiver
    unfolding reach_at reach name_of
    receiver_wide = long_at (f.row k) line_small f.layout.receiver 16 w.shape.receiver

    pub receiver_index_lem : (reach_at f k).receiver_index < 256
    unfolding reach_at reach
    receiver_index_lem = index_small (f.row k) line_small f.layout.receiver_index w.shape.receiver_index

    pub from_receiver_small : (reach_at f k).from_receiver < 100000000
    unfolding reach_at reach
    from_receiver_small = number_small (f.row k) f.layout.from_receiver 8 w.shape.from_receiver

    pub to_receiver_small : (reach_at f k).to_receiver < 100000000
    unfolding reach_at reach
    to_receiver_small = number_small (f.row k) f.layout.to_receiver 8 w.shape.to_receiver
