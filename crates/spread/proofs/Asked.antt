-- The record that is asked for, against the lines of X; what an accepted set gives.
use Prim.Native.Nat.{ℕ, zero, suc, ◌+◌, ◌-◌, ◌<◌, max}
use native.Mathlib.Omega.{arith}
use mathlib.Core.Path.{◌≡◌, sym, ap, ◌∙◌}
use mathlib.Core.Bool.{Bool, true, false, ◌&&◌}
use mathlib.Core.List.{List, [], ◌∷◌, ◌++◌}
use Rattle.std.proofs.lemmas.List.{get_or_append_left}
use lib.Dec.{eqb, lit≤}
use lib.ListN.{length, get_or}
use lib.Seq.{ext_get_or}
use Rattle.rules.specs.Places.{pick, some, greatest}
use Rattle.rules.specs.Text.{col, cols}
use Rattle.rules.specs.Numbers.{size, whole}
use Rattle.rules.specs.Plan.{up_to}
use Rattle.rules.specs.Layout.{sps93, at}
use Rattle.rules.specs.Sheet.{Sheet}
use Rattle.rules.specs.Disc.{printable}
use Rattle.rules.specs.Lines.{is_header, is_data}
use Rattle.rules.specs.Points.{number_of}
use Rattle.rules.specs.Relations.{reach, reach_at}
use Rattle.rules.specs.Reaches.{of_record}
use Rattle.rules.specs.Order.{is_point_at, receivers_there, rule10}
use Rattle.rules.specs.Check.{verdict}
use Rattle.rules.specs.Questions.{record_asked}
use Rattle.rules.specs.Spread.{highest_of}
use Rattle.rules.proofs.Tests.{says, some_is}
use Rattle.rules.proofs.Columns.{cols_length, cols_at}
use Rattle.rules.proofs.Steps.{greatest_more}
use Rattle.rules.proofs.Breach.{run_met}
use Rattle.rules.proofs.Form.{data_is}
use Rattle.rules.proofs.Order.{rule10_is, point_at_is}
use Rattle.rules.proofs.Cover.{Sound, every_receiver}
use Rattle.rules.specs.Meets.{Meets}
use Rattle.rules.proofs.Meets.{verdict_meets}
use Rattle.rules.proofs.Accepted.{sound}
use Rattle.lines.specs.Reading.{sheet_of}
use Rattle.lines.specs.declared.Reading.{Reading}
use Rattle.lines.proofs.Sheets.{layout_is}
use Rattle.lines.proofs.Tests.{greatest_same}
use Rattle.fields.specs.Packed.{packed}
use Rattle.fields.specs.Texts.{Long}
use Rattle.fields.proofs.Texts.{texts_equal}
use Rattle.records.specs.Coded.{coded_reach}
use Rattle.records.specs.declared.relation.Reach.{Reach as ReachValues}
use Rattle.form.specs.Known.{Known}
use Rattle.form.proofs.Known.{tape_long as line_tape}
use Rattle.keys.specs.Held.{RelationLine, KnownReceivers}
use Rattle.spread.specs.declared.wanted.Wanted.{Wanted}
use Rattle.spread.specs.Asked.{Asked, wanted_of, is_of, Accepted}

-- what a tape is that can be asked for
pub tape_length : (t : List ℕ) (n : ℕ) → Asked t n → length t ≡ 6
unfolding record_asked sps93
tape_length t n a = (simp says at a).0

tape_bytes : (t : List ℕ) (n : ℕ) → Asked t n → (i : ℕ) → i < 6 → get_or t i 0 < 256
unfolding record_asked sps93 printable
tape_bytes t n a i h =
    let w = simp says at a in
    let l = w.0 in
    let p = w.1.0 i (omega arith) in
    omega arith

long_is : (m : ℕ) (t : List ℕ) → length t ≡ m → ((i : ℕ) → i < m → get_or t i 0 < 256) → Long m t
long_is zero [] e f = tt
long_is zero (x ∷ xs) e f = absurd (omega arith)
long_is (suc m) [] e f = absurd (omega arith)
long_is (suc m) (x ∷ xs) e f = (f 0 (omega arith), long_is m xs (omega arith) (λ i h. f (suc i) (omega arith)))

pub tape_long : (t : List ℕ) (n : ℕ) → Asked t n → Long 6 t
tape_long t n a = long_is 6 t (tape_length t n a) (tape_bytes t n a)

-- columns 1 to 6 that hold the tape
pub six_columns : (t l m : List ℕ) → length t ≡ 6 → l ≡ t → cols (l ++ m) 1 6 ≡ t
unfolding col
six_columns t l m n e =
    let z = cols_length (l ++ m) 1 (lit≤ tt) 6 in
    ext_get_or 0 (cols (l ++ m) 1 6) t (z ∙ sym n)
    (λ i h.
    let g : i < 6 = omega arith in
    let j : i < length l = rw e (omega arith) in
    cols_at (l ++ m) 1 (lit≤ tt) 6 i g
    ∙ ap (λ (j : ℕ). get_or (l ++ m) j 0) (let z : 1 + i - 1 ≡ i = omega arith in z)
    ∙ get_or_append_left l m 0 i j ∙ ap (λ (d : List ℕ). get_or d i 0) e)

pub wanted_is : (m : ℕ) (t : List ℕ) (n : ℕ) → m ≡ packed t → ◌≡◌ {A = Wanted} (record { tape = m; number = n }) (wanted_of t n)
wanted_is m t n e = λ i. record { tape = e i; number = n }

-- line k of X, by what the code finds in it
module _ (how : Reading) (x : List ℕ) (w : Wanted) (k : ℕ) (l : List ℕ) (e : l ≡ (sheet_of how x).row k) (b : Bool) (eb : b ≡ is_header l) where
  pub of_header : b ≡ true → false ≡ is_of (sheet_of how x) w k
  unfolding is_of is_data
  of_header y = rw (← e, ← eb, y)

  module _ (y : b ≡ false) (t : ℕ) (et : t ≡ packed (cols l 2 7)) where
    -- v is whether the tape is that one
    module _ (v : Bool) (ev : v ≡ eqb t w.tape) where
      pub of_other : v ≡ false → v ≡ is_of (sheet_of how x) w k
      unfolding is_of is_data reach_at reach at sps93
      of_other z = rw (layout_is how x, ← e, ← eb, y, ← et, ← ev, z)

      pub of_number : v ≡ true → (m : ℕ) → m ≡ size (whole (cols l 8 11)) → eqb m w.number ≡ is_of (sheet_of how x) w k
      unfolding is_of is_data reach_at reach number_of at sps93
      of_number z m em = rw (layout_is how x, ← e, ← eb, y, ← et, ← ev, z, ← em)

module _ (how : Reading) (x : List ℕ) (w : Wanted) (k : ℕ) (b : Bool) (eb : b ≡ is_of (sheet_of how x) w k) where
  pub upto_there : b ≡ true → (l : List ℕ) → l ≡ (sheet_of how x).row k → (m : ℕ) → m ≡ size (whole (cols l 43 46))
      → m ≡ pick (is_of (sheet_of how x) w k) (reach_at (sheet_of how x) k).upto 0
  unfolding pick reach_at reach number_of at sps93
  upto_there y l e m em = rw (← eb, y, layout_is how x, ← e) em

  pub upto_none : b ≡ false → 0 ≡ pick (is_of (sheet_of how x) w k) (reach_at (sheet_of how x) k).upto 0
  unfolding pick
  upto_none y = rw (← eb, y)

-- the reach that the code reads from line k
pub reads : (how : Reading) (x : List ℕ) (k : ℕ) (l : List ℕ) (q : ReachValues) → l ≡ (sheet_of how x).row k
    → q ≡ coded_reach (reach sps93 l) → q ≡ coded_reach (reach_at (sheet_of how x) k)
unfolding reach_at
reads how x k l q e f = f ∙ (rw (layout_is how x, e))

-- the record in the paper's words
module _ (x : Sheet) (w : Known 3 x) (t : List ℕ) (n : ℕ) (a : Asked t n) where
  pub is_of_lem : (k : ℕ) → k < x.count → is_of x (wanted_of t n) k ≡ (is_data x k && of_record t n (reach_at x k))
  unfolding is_of of_record
  is_of_lem k h =
      ap (λ (b : Bool). is_data x k && (b && eqb (reach_at x k).number n))
      (texts_equal 6 (reach_at x k).tape t (line_tape 3 x w k h) (tape_long t n a))

  pub highest_by : (v : Wanted) → v ≡ wanted_of t n
      → greatest x.count (λ k. pick (is_of x v k) (reach_at x k).upto 0) ≡ highest_of x t n
  unfolding highest_of
  highest_by v e = greatest_same x.count _ _ (λ k h. rw (e, is_of_lem k h))

-- the greatest so far
module _ (g : ℕ → ℕ) (k m u : ℕ) (e : m ≡ greatest k g) (f : u ≡ g k) where
  pub greatest_max : max m u ≡ greatest (k + 1) g
  greatest_max = let q = greatest_more g k m e in omega arith

-- an accepted set
module _ (r x : Sheet) (ok : Accepted r x) where
  pub meets : Meets r ok.shots x
  unfolding verdict
  meets = (verdict_meets r ok.shots x).0 (sym ok.met)

  pub known_receivers : KnownReceivers r
  known_receivers = (ok.receivers, sym ((run_met (up_to r.count (rule10 r))).1 ((rule10_is r).1 meets.rule10)))

  module _ (k : ℕ) (h : RelationLine x k) where
    pub sound_line : Sound x.layout.most_channel (reach_at x k)
    sound_line = sound r ok.shots x meets k h.0 ((data_is x k).0 h.1)

    pub all_there : receivers_there r (reach_at x k) ≡ true
    unfolding receivers_there
    all_there =
        (every_receiver (reach_at x k) (λ n. some r.count (is_point_at r (reach_at x k).receiver n (reach_at x k).receiver_index))).1
        (λ n c. let w = meets.rule18 k h.0 ((data_is x k).0 h.1) n c in (some_is r.count _).1 (w.0, w.1, (point_at_is r _ n _ w.0).1 w.2))
