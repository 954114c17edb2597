-- A slice after one line of X more.
--   ended_there        = the last of the places that are put is that of a trace of the line
--   is_relation        = line k by what the code finds
--   next_is, next_same = the traces above the next line
--   stays, none_fits   = no row is put: the line has none, or none that is wanted and has a place
--   fitting, some_fit  = rows of it are put: what the code needs of them, and what the slice holds then
use Prim.Native.Nat.{ℕ, suc, ◌+◌, ◌-◌, ◌*◌, ◌/◌, ◌≤◌, ◌<◌, min}
use native.Mathlib.Nat.{le_of_lt}
use native.Mathlib.Omega.{arith}
use mathlib.Core.Path.{◌≡◌, sym, ap, subst, ◌∙◌}
use mathlib.Core.Bool.{Bool, true, false}
use mathlib.Core.List.{List}
use lib.ListN.{length}
use Rattle.rules.specs.Places.{pick}
use Rattle.rules.specs.Sheet.{Sheet}
use Rattle.rules.specs.Lines.{is_data}
use Rattle.rules.specs.Relations.{reach_at}
use Rattle.rules.specs.Cover.{traces}
use Rattle.rules.specs.TraceRows.{traces_above, rows_from}
use Rattle.rules.proofs.TraceRows.{above_suc}
use Rattle.keys.specs.Held.{RelationLine}
use Rattle.keys.specs.Keyed.{takes_at}
use Rattle.keys.specs.declared.By.TheVariants.{Records}
use Rattle.keys.proofs.Lines.{takes_record}
use Rattle.dead.specs.Dead.{killed_row}
use Rattle.records.specs.Coded.{coded_reach}
use Rattle.records.specs.declared.relation.Reach.{Reach as ReachValues}
use Rattle.receivers.specs.Rows.{first_row}
use Rattle.spread.proofs.Reached.{ranges}
use Rattle.rows.specs.Spliced.{spliced}
use Rattle.rows.specs.Parts.{part_rows, Fitting}
use Rattle.rows.specs.Filled.{Ready, filled, places_to}
use Rattle.rows.proofs.Marks.{mark_low}
use Rattle.rows.proofs.Stretches.{filled_length, filled_more}
use Rattle.rows.proofs.Traced.{all_led, part_is}

-- places from p on and before e, of m: those of the traces from a on and before n that are wanted from f on
module _ (f a n m p e : ℕ) (ep : p ≡ min (a - f) m) (ee : e ≡ min (n - f) m) where
  no_place : a ≤ n → e ≤ p → p ≡ e
  no_place h l = omega arith

  begun_there : p < e → a ≤ f + p
  begun_there l = omega arith

  pub ended_there : p < e → f + e ≤ n
  ended_there l = omega arith

  within : e ≤ m
  within = omega arith

on_to_lem : (p e : ℕ) → p < e → p + (e - p) ≡ e
on_to_lem p e l = omega arith

part_end : (f p e n : ℕ) → p < e → f + e ≤ n → f + p + (e - p) ≤ n
part_end f p e n l h = omega arith

room_to : (a n e : ℕ) → min a (n / 16) ≡ e → 16 * e ≤ n
room_to a n e z = omega arith

room_of : (e m n : ℕ) → e ≤ m → m ≡ n / 16 → 16 * e ≤ n
room_of e m n l z = omega arith

-- their channels
channels : (from upto f a n p e c d : ℕ) → a ≤ f + p → f + e ≤ n → p < e → n ≡ a + (upto + 1 - from) → c ≡ from + (f + p - a)
    → c ≤ d → d < c + (e - p) → (from ≤ d) × (d < upto + 1)
channels from upto f a n p e c d g h l z y i j = (omega arith, omega arith)

module _ (x : Sheet) (k : ℕ) (h : k < x.count) (t : Bool) (q : t ≡ takes_at Records x k) where
  is_data_lem : is_data x k ≡ t
  is_data_lem = sym (q ∙ takes_record x k h)

  pub is_relation : t ≡ true → RelationLine x k
  is_relation y = (h, is_data_lem ∙ y)

  pub next_same : t ≡ false → traces_above x (suc k) ≡ traces_above x k
  unfolding pick
  next_same n =
      let d : is_data x k ≡ false = is_data_lem ∙ n in
      let e : traces_above x (suc k) ≡ traces_above x k + 0 = above_suc x k ∙ (rw d) in
      omega arith

pub next_is : (x : Sheet) (k : ℕ) → RelationLine x k → traces_above x (suc k) ≡ traces_above x k + traces (reach_at x k)
unfolding pick
next_is x k h = let d : is_data x k ≡ true = h.1 in above_suc x k ∙ (rw d)

module _ (r x : Sheet) (f : ℕ) (k : ℕ) (d p : List ℕ) (e : p ≡ filled r x f (places_to x f k d) d) where
  same_places : length p ≡ length d
  same_places = ap length e ∙ filled_length r x f (places_to x f k d) d (omega arith)

  pub stays : traces_above x (suc k) ≡ traces_above x k → p ≡ filled r x f (places_to x f (suc k) d) d
  stays z = e ∙ ap (λ (n : ℕ). filled r x f (min (n - f) (length d / 16)) d) (sym z)

  module _ (above next m place end : ℕ) (ea : above ≡ traces_above x k) (en : next ≡ traces_above x (suc k)) (em : m ≡ length p / 16)
      (ep : place ≡ min (above - f) m) (ee : end ≡ min (next - f) m) where
    at_place : places_to x f k d ≡ place
    at_place = let l = same_places in omega arith

    at_end : places_to x f (suc k) d ≡ end
    at_end = let l = same_places in omega arith

    pub none_fits : above ≤ next → end ≤ place → p ≡ filled r x f (places_to x f (suc k) d) d
    none_fits a b =
        e ∙ ap (λ (n : ℕ). filled r x f n d) (at_place ∙ no_place f above next m place end ep ee a b ∙ sym at_end)

    then_filled : place < end → (p' : List ℕ) → p' ≡ spliced (16 * place) (rows_from r x (f + place) (end - place)) p
        → p' ≡ filled r x f (places_to x f (suc k) d) d
    then_filled l p' z =
        let y : p ≡ filled r x f place d = e ∙ ap (λ (n : ℕ). filled r x f n d) at_place in
        let n = on_to_lem place end l in
        let g = subst (λ (j : ℕ). 16 * j ≤ length d) (sym n) (room_to (traces_above x (suc k) - f) (length d) end at_end) in
        z ∙ ap (spliced (16 * place) (rows_from r x (f + place) (end - place))) y ∙ filled_more r x f place (end - place) d g
        ∙ ap (λ (n : ℕ). filled r x f n d) (n ∙ sym at_end)

module _ (r : Sheet) (o t : List ℕ) (x : Sheet) (w : Ready r o t x) (k : ℕ) (h : RelationLine x k)
    (q : ReachValues) (e : q ≡ coded_reach (reach_at x k)) (row : ℕ) (er : row ≡ first_row r o x k)
    (f above next m place end channel : ℕ) (ea : above ≡ traces_above x k) (en : next ≡ traces_above x (suc k))
    (ep : place ≡ min (above - f) m) (ee : end ≡ min (next - f) m) (l : place < end) (ec : channel ≡ q.from + (f + place - above)) where
  -- the channels of the part are the line's
  inside : (c : ℕ) → channel ≤ c → c < channel + (end - place) → (q.from ≤ c) × (c < q.upto + 1)
  unfolding traces
  inside c a b =
      let z : next ≡ above + (q.upto + 1 - q.from) = en ∙ next_is x k h ∙ (rw (ea, e)) in
      channels q.from q.upto f above next place end channel c
      (begun_there f above next m place end ep ee l) (ended_there f above next m place end ep ee l) l z ec a b

  pub fitting : (n line : ℕ) → m ≡ n / 16 → Fitting q o t row (record { line = line; channel = channel; place = place; end = end }) n
  fitting n line z =
      record {
        some = le_of_lt l;
        room = let y = within f above next m place end ep ee in room_of end m n y z;
        few = (ranges r x w.set k h q e).few;
        marks = w.room;
        mark = λ j g. rw (w.marked j g) (mark_low (killed_row r o j));
        led = λ c a b. let y = inside c a b in all_led r o t x w k h q e row er c y.0 y.1;
      }

  pub some_fit : (d p p' : List ℕ) → m ≡ length p / 16 → p ≡ filled r x f (places_to x f k d) d
      → p' ≡ spliced (16 * place) (part_rows (k + 1) o t row (reach_at x k) channel (end - place)) p
      → p' ≡ filled r x f (places_to x f (suc k) d) d
  some_fit d p p' em g z =
      let y = ap (λ (q : ReachValues). q.from) e in
      let a = begun_there f above next m place end ep ee l in
      let b = ended_there f above next m place end ep ee l in
      let s =
      part_is r o t x w k h q e row er (f + place) channel (subst (λ (n : ℕ). n ≤ f + place) ea a)
      (ec ∙ (rw (y, ea))) (end - place) (subst (λ (n : ℕ). f + place + (end - place) ≤ n) en (part_end f place end next l b)) in
      then_filled r x f k d p g above next m place end ea en em ep ee l p' (z ∙ ap (λ (bs : List ℕ). spliced (16 * place) bs p) s)
