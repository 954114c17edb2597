-- The rows of all traces: where a row stands, and that it is what the lookup answers.
--   above_is       = the traces above the last line and with it are all
--   row_at         = which line a row is of, from the sums of the lines above
--   rows_told      = what the rows of an accepted set say
use Prim.Native.Nat.{ℕ, zero, suc, ◌+◌, ◌-◌, ◌≤◌, ◌<◌}
use native.Mathlib.Nat.{not-suc-le-zero, lt-suc_self}
use native.Mathlib.Omega.{arith}
use mathlib.Core.Path.{◌≡◌, refl, sym, ap, subst, ◌∙◌}
use mathlib.Core.Bool.{Bool, true, false}
use mathlib.Core.List.{List}
use lib.Dec.{ltb}
use borrow.Author.Tests.{ltb-true, lt-ltb}
use Rattle.rules.specs.Places.{pick, sum}
use Rattle.rules.specs.Sheet.{Sheet}
use Rattle.rules.specs.Lines.{is_data}
use Rattle.rules.specs.Relations.{reach_at}
use Rattle.rules.specs.Cover.{traces, leads, component}
use Rattle.rules.specs.Order.{receiver_line}
use Rattle.rules.specs.Check.{trace, all_traces, leads_to_killed}
use Rattle.rules.specs.Lookup.{lookup}
use Rattle.rules.specs.TraceRows.{traces_at, traces_above, line_of_trace, channel_of_trace, trace_row}
use Rattle.rules.specs.MeetsForm.{Data}
use Rattle.rules.specs.MeetsCover.{Carries}
use Rattle.rules.specs.Meets.{Meets}
use Rattle.rules.specs.MeetsQuestions.{Of}
use Rattle.rules.specs.MeetsTraces.{InRow, RowTold, RowsTold}
use Rattle.rules.proofs.Tests.{clash, yes_no}
use Rattle.rules.proofs.Least.{least_first}
use Rattle.rules.proofs.Form.{data_is}
use Rattle.rules.proofs.Accepted.{one_channel, receiver_line_lem}
use Rattle.rules.proofs.Demand3.{Askable, lookup_leads, there_and_back}

-- sums
sum_rise : (g : ℕ → ℕ) (j k : ℕ) → j ≤ k → sum j g ≤ sum k g
unfolding sum
sum_rise g j zero h = let e : j ≡ 0 = omega arith in rw e (omega arith)
sum_rise g j (suc k) h =
    yes_no (ltb j (suc k)) (λ t. let l = ltb-true j (suc k) t in let i = sum_rise g j k (omega arith) in omega arith)
    (λ t. let n : j < suc k → ⊥ = λ l. t (lt-ltb j (suc k) l) in let e : j ≡ suc k = omega arith in rw e (omega arith))

-- a number below a sum stands in one of its parts
sum_part : (g : ℕ → ℕ) (n i : ℕ) → i < sum n g → (k : ℕ) × (k < n) × (sum k g ≤ i) × (i < sum (suc k) g)
unfolding sum
sum_part g zero i h = absurd (not-suc-le-zero h)
sum_part g (suc n) i h =
    yes_no (ltb i (sum n g)) (λ t. let w = sum_part g n i (ltb-true _ _ t) in let l = w.1 in (w.0, omega arith, w.2, w.3))
    (λ t. let l : i < sum n g → ⊥ = λ l. t (lt-ltb _ _ l) in (n, lt-suc_self n, omega arith, h))

pub above_is : (x : Sheet) → traces_above x x.count ≡ all_traces x
unfolding traces_above all_traces
above_is x = refl

pub above_suc : (x : Sheet) (k : ℕ) → traces_above x (suc k) ≡ traces_above x k + traces_at x k
unfolding traces_above sum
above_suc x k = refl

pub above_rise : (x : Sheet) (j k : ℕ) → j ≤ k → traces_above x j ≤ traces_above x k
unfolding traces_above
above_rise x j k h = sum_rise (λ j. traces_at x j) j k h

-- line k holds the traces from the sum of the lines above it on
abbrev pub InLine : Sheet → ℕ → ℕ → Type 0
InLine x k i = (k < x.count) × ((traces_above x k ≤ i) × (i < traces_above x (suc k)))

pub row_at : (x : Sheet) (k i : ℕ) → InLine x k i → line_of_trace x i ≡ k
unfolding line_of_trace
row_at x k i w =
    least_first _ k _ (
      w.0,
      lt-ltb _ _ w.1.1,
      λ j l u.
          let a = ltb-true i (traces_above x (suc j)) u in
          let b = above_rise x (suc j) k l in
          let c = w.1.0 in
          omega arith,
    )

in_line : (x : Sheet) (i : ℕ) → i < all_traces x → (k : ℕ) × InLine x k i
unfolding traces_above all_traces
in_line x i h = let w = sum_part (λ j. traces_at x j) x.count i h in (w.0, (w.1, (w.2, w.3)))

-- a line that holds a trace is a relation line, which carries the trace's channel
some_traces : (t : Bool) (a d : ℕ) → d < pick t a 0 → (t ≡ true) × (d < a)
unfolding pick
some_traces true a d h = (refl, h)
some_traces false a d h = absurd (not-suc-le-zero h)

all_traces_lem : (t : Bool) (a : ℕ) → t ≡ true → pick t a 0 ≡ a
unfolding pick
all_traces_lem true a e = refl
all_traces_lem false a e = clash e

module _ (x : Sheet) (k i : ℕ) (w : InLine x k i) where
  part : (is_data x k ≡ true) × (i - traces_above x k < traces (reach_at x k))
  part =
      let a = w.1.0 in
      let b = w.1.1 in
      let e = above_suc x k in
      some_traces (is_data x k) (traces (reach_at x k)) (i - traces_above x k) (omega arith)

  pub channel_at : channel_of_trace x i ≡ (reach_at x k).from + (i - traces_above x k)
  unfolding channel_of_trace
  channel_at = rw (row_at x k i w)

  pub carried_at : Data x k × Carries (reach_at x k) (channel_of_trace x i)
  unfolding traces
  carried_at =
      let p = part in
      let l = p.1 in
      let e = channel_at in
      ((data_is x k).0 p.0, (omega arith, omega arith))

  -- the number comes back from the line and the channel
  number_at : traces_above x k + (channel_of_trace x i - (reach_at x k).from) ≡ i
  number_at = let e = channel_at in let a = w.1.0 in omega arith

-- the row of a channel that a line carries
line_holds : (x : Sheet) (k c : ℕ) → k < x.count → Data x k → Carries (reach_at x k) c → InLine x k (traces_above x k + (c - (reach_at x k).from))
unfolding traces
line_holds x k c h z f =
    let e = above_suc x k in
    let t = all_traces_lem (is_data x k) (traces (reach_at x k)) ((data_is x k).1 z) in
    let a = f.0 in
    let b = f.1 in
    (h, (omega arith, omega arith))

module _ (r s x : Sheet) (ok : Meets r s x) (asks : Askable x) where
  pub row_told : (i : ℕ) → i < all_traces x → RowTold r s x i
  unfolding trace_row leads_to_killed
  row_told i h =
      let w = in_line x i h in
      let k = w.0 in
      let q = reach_at x k in
      let c = channel_of_trace x i in
      let y = carried_at x k i w.1 in
      let v = lookup_leads r s x ok asks k c w.1.0 y.0 y.1 in
      let line = receiver_line_lem r ok.rule10 q (leads q c) v.0 v.1 v.2 in
      let at = row_at x k i w.1 in
      let e : lookup r s x q.tape q.number c ≡ trace (receiver_line r q (leads q c) + 1) (component q c) (leads_to_killed r q c) =
      rw line v.4 in
      record {
        line = k;
        counted = rw at;
        there = w.1.0;
        relates = y.0;
        carried = y.1;
        looked_up = rw at e;
        back = rw at ((there_and_back r s x q.tape q.number c _ _).0 (_, e));
      }

  -- the line of a row
  module _ (t : List ℕ) (n c k i : ℕ) (w : InLine x k i) where
    row_line_lem : (trace_row r x i).x_line - 1 ≡ k
    unfolding trace_row
    row_line_lem = let e = row_at x k i w in omega arith

    in_row : Of x t n k → channel_of_trace x i ≡ c → InRow r x t n c i
    unfolding trace_row
    in_row o e =
        let a = above_rise x (suc k) x.count w.0 in
        let b = above_is x in
        let l = w.1.1 in
        (omega arith, (subst (λ (j : ℕ). Of x t n j) (sym row_line_lem) o, e))

    of_row : InRow r x t n c i → Of x t n k × (Carries (reach_at x k) c × (traces_above x k + (c - (reach_at x k).from) ≡ i))
    unfolding trace_row
    of_row v =
        let e = v.1.1 in (
          subst (λ (j : ℕ). Of x t n j) row_line_lem v.1.0,
          (subst (Carries (reach_at x k)) e (carried_at x k i w).1, ap (λ (d : ℕ). traces_above x k + (d - (reach_at x k).from)) (sym e) ∙ number_at x k i w),
        )

  row_once : (t : List ℕ) (n c k : ℕ) → k < x.count → Of x t n k → Carries (reach_at x k) c
      → (i : ℕ) × InRow r x t n c i × ((j : ℕ) → InRow r x t n c j → j ≡ i)
  row_once t n c k h o f =
      let i = traces_above x k + (c - (reach_at x k).from) in
      let w = line_holds x k c h o.0 f in
      let e = channel_at x k i w in
      let a = f.0 in (
        i,
        in_row t n c k i w o (omega arith),
        λ j v.
            let u = in_line x j v.0 in
            let y = of_row t n c u.0 j u.1 v in
            let before : u.0 < k → ⊥ = λ l. one_channel r s x ok t n c k u.0 h o f l y.0 y.1.0 in
            let after : k < u.0 → ⊥ = λ l. one_channel r s x ok t n c u.0 k u.1.0 y.0 y.1.0 l o f in
            let same : u.0 ≡ k = omega arith in
            sym y.1.1 ∙ ap (λ (d : ℕ). traces_above x d + (c - (reach_at x d).from)) same,
      )

  row_rises : (i j : ℕ) → i < j → j < all_traces x
      → ((trace_row r x i).x_line ≤ (trace_row r x j).x_line)
      × ((trace_row r x i).x_line ≡ (trace_row r x j).x_line → (trace_row r x i).channel < (trace_row r x j).channel)
  unfolding trace_row
  row_rises i j l h =
      let u = in_line x i (omega arith) in
      let v = in_line x j h in
      let a = row_at x u.0 i u.1 in
      let b = row_at x v.0 j v.1 in
      let low = u.1.1.0 in
      let high = v.1.1.1 in
      let ci = channel_at x u.0 i u.1 in
      let cj = channel_at x v.0 j v.1 in
      let order : v.0 < u.0 → ⊥ = λ z. let y = above_rise x (suc v.0) u.0 z in omega arith in (
        omega arith,
        λ e.
            let same : v.0 ≡ u.0 = omega arith in
            let cj : channel_of_trace x j ≡ (reach_at x u.0).from + (j - traces_above x u.0) =
            cj ∙ ap (λ (k : ℕ). (reach_at x k).from + (j - traces_above x k)) same in
            omega arith,
      )

  pub rows_told : RowsTold r s x
  rows_told = record { told = row_told; once = row_once; rising = row_rises }
