-- One relation line of an accepted set: the rows that the code makes of it are those of its traces.
--   all_few       = lines have few traces
--   all_led       = its channels lead to rows
--   part_is       = the rows of a part of it
use Prim.Native.Nat.{ℕ, zero, suc, ◌+◌, ◌-◌, ◌*◌, ◌/◌, ◌%◌, ◌≤◌, ◌<◌}
use native.Mathlib.Nat.{le_refl}
use native.Mathlib.Omega.{arith}
use mathlib.Core.Path.{◌≡◌, refl, sym, ap, ap₂, subst, ◌∙◌}
use mathlib.Core.Bool.{Bool, true, false}
use mathlib.Core.List.{List, [], ◌∷◌, ◌++◌}
use lib.ListN.{length}
use Rattle.rules.specs.Places.{pick, sum}
use Rattle.rules.specs.Sheet.{Sheet, most_lines}
use Rattle.rules.specs.Lines.{is_data}
use Rattle.rules.specs.Points.{point_at, is_killed}
use Rattle.rules.specs.Relations.{Reach, reach_at}
use Rattle.rules.specs.Cover.{traces, receiver_on, leads, component}
use Rattle.rules.specs.Order.{receiver_line}
use Rattle.rules.specs.Check.{leads_to_killed}
use Rattle.rules.specs.Hosts.{low_bytes}
use Rattle.rules.specs.TraceRows.{traces_at, traces_above, channel_of_trace, trace_row, row_bytes, rows_from}
use Rattle.rules.proofs.TraceRows.{above_suc, InLine, row_at, channel_at, carried_at}
use Rattle.form.specs.Known.{Known}
use Rattle.form.proofs.Known.{upto_small}
use Rattle.keys.specs.Held.{RelationLine}
use Rattle.order.specs.Sorted.{nth}
use Rattle.records.specs.Coded.{coded_reach}
use Rattle.records.specs.declared.relation.Reach.{Reach as ReachValues}
use Rattle.receivers.specs.Rows.{first_row}
use Rattle.spread.specs.RowLine.{row_to, row_line, Led}
use Rattle.spread.proofs.Reached.{walk, row_is, component_small}
use Rattle.rows.specs.Parts.{row_by, part_rows}
use Rattle.rows.specs.Filled.{Ready}
use Rattle.rows.proofs.Marks.{mark_low}

-- the last number of a row: component, mark and two bytes 0
last_bytes : (m n : ℕ) → m ≤ 9 → n ≤ 1 → low_bytes 4 (m + 256 * n) ≡ m ∷ n ∷ 0 ∷ 0 ∷ []
unfolding low_bytes
last_bytes m n a b =
    let c : (m + 256 * n) % 256 ≡ m = omega arith in
    let d : (m + 256 * n) / 256 ≡ n = omega arith in
    let e : n % 256 ≡ n = omega arith in
    let f : n / 256 ≡ 0 = omega arith in
    rw (c, d, e, f)

-- two reaches that the code holds alike lead to the same row
rows_alike : (e : ℕ) (p v : Reach) (c : ℕ) → coded_reach p ≡ coded_reach v → row_to e p c ≡ row_to e v c
unfolding leads receiver_on
rows_alike e p v c z =
    let a : p.from ≡ v.from = ap (λ (q : ReachValues). q.from) z in
    let b : p.step ≡ v.step = ap (λ (q : ReachValues). q.step) z in
    let f : p.from_receiver ≡ v.from_receiver = ap (λ (q : ReachValues). q.from_receiver) z in
    let t : p.to_receiver ≡ v.to_receiver = ap (λ (q : ReachValues). q.to_receiver) z in
    rw (a, b, f, t)

-- few traces
few_picked : (t : Bool) (n : ℕ) → n ≤ 100000000 → pick t n 0 ≤ 100000000
unfolding pick
few_picked true n h = h
few_picked false n h = omega arith

traces_few : (x : Sheet) → Known 3 x → (k : ℕ) → k < x.count → traces_at x k ≤ 100000000
unfolding traces
traces_few x w k h = few_picked (is_data x k) (traces (reach_at x k)) (let u = upto_small 3 x w k h in omega arith)

above_few : (x : Sheet) → Known 3 x → (k : ℕ) → k ≤ x.count → traces_above x k ≤ 100000000 * k
unfolding traces_above sum
above_few x w zero h = omega arith
above_few x w (suc k) h =
    let i = above_few x w k (omega arith) in
    let t = traces_few x w k h in
    let e = above_suc x k in
    omega arith

pub all_few : (x : Sheet) → Known 3 x → (k : ℕ) → k ≤ x.count → traces_above x k < 1000000000000
unfolding most_lines
all_few x w k h = let a = above_few x w k h in let f = w.few in omega arith

module _ (r : Sheet) (o t : List ℕ) (x : Sheet) (w : Ready r o t x) (k : ℕ) (h : RelationLine x k)
    (q : ReachValues) (e : q ≡ coded_reach (reach_at x k)) (row : ℕ) (er : row ≡ first_row r o x k) where
  abbrev p : Reach
  p = reach_at x k

  pub all_led : (c : ℕ) → q.from ≤ c → c < q.upto + 1 → Led q o row c
  all_led c a b = (walk r x w.set k h q e o w.rows row er p.upto p.upto (le_refl p.upto) (le_refl p.upto)).led c a b

  -- the row of a channel
  module _ (c : ℕ) (a : q.from ≤ c) (b : c < q.upto + 1) where
    line_is : row_line o row p c ≡ receiver_line r p (leads p c) + 1
    line_is = row_is r x w.set k h q e c a b o w.rows row er

    mark_is : nth t (row_to row p c) ≡ pick (leads_to_killed r p c) 1 0
    unfolding leads_to_killed
    mark_is =
        let z : nth o (row_to row p c) ≡ receiver_line r p (leads p c) = let y = line_is in omega arith in
        let v = all_led c a b in
        let i = subst (λ (j : ℕ). j < length o) (rows_alike row v.reach p c (sym v.coded ∙ e)) v.inside in
        w.marked (row_to row p c) i ∙ ap (λ (j : ℕ). pick (is_killed (point_at r j)) 1 0) z

    row_by_lem : row_by (k + 1) o t row p c
        ≡ low_bytes 4 (k + 1) ++ (low_bytes 4 c
        ++ (low_bytes 4 (receiver_line r p (leads p c) + 1) ++ (component p c ∷ pick (leads_to_killed r p c) 1 0 ∷ 0 ∷ 0 ∷ [])))
    row_by_lem =
        let s = component_small r x w.set k h q e c a b in
        rw (line_is, mark_is, last_bytes (component p c) (pick (leads_to_killed r p c) 1 0) s (mark_low _))

  line_row : (i : ℕ) → traces_above x k ≤ i → i < traces_above x (suc k)
      → row_by (k + 1) o t row p (p.from + (i - traces_above x k)) ≡ row_bytes (trace_row r x i)
  unfolding trace_row row_bytes
  line_row i a b =
      let v : InLine x k i = (h.0, (a, b)) in
      let at = row_at x k i v in
      let c = channel_at x k i v in
      let y = (carried_at x k i v).1 in
      let f = ap (λ (q : ReachValues). q.from) e in
      let u = ap (λ (q : ReachValues). q.upto) e in
      let lo = y.0 in
      let hi = y.1 in
      rw (← c) (row_by_lem (channel_of_trace x i) (omega arith) (omega arith) ∙ (rw at))

  pub part_is : (i c : ℕ) → traces_above x k ≤ i → c ≡ p.from + (i - traces_above x k) → (n : ℕ) → i + n ≤ traces_above x (suc k)
      → part_rows (k + 1) o t row p c n ≡ rows_from r x i n
  unfolding part_rows rows_from
  part_is i c a z zero g = refl
  part_is i c a z (suc n) g =
      let y : c + n ≡ p.from + (i + n - traces_above x k) = omega arith in
      ap₂ ◌++◌ (part_is i c a z n (omega arith)) (ap (row_by (k + 1) o t row p) y ∙ line_row (i + n) (omega arith) (omega arith))
