-- The rows of all traces in a slice.
--   rows_refused, rows_fine = what the slice holds where the set is refused, and where it is not
--   rowed                   = what an answer says of it
use Prim.Native.Nat.{ℕ, zero, suc, ◌+◌, ◌-◌, ◌*◌, ◌/◌, ◌≤◌, ◌<◌, min}
use native.Mathlib.Nat.{not-suc-le-zero}
use native.Mathlib.Omega.{arith}
use mathlib.Core.Path.{◌≡◌, refl, sym, ap, ◌∙◌}
use mathlib.Core.List.{List, ◌++◌, append_assoc}
use lib.ListN.{length, take, drop}
use lib.Seq.{take_at, drop_at, drop-drop}
use Rattle.rules.specs.Plan.{Refusal, fine, refused}
use Rattle.rules.specs.Sheet.{Sheet}
use Rattle.rules.specs.Check.{verdict, cross}
use Rattle.rules.specs.Spread.{unless_refused}
use Rattle.rules.specs.TraceRows.{trace_row, row_bytes, rows_from, rows_over, traces_in}
use Rattle.rules.specs.Meets.{Meets}
use Rattle.rules.proofs.Tests.{more}
use Rattle.rules.proofs.Demand3.{Askable}
use Rattle.rules.proofs.TraceRows.{rows_told}
use Rattle.std.specs.Prelude.{Ok, Err}
use Rattle.lines.specs.declared.Refusal.{Refusal as LineRefusal}
use Rattle.lines.specs.Paper.{told}
use Rattle.sets.specs.declared.Counts.{Counts}
use Rattle.sets.specs.Paper.{Answer as SetAnswer, paper as set_paper}
use Rattle.sets.proofs.Verdicts.{last_two, accepted_fine, refused_by}
use Rattle.rows.specs.Filled.{filled}
use Rattle.rows.proofs.Stretches.{row_length, rows_length, filled_length}
use Rattle.traces.specs.Said.{TracesTold}

module _ (r s x : Sheet) (i : ℕ) (o : List ℕ) where
  pub rows_refused : (w : Refusal) → verdict r s x ≡ refused w → traces_in r s x i o ≡ o
  unfolding traces_in unless_refused
  rows_refused w e = rw e

  pub rows_fine : verdict r s x ≡ fine → traces_in r s x i o ≡ rows_over r x i o
  unfolding traces_in unless_refused
  rows_fine e = rw e

-- row j of rows that follow each other
row_in : (r x : Sheet) (i n j : ℕ) → j < n → (l : List ℕ) → take 16 (drop (16 * j) (rows_from r x i n ++ l)) ≡ row_bytes (trace_row r x (i + j))
unfolding rows_from
row_in r x i zero j h l = absurd (not-suc-le-zero h)
row_in r x i (suc n) j h l =
    let p = rows_from r x i n in
    let w = row_bytes (trace_row r x (i + n)) in
    more h (λ q. rw (append_assoc p w l) (row_in r x i n j q (w ++ l)))
    (λ e. rw (e, append_assoc p w l, drop_at p (w ++ l) (16 * n) (rows_length r x i n), take_at w l 16 (row_length _)))

-- bytes behind the rows
rows_after : (r x : Sheet) (i n j : ℕ) (o : List ℕ) → n ≤ j → drop (16 * j) (filled r x i n o) ≡ drop (16 * j) o
rows_after r x i n j o h =
    let p = rows_from r x i n in
    let l = drop (16 * n) o in
    let e : 16 * (j - n) + 16 * n ≡ 16 * j = omega arith in
    let f : 16 * n + 16 * (j - n) ≡ 16 * j = omega arith in
    rw (← f, ← drop-drop (16 * (j - n)) (16 * n) (p ++ l), drop_at p l (16 * n) (rows_length r x i n), drop-drop)

module _ (r s x : Sheet) (asks : Meets r s x → Askable x) (i : ℕ) (v : SetAnswer) (p : set_paper v ≡ cross r s x) (o e : List ℕ)
    (w : e ≡ traces_in r s x i o) where
  -- so many rows stand in the slice of an accepted set
  abbrev places : ℕ → ℕ
  places t = min (t - i) (length o / 16)

  filled_by : (c : Counts) → v ≡ Ok c → e ≡ filled r x i (places c.traces) o
  unfolding rows_over
  filled_by c y =
      let q = sym p ∙ ap set_paper y in
      let n = (last_two r s x c.receivers c.shots c.relations c.traces c.dead_traces q).0 in
      w ∙ rows_fine r s x i o (accepted_fine r s x c.receivers c.shots c.relations c.traces c.dead_traces (sym q))
      ∙ ap (λ (t : ℕ). filled r x i (places t) o) (sym n)

  kept_by : (d : LineRefusal) → v ≡ Err d → e ≡ o
  kept_by d y = w ∙ rows_refused r s x i o (told d) (refused_by r s x (told d) (sym (ap set_paper y) ∙ p))

  same_size : length e ≡ length o
  same_size = go v refl
    where
      go : (u : SetAnswer) → v ≡ u → length e ≡ length o
      go (Ok c) y = rw (filled_by c y, filled_length r x i (places c.traces) o (omega arith))
      go (Err d) y = rw (kept_by d y)

  pub rowed : TracesTold r s x i v o e
  rowed =
      record {
        size = same_size;
        rows = λ ok. rows_told r s x ok (asks ok);
        written = λ c y j h l. rw (filled_by c y) (row_in r x i (places c.traces) j (omega arith) _);
        others = λ c y j h.
            let n : j < places c.traces → ⊥ = λ q. let z = h (omega arith) in omega arith in
            rw (filled_by c y) (rows_after r x i (places c.traces) j o (omega arith));
        unwritten = λ n f l c. kept_by (record { number = n; file = f; line = l; column = c });
      }
