-- All traces of a set, "in the order of X, line by line and channel by channel, counted from 0", as rows of sixteen bytes.
--   traces_at x k       = the traces of line k: T - F + 1 of a relation line
--   traces_above x k    = the sum of those of the lines above line k
--   line_of_trace x i    = the line of X in which trace i stands
--   channel_of_trace x i = its channel
--   TraceRow           = what a row says
--   trace_row r x i     = the row of trace i: those of its line's arithmetic
--   row_bytes w         = "the X line, the channel, the R line, each 32 bits; the component, 8 bits; killed or not, 8 bits; two bytes 0"
--   rows_from r x i n   = the rows of n traces from trace i on, one after the other
--   rows_over r x i o   = o with the rows from trace i on in its places, as far as there are traces and whole places
--   traces_in           = what a slice holds afterwards: "a refusal writes nothing"
use Rattle.std.specs.Prelude.{ℕ, zero, suc, ◌+◌, ◌-◌, ◌*◌, ◌/◌, min, Bool, List, [], ◌∷◌, ◌++◌, ltb, length, drop}
use Rattle.rules.specs.Places.{pick, least, sum}
use Rattle.rules.specs.Sheet.{Sheet}
use Rattle.rules.specs.Lines.{is_data}
use Rattle.rules.specs.Relations.{reach_at}
use Rattle.rules.specs.Cover.{traces, leads, component}
use Rattle.rules.specs.Order.{receiver_line}
use Rattle.rules.specs.Check.{verdict, all_traces, leads_to_killed}
use Rattle.rules.specs.Spread.{unless_refused}
use Rattle.rules.specs.Hosts.{low_bytes}

abbrev pub traces_at : Sheet → ℕ → ℕ
traces_at x k = pick (is_data x k) (traces (reach_at x k)) 0

unfoldable pub traces_above : Sheet → ℕ → ℕ
traces_above x k = sum k (λ j. traces_at x j)

unfoldable pub line_of_trace : Sheet → ℕ → ℕ
line_of_trace x i = least x.count (λ k. ltb i (traces_above x (suc k)))

unfoldable pub channel_of_trace : Sheet → ℕ → ℕ
channel_of_trace x i = let k = line_of_trace x i in (reach_at x k).from + (i - traces_above x k)

pub record TraceRow : Type 0 where
  pub x_line : ℕ
  pub channel : ℕ
  pub r_line : ℕ
  pub component : ℕ
  pub killed : Bool

unfoldable pub trace_row : Sheet → Sheet → ℕ → TraceRow
trace_row r x i =
    let k = line_of_trace x i in
    let c = channel_of_trace x i in
    let q = reach_at x k in
    record {
      x_line = k + 1;
      channel = c;
      r_line = receiver_line r q (leads q c) + 1;
      component = component q c;
      killed = leads_to_killed r q c;
    }

unfoldable pub row_bytes : TraceRow → List ℕ
row_bytes w =
    low_bytes 4 w.x_line ++ (low_bytes 4 w.channel ++ (low_bytes 4 w.r_line ++ (w.component ∷ pick w.killed 1 0 ∷ 0 ∷ 0 ∷ [])))

unfoldable pub rows_from : Sheet → Sheet → ℕ → ℕ → List ℕ
rows_from r x i zero = []
rows_from r x i (suc n) = rows_from r x i n ++ row_bytes (trace_row r x (i + n))

unfoldable pub rows_over : Sheet → Sheet → ℕ → List ℕ → List ℕ
rows_over r x i o = let n = min (all_traces x - i) (length o / 16) in rows_from r x i n ++ drop (16 * n) o

unfoldable pub traces_in : Sheet → Sheet → Sheet → ℕ → List ℕ → List ℕ
traces_in r s x i o = unless_refused (verdict r s x) (rows_over r x i o) o
