-- The code's answer to a question as the paper's: its number and values for each case.
--   paper a          = the answer to a lookup
--   paper_channel a  = the answer to the way back
--   paper_spread a   = the answer of the spread table
--   leading l m d    = the lookup's answer that a channel leads to line l and component m, of a killed receiver or not
--   denied n f l c   = a refusal with that number, file, line and column
use Rattle.std.specs.Prelude.{ℕ, Bool, Result, Ok, Err, Option, Some, None}
use Rattle.rules.specs.Check.{Answer as PaperAnswer, refusal, trace, channel, highest, no_trace}
use Rattle.lines.specs.declared.Refusal.{Refusal}
use Rattle.lines.specs.Paper.{told}
use Rattle.traces.specs.declared.Reached.{Reached}

abbrev pub Answer : Type 0
Answer = Result (Option Reached) Refusal

abbrev pub ChannelAnswer : Type 0
ChannelAnswer = Result (Option ℕ) Refusal

abbrev pub Spread : Type 0
Spread = Result ℕ Refusal

abbrev pub paper : Answer → PaperAnswer
paper (Ok (Some t)) = trace t.line t.component t.killed
paper (Ok None) = no_trace
paper (Err e) = refusal (told e)

abbrev pub paper_channel : ChannelAnswer → PaperAnswer
paper_channel (Ok (Some c)) = channel c
paper_channel (Ok None) = no_trace
paper_channel (Err e) = refusal (told e)

abbrev pub paper_spread : Spread → PaperAnswer
paper_spread (Ok h) = highest h
paper_spread (Err e) = refusal (told e)

abbrev pub leading : ℕ → ℕ → Bool → Answer
leading l m d = Ok (Some (record { line = l; component = m; killed = d }))

abbrev pub denied : ℕ → ℕ → ℕ → ℕ → Refusal
denied n f l c = record { number = n; file = f; line = l; column = c }
