-- What a host gets as one number.
--   number_of says r = what is said of an answer, or its refusal as one number
--   or_zero o        = a number, 0 where there is none
--   trace_number o   = a trace: its R line and component with the receiver's mark, 0 where there is none
--   ReadBy d r       = r is how the files of the chosen medium are read; 20 where none is chosen
use Rattle.std.specs.Prelude.{ℕ, ◌+◌, ◌*◌, ◌^◌, ◌≡◌, Option, None, Some, Result, Ok, Err, MatchResult}
use Rattle.rules.specs.Places.{pick}
use Rattle.rules.specs.Plan.{№}
use Rattle.rules.specs.Calls.{Choice, on, none}
use Rattle.rules.specs.Hosts.{packed}
use Rattle.lines.specs.Paper.{told}
use Rattle.lines.specs.Reading.{medium_of}
use Rattle.lines.specs.declared.Reading.{Reading}
use Rattle.lines.specs.declared.Refusal.{Refusal}
use Rattle.traces.specs.declared.Reached.{Reached}

abbrev pub number_of : {A : Type 0} → (A → ℕ) → Result A Refusal → ℕ
number_of says (Ok v) = says v
number_of says (Err e) = packed (told e)

abbrev pub or_zero : Option ℕ → ℕ
or_zero (Some n) = n
or_zero None = 0

abbrev pub trace_number : Option Reached → ℕ
trace_number (Some t) = t.line * 16 + t.component + pick t.killed (2 ^ 32) 0
trace_number None = 0

abbrev pub ReadBy : Choice → Result Reading Refusal → Type 0
ReadBy d r = MatchResult r (λ how. d ≡ on (medium_of how)) (λ e. (d ≡ none) × (told e ≡ № 20 0 0 0))
