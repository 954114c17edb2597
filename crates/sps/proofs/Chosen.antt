-- What a call answers by the medium that the code has chosen, and the number of an answer.
--   by_reading                  = the answer of the definitions, where each medium's is
--   when_on, when_none          = what holds of the chosen medium, or of none
--   form_number .. line_number  = the number of an answer is that of the definitions' answer
use Rattle.std.proofs.Common.{◌≡◌, ℕ, Option, None, Some, Result, Ok, Err, MatchResult, refl, sym, ap, ◌∙◌}
use Rattle.rules.specs.Medium.{Medium}
use Rattle.rules.specs.Check.{Answer, refusal}
use Rattle.rules.specs.Calls.{Choice, Chosen, on, none, chosen}
use Rattle.rules.specs.Hosts.{host_number}
use Rattle.lines.specs.Paper.{Verdict, told}
use Rattle.lines.specs.Reading.{medium_of}
use Rattle.lines.specs.declared.Reading.{Reading}
use Rattle.lines.specs.declared.Refusal.{Refusal}
use Rattle.form.specs.Paper.{answered}
use Rattle.sets.specs.Paper.{Answer as SetAnswer, paper as set_paper}
use Rattle.tables.specs.Paper.{Answer as LineAnswer, paper as line_paper}
use Rattle.traces.specs.Paper.{Answer as TraceAnswer, ChannelAnswer, Spread, paper as trace_paper, paper_channel, paper_spread}
use Rattle.sps.specs.Number.{number_of, or_zero, trace_number, ReadBy}

pub by_reading :
    {T : Type 0} (d : Choice) (r : Result Reading Refusal) → ReadBy d r → (v : Result T Refusal) (P : Reading → Type 0) → MatchResult r P (λ e. v ≡ Err e)
    → (p : Result T Refusal → Answer) → ((e : Refusal) → p (Err e) ≡ refusal (told e)) → (A : Medium → Answer)
    → ((how : Reading) → P how → p v ≡ A (medium_of how)) → p v ≡ chosen d A
by_reading d (Ok how) m v P w p q A f = f how w ∙ ap (λ (u : Choice). chosen u A) (sym m)
by_reading d (Err e) m v P w p q A f = ap p w ∙ q e ∙ ap refusal m.1 ∙ ap (λ (u : Choice). chosen u A) (sym m.0)

pub when_on : (d : Choice) (how : Reading) (P : Medium → Type 0) (Q : Type 0) → d ≡ on (medium_of how) → P (medium_of how) → Chosen d P Q
when_on d how P Q e p = rw e p

pub when_none : (d : Choice) (P : Medium → Type 0) (Q : Type 0) → d ≡ none → Q → Chosen d P Q
when_none d P Q e q = rw e q

pub form_number : (v : Verdict) → number_of (λ _. 0) v ≡ host_number (answered v)
unfolding host_number
form_number (Ok _) = refl
form_number (Err e) = refl

pub set_number : (v : SetAnswer) → number_of (λ c. c.traces) v ≡ host_number (set_paper v)
unfolding host_number
set_number (Ok c) = refl
set_number (Err e) = refl

pub traced_number : (v : TraceAnswer) → number_of trace_number v ≡ host_number (trace_paper v)
unfolding host_number
traced_number (Ok None) = refl
traced_number (Ok (Some t)) = refl
traced_number (Err e) = refl

pub channel_number : (v : ChannelAnswer) → number_of or_zero v ≡ host_number (paper_channel v)
unfolding host_number
channel_number (Ok None) = refl
channel_number (Ok (Some c)) = refl
channel_number (Err e) = refl

pub spread_number : (v : Spread) → number_of (λ n. n) v ≡ host_number (paper_spread v)
unfolding host_number
spread_number (Ok h) = refl
spread_number (Err e) = refl

pub line_number : (v : LineAnswer) → number_of or_zero v ≡ host_number (line_paper v)
unfolding host_number
line_number (Ok None) = refl
line_number (Ok (Some l)) = refl
line_number (Err e) = refl
