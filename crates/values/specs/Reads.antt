-- What is read of a line.
--   Reads r v p = r is p where v is fine, and else the refusal of v
use Rattle.std.specs.Prelude.{◌≡◌, Result, MatchResult}
use Rattle.rules.specs.Plan.{Verdict, fine, refused}
use Rattle.lines.specs.declared.Refusal.{Refusal}
use Rattle.lines.specs.Paper.{told}

abbrev pub Reads : {A : Type 0} → Result A Refusal → Verdict → A → Type 0
Reads r v p = MatchResult r (λ q. (v ≡ fine) × (q ≡ p)) (λ e. v ≡ refused (told e))
