-- What the answer says of the sheets of a set, in words.
--   Told r s x b c v = a line is told exactly where the question is in range, the set meets every rule, and that line of R names the code (line 0:
--                      none does); a refusal exactly where it is the first breach, 20 before the set's own
use Rattle.std.specs.Prelude.{ℕ, ◌≡◌, ◌↔◌, List, Ok, Err}
use Rattle.rules.specs.Plan.{№}
use Rattle.rules.specs.Sheet.{Sheet}
use Rattle.rules.specs.Lines.{kind_of}
use Rattle.rules.specs.Tables.{written}
use Rattle.rules.specs.Meets.{Meets}
use Rattle.rules.specs.Refuses.{First}
use Rattle.rules.specs.MeetsQuestions.{AskedCode, NamedIn, table_order}
use Rattle.tables.specs.Paper.{Answer, line_at}

pub record Told (r s x : Sheet) (b : ℕ) (c : List ℕ) (v : Answer) : Type 0 where
  -- "the header line of R that names a code (its line number; 0 where none)"
  pub line_when : (l : ℕ) → (v ≡ Ok (line_at l)) ↔ (AskedCode b c × (Meets r s x × NamedIn r (kind_of b) (written (kind_of b) c) l))
  -- "20 for a medium, a kind or a code not of that kind, then the set's own"
  pub refused_when : (n f l d : ℕ) → (v ≡ Err (record { number = n; file = f; line = l; column = d })) ↔ First (table_order r s x b c) (№ n f l d)
