-- What the form check says of the sheet of one file, in words.
--   Morning b f v = well formed exactly where the kind is R, S or X and the file meets 1 to 6 (and 29 on tape) as one of that kind; refused
--                   exactly by the first breach, 20 before the rest
use Rattle.std.specs.Prelude.{ℕ, ◌≡◌, ◌↔◌, Ok, Err}
use Rattle.rules.specs.Plan.{№}
use Rattle.rules.specs.Sheet.{Sheet}
use Rattle.rules.specs.MeetsForm.{Formed}
use Rattle.rules.specs.Refuses.{First}
use Rattle.rules.specs.MeetsQuestions.{KindLetter, file_order}
use Rattle.lines.specs.Paper.{Verdict}

pub record Morning (b : ℕ) (f : Sheet) (v : Verdict) : Type 0 where
  -- "the form of a single file of a stated kind"
  pub formed_when : (v ≡ Ok tt) ↔ ((i : ℕ) × KindLetter b i × Formed i f)
  -- "20 for a kind that is not R, S or X, before the rest"
  pub refused_when : (n i l c : ℕ) → (v ≡ Err (record { number = n; file = i; line = l; column = c })) ↔ First (file_order b f) (№ n i l c)
