-- The record that is asked for, and what is known of the files.
--   Asked t n      = a tape and a record that can be asked for
--   wanted_of t n   = they as the code has them, the tape as one number
--   is_of x w k     = line k of X is a relation line of that tape and record
--   Accepted r x   = R and X stand in an accepted set, with some S, in one medium
use Rattle.std.specs.Prelude.{ℕ, ◌≡◌, Bool, true, ◌&&◌, List, eqb}
use Rattle.rules.specs.Plan.{fine, run}
use Rattle.rules.specs.Layout.{sps93}
use Rattle.rules.specs.Sheet.{Sheet}
use Rattle.rules.specs.Lines.{is_data}
use Rattle.rules.specs.Relations.{reach_at}
use Rattle.rules.specs.Check.{rules}
use Rattle.rules.specs.Questions.{record_asked}
use Rattle.fields.specs.Packed.{packed}
use Rattle.form.specs.Known.{Known}
use Rattle.spread.specs.declared.wanted.Wanted.{Wanted}

abbrev pub Asked : List ℕ → ℕ → Type 0
Asked t n = record_asked sps93 t n ≡ true

abbrev pub wanted_of : List ℕ → ℕ → Wanted
wanted_of t n = record { tape = packed t; number = n }

unfoldable pub is_of : Sheet → Wanted → ℕ → Bool
is_of x w k = is_data x k && (eqb (packed (reach_at x k).tape) w.tape && eqb (reach_at x k).number w.number)

pub record Accepted (r x : Sheet) : Type 0 where
  pub shots : Sheet
  pub met : fine ≡ run (rules r shots x)
  pub receivers : Known 1 r
  pub relations : Known 3 x
  pub alike : r.rank ≡ x.rank
