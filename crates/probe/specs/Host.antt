-- What a host gets of a line or a file.
--   told v    = a verdict as the number of its refusal; 0 where it is fine
use Rattle.std.specs.Prelude.{ℕ}
use Rattle.rules.specs.Plan.{Verdict, fine, refused}
use Rattle.rules.specs.Hosts.{packed}

unfoldable pub told : Verdict → ℕ
told fine = 0
told (refused w) = packed w
