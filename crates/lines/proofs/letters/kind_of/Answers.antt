-- What `lines::letters::kind_of` leaves to show.
use Rattle.std.proofs.Common.{arith}
use Rattle.lines.proofs.FileLetters.{kind_r, kind_s, kind_x, kind_none}
use Rattle.lines.proofs.letters.kind_of.Goals as goal

pub returns-in-82 : goal.returns-in-82
returns-in-82 c = record { value = kind_r _ c.in-82.is }

pub returns-in-83 : goal.returns-in-83
returns-in-83 c = record { value = kind_s _ c.in-83.is }

pub returns-in-88 : goal.returns-in-88
returns-in-88 c = record { value = kind_x _ c.in-88.is }

pub returns-in_default : goal.returns-in_default
returns-in_default c = record { value = kind_none _ (λ z. omega arith) (λ z. omega arith) (λ z. omega arith) }
