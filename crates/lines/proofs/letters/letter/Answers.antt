-- What `lines::letters::letter` leaves to show.
use Rattle.lines.proofs.FileLetters.{letter_r, letter_s, letter_x}
use Rattle.lines.proofs.letters.letter.Goals as goal

pub returns-then-i-eq1 : goal.returns-then-i-eq1
returns-then-i-eq1 c = record { value = letter_r _ c.if-i-eq1.true }

pub returns-then-i-eq2 : goal.returns-then-i-eq2
returns-then-i-eq2 c = record { value = letter_s _ c.if-i-eq2.true }

pub returns : goal.returns
returns c = record { value = letter_x _ c.if-i-eq1.false c.if-i-eq2.false }
