-- What `words::refused` leaves to show.
use Rattle.rules.specs.Text.{bytes}
use Rattle.words.specs.Words.{row, values}
use Rattle.texts.proofs.Adding.{then}
use Rattle.words.proofs.refused.Goals as goal

pub returns-clause-added : goal.returns-clause-added
unfolding row values bytes
returns-clause-added c =
    rw (← c.letter.ensures.value, ← c.from.ensures, ← c.from-2.ensures, ← c.from-3.ensures)
    (then c.add-a.ensures.added
    (then c.number-b.ensures.added
    (then c.add-d.ensures.added
    (then c.number-e.ensures.added
    (then c.number-g.ensures.added c.byte.ensures.added)))))
