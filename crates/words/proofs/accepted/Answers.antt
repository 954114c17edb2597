-- What `words::accepted` leaves to show.
use Rattle.rules.specs.Text.{bytes}
use Rattle.words.specs.Words.{row, values}
use Rattle.texts.proofs.Adding.{then}
use Rattle.words.proofs.accepted.Goals as goal

pub returns-clause-added : goal.returns-clause-added
unfolding row values bytes
returns-clause-added c =
    then c.add-a.ensures.added
    (then c.number-b.ensures.added
    (then c.number-d.ensures.added
    (then c.number-e.ensures.added
    (then c.number-f.ensures.added
    (then c.number-g.ensures.added c.byte.ensures.added)))))
