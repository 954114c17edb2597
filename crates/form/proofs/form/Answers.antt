-- What `form::form` leaves to show.
use Rattle.form.proofs.ByKind.{unknown_kind, known_kind}
use Rattle.form.proofs.form.Goals as goal

pub returns-then-i-eq0 : goal.returns-then-i-eq0
returns-then-i-eq0 c = record { answer = rw c.unplaced.ensures.value (unknown_kind _ _ _ c.kind_of-i.ensures.value c.if-i-eq0.true) }

pub returns : goal.returns
returns c = record { answer = known_kind _ _ _ c.kind_of-i.ensures.value c.if-i-eq0.false c.file_fits.result c.file_fits.ensures.verdict }
