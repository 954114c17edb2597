-- What `files::input::next` leaves to show.
use Rattle.std.proofs.Common.{◌≡◌, refl}
use Rattle.files.specs.Reads.{next}
use Rattle.files.proofs.Answers.{went_over, came_in}
use Rattle.files.proofs.input.next.Goals as goal

pub returns-in-None : goal.returns-in-None
unfolding next
returns-in-None c = record { value = rw c.in-None.is refl }

pub returns-in-Some-eq0 : goal.returns-in-Some-eq0
unfolding next
returns-in-Some-eq0 c = record { value = rw (c.in-Some-eq0.is, ← c.in-Some-eq0.field-0-is, c.in-Some-eq0.field-0-test) refl }

pub returns-in-Some : goal.returns-in-Some
returns-in-Some c = record { value = rw c.in-Some.is (went_over _ _ (rw c.in-Some.is at c.in-Some.m-test.1) c.if-room-m.true) }

pub returns-in-Some-2 : goal.returns-in-Some-2
returns-in-Some-2 c =
    let e : c.in-Some.m ≡ c.in-Some-2.m = cc in
    record { value = rw c.in-Some-2.is (came_in _ _ (rw c.in-Some-2.is at c.in-Some.m-test.1) (rw e at c.if-room-m.false)) }
