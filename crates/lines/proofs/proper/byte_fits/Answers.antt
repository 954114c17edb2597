-- What `lines::proper::byte_fits` leaves to show.
use Rattle.rules.specs.Places.{pick}
use Rattle.rules.specs.Disc.{byte_fits, printable}
use Rattle.std.proofs.Common.{eq-eqb, ne_eqb, le-leb}
use borrow.Author.Tests.{lt-leb}
use Rattle.lines.proofs.proper.byte_fits.Goals as goal

pub returns-then-b-ge32 : goal.returns-then-b-ge32
unfolding byte_fits printable pick
returns-then-b-ge32 c = record { value = rw (le-leb _ _ c.if-c-le80.true, le-leb _ _ c.if-b-ge32.true) }

pub returns-else-b-ge32 : goal.returns-else-b-ge32
unfolding byte_fits printable pick
returns-else-b-ge32 c = record { value = rw (le-leb _ _ c.if-c-le80.true, lt-leb _ _ c.if-b-ge32.false) }

pub returns-then-c-eq81 : goal.returns-then-c-eq81
unfolding byte_fits printable pick
returns-then-c-eq81 c = record { value = rw (lt-leb _ _ c.if-c-le80.false, eq-eqb _ _ c.if-c-eq81.true) }

pub returns-else-c-eq81 : goal.returns-else-c-eq81
unfolding byte_fits printable pick
returns-else-c-eq81 c = record { value = rw (lt-leb _ _ c.if-c-le80.false, ne_eqb _ _ c.if-c-eq81.false) }
