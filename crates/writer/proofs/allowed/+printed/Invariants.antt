-- What the calls of `writer::allowed::printed` to itself count down.
use Rattle.writer.proofs.allowed.+printed.Given as goal

abbrev pub decreases-printed : goal.decreases-printed
decreases-printed l = l.n
