-- What the calls of `writer::allowed::first` to itself count down.
use Rattle.writer.proofs.allowed.+first.Given as goal

abbrev pub decreases-first : goal.decreases-first
decreases-first l = l.n
