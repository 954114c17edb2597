-- The measure of `writer::spell::bytes`: each call has one byte less.
use Rattle.writer.proofs.spell.+bytes.Given as goal

abbrev pub decreases-bytes : goal.decreases-bytes
decreases-bytes l = l.n
