-- The measure of `texts::digits`: each call has a tenth of the number.
use Rattle.texts.proofs.+digits.Given as goal

abbrev pub decreases-digits : goal.decreases-digits
decreases-digits l = l.v
