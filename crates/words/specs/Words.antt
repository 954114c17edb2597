-- "It prints one line": what the program says of a set or of a file, as bytes.
--   row w vs        = a word and values, a blank before each, and a line feed
--   line a          = the line of an answer to the cross-check; none of another answer
--   no_file i        = the line of file i where it is missing
--   too_long i       = the line of file i where it is above the buffer
use Rattle.std.specs.Prelude.{ℕ, List, [], ◌∷◌, ◌++◌}
use Rattle.rules.specs.Text.{bytes}
use Rattle.rules.specs.Lines.{letter}
use Rattle.rules.specs.Plan.{№}
use Rattle.rules.specs.Check.{Answer, accepted, refusal, trace, channel, highest, header_line, no_trace, formed}
use Rattle.rules.specs.Figures.{decimal_of}

unfoldable pub values : List (List ℕ) → List ℕ
values [] = 10 ∷ []
values (v ∷ vs) = (32 ∷ v) ++ values vs

unfoldable pub row : List ℕ → List (List ℕ) → List ℕ
row w vs = w ++ values vs

unfoldable pub line : Answer → List ℕ
line (accepted r s x t d) = row (bytes "ACCEPTED") (decimal_of r ∷ decimal_of s ∷ decimal_of x ∷ decimal_of t ∷ decimal_of d ∷ [])
line (refusal (№ n f l c)) = row (bytes "REFUSED") (decimal_of n ∷ (letter f ∷ []) ∷ decimal_of l ∷ decimal_of c ∷ [])
line (trace l m d) = []
line (channel c) = []
line (highest c) = []
line (header_line l) = []
line no_trace = []
line formed = []

unfoldable pub no_file : ℕ → List ℕ
no_file i = bytes "NO FILE " ++ (letter i ∷ 10 ∷ [])

unfoldable pub too_long : ℕ → List ℕ
too_long i = bytes "TOO LONG " ++ (letter i ∷ 10 ∷ [])
