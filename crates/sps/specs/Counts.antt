-- What a host gets of an accepted set beside the number: "To it a slice of wider numbers is a byte slice, low byte first; bytes at its
-- end too few for a number are no place and stay."
--   placed vs o       = o with numbers in its places of eight bytes, as far as it has whole ones
--   placed_from i vs o = the same from place i on
--   counted a o       = o with the counts of an answer that accepts in its places, else o
use Rattle.std.specs.Prelude.{ℕ, ◌*◌, List, [], ◌∷◌, ◌++◌, leb, length, take, drop}
use Rattle.rules.specs.Places.{pick}
use Rattle.rules.specs.Hosts.{low_bytes}
use Rattle.rules.specs.Check.{Answer, accepted, refusal, trace, channel, highest, header_line, no_trace, formed}

unfoldable pub placed : List ℕ → List ℕ → List ℕ
placed [] o = o
placed (v ∷ vs) o = pick (leb 8 (length o)) (low_bytes 8 v ++ placed vs (drop 8 o)) o

unfoldable pub placed_from : ℕ → List ℕ → List ℕ → List ℕ
placed_from i vs o = take (8 * i) o ++ placed vs (drop (8 * i) o)

unfoldable pub counted : Answer → List ℕ → List ℕ
counted (accepted n m k t d) o = placed (n ∷ m ∷ k ∷ t ∷ d ∷ []) o
counted (refusal w) o = o
counted (trace l m d) o = o
counted (channel c) o = o
counted (highest c) o = o
counted (header_line l) o = o
counted no_trace o = o
counted formed o = o
