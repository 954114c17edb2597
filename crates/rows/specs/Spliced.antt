-- Bytes that are put into a slice.
--   spliced at bs o = o with the bytes bs from place `at` on
use Rattle.std.specs.Prelude.{ℕ, ◌+◌, List, ◌++◌, length, take, drop}

unfoldable pub spliced : ℕ → List ℕ → List ℕ → List ℕ
spliced at bs o = take at o ++ (bs ++ drop (at + length bs) o)
