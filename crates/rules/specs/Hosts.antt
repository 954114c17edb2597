-- "A C host gets one 64-bit number."
--   packed w       = a refusal as number * 2^40 + file * 2^32 + line * 256 + column
--   host_number a   = an answer as that number; 0 where there is none, and of a file that is well formed
--   host_verdict v  = a verdict as that number; 0 where it is fine
--   low_bytes n v   = the n low bytes of a number, low byte first
--   numbers_of b    = the 16-bit numbers of a byte slice, low byte first; a last odd byte is no place
use Rattle.std.specs.Prelude.{ℕ, zero, suc, ◌+◌, ◌*◌, ◌/◌, ◌%◌, ◌^◌, List, [], ◌∷◌}
use Rattle.rules.specs.Places.{pick}
use Rattle.rules.specs.Plan.{Refusal, №, Verdict, fine, refused}
use Rattle.rules.specs.Check.{Answer, accepted, refusal, trace, channel, highest, header_line, no_trace, formed}

unfoldable pub packed : Refusal → ℕ
packed (№ n f l c) = n * 2 ^ 40 + f * 2 ^ 32 + l * 256 + c

unfoldable pub host_number : Answer → ℕ
host_number (accepted r s x t d) = t
host_number (refusal w) = packed w
host_number (trace l m d) = l * 16 + m + pick d (2 ^ 32) 0
host_number (channel c) = c
host_number (highest c) = c
host_number (header_line l) = l
host_number no_trace = 0
host_number formed = 0

unfoldable pub host_verdict : Verdict → ℕ
host_verdict fine = 0
host_verdict (refused w) = packed w

unfoldable pub low_bytes : ℕ → ℕ → List ℕ
low_bytes zero v = []
low_bytes (suc n) v = (v % 256) ∷ low_bytes n (v / 256)

unfoldable pub numbers_of : List ℕ → List ℕ
numbers_of [] = []
numbers_of (a ∷ []) = []
numbers_of (a ∷ (b ∷ r)) = (a + 256 * b) ∷ numbers_of r
