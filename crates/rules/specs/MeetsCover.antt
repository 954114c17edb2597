-- "What one relation line covers" in words.
--   Covers q n     = receiver number n is covered: it is one of those from the one to the other, whichever is the higher
--   Carries q c    = channel c is
--   Reached q n m  = component m of receiver number n is reached
--   Meet p q       = both cover one receiver
use Rattle.std.specs.Prelude.{ℕ, ◌≤◌, ◌≡◌}
use Rattle.rules.specs.Relations.{Reach}
use Rattle.rules.specs.Cover.{lowest, highest}

abbrev pub Covers : Reach → ℕ → Type 0
Covers q n = (lowest q ≤ n) × (n ≤ highest q)

abbrev pub Carries : Reach → ℕ → Type 0
Carries q c = (q.from ≤ c) × (c ≤ q.upto)

abbrev pub Reached : Reach → ℕ → ℕ → Type 0
Reached q n m = Covers q n × ((1 ≤ m) × (m ≤ q.step))

abbrev pub Meet : Reach → Reach → Type 0
Meet p q =
    (p.receiver ≡ q.receiver) × ((p.receiver_index ≡ q.receiver_index) × ((n : ℕ) × Covers p n × Covers q n))
