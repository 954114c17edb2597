-- What the spread table tells a host.
--   SpreadTold d T o p a l m = a is the number of its answer of the chosen medium, and l and m stand in the slices afterwards; where no medium
--                              is chosen it is 20, and the slices stay o and p
use Rattle.std.specs.Prelude.{ℕ, ◌≡◌, List}
use Rattle.rules.specs.Plan.{№}
use Rattle.rules.specs.Medium.{Medium}
use Rattle.rules.specs.Check.{Answer}
use Rattle.rules.specs.Calls.{Choice, Chosen}
use Rattle.rules.specs.Hosts.{packed, host_number}
use Rattle.traces.specs.Calls.{Table, SpreadBytes}

abbrev pub SpreadTold : Choice → (Medium → Table) → List ℕ → List ℕ → ℕ → List ℕ → List ℕ → Type 0
SpreadTold d T o p a l m =
    Chosen d (λ M. (v : Answer) × ((a ≡ host_number v) × SpreadBytes (T M) v l m)) ((a ≡ packed (№ 20 0 0 0)) × ((l ≡ o) × (m ≡ p)))
