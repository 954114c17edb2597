-- Lines that repeat an earlier line's key.
--   like t f k j     = line j has a key of kind t, that of line k
--   linked t j k     = of relation lines: line k stands just behind line j
--   repeats t f k    = line k has an earlier line's key; of relation lines, where the line just before has another
--   Low t K o r e    = r is no more than the line at place e + 1, where that repeats the one at place e
--   Seen t f r       = line r repeats one, if it is a line
use Rattle.std.specs.Prelude.{ℕ, ◌+◌, ◌≤◌, ◌<◌, ◌≡◌, Bool, true, false, not, ◌&&◌, List, eqb}
use Rattle.rules.specs.Places.{some, is_before}
use Rattle.rules.specs.Sheet.{Sheet}
use Rattle.keys.specs.Compare.{same_key}
use Rattle.keys.specs.Keyed.{takes_at, key_at}
use Rattle.keys.specs.declared.By.{By}
use Rattle.keys.specs.declared.By.TheVariants.{Points, Receivers, Records}
use Rattle.keys.specs.declared.Key.{Key}
use Rattle.order.specs.Sorted.{nth}

unfoldable pub like : By → Sheet → ℕ → ℕ → Bool
like t f k j = takes_at t f j && same_key (key_at t f j) (key_at t f k)

abbrev pub linked : By → ℕ → ℕ → Bool
linked Points j k = false
linked Receivers j k = false
linked Records j k = eqb (j + 1) k

abbrev pub joined : By → (ℕ → Bool) → ℕ → Bool
joined Points p k = false
joined Receivers p k = false
joined Records p k = is_before p k

unfoldable pub repeats : By → Sheet → ℕ → Bool
repeats t f k = takes_at t f k && (some k (like t f k) && not (joined t (like t f k) k))

abbrev pub Low : By → (ℕ → Key) → List ℕ → ℕ → ℕ → Type 0
Low t K o r e = linked t (nth o e) (nth o (e + 1)) ≡ false → same_key (K (nth o e)) (K (nth o (e + 1))) ≡ true → r ≤ nth o (e + 1)

abbrev pub Seen : By → Sheet → ℕ → Type 0
Seen t f r = r < f.count → repeats t f r ≡ true
