-- What the loop of `shots::onward` keeps.
use Prim.Native.Nat.{ℕ, ◌≤◌, ◌<◌}
use mathlib.Core.Path.{◌≡◌}
use mathlib.Core.Bool.{true}
use Rattle.lines.specs.Reading.{sheet_of}
use Rattle.shots.specs.Places.{is_shot}
use Rattle.shots.proofs.onward.Given as goal

abbrev pub invariant-loop-j : goal.invariant-loop-j
invariant-loop-j l = (i : ℕ) → l.from ≤ i → i < l.j → is_shot (sheet_of l.how l.s) (sheet_of l.how l.x) l.k i ≡ true → ⊥
