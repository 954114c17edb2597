-- What the loop of `shots::past` keeps.
use Prim.Native.Nat.{ℕ, ◌≤◌, ◌<◌}
use mathlib.Core.Path.{◌≡◌}
use mathlib.Core.Bool.{not, true}
use Rattle.lines.specs.Reading.{sheet_of}
use Rattle.shots.specs.Places.{names_key}
use Rattle.shots.proofs.past.Given as goal

abbrev pub invariant-loop-i : goal.invariant-loop-i
invariant-loop-i l = (m : ℕ) → l.j ≤ m → m < l.i → not (names_key (sheet_of l.how l.x) l.y m) ≡ true → ⊥
