-- What the loops of `order::repeat::first` keep.
use Prim.Native.Nat.{ℕ, ◌+◌, ◌≤◌, ◌<◌}
use Rattle.lines.specs.Reading.{sheet_of}
use Rattle.keys.specs.Keyed.{keys_in}
use Rattle.order.specs.Repeat.{Low, Seen}
use Rattle.order.proofs.repeat.first.Given as goal

abbrev pub invariant-loop-e : goal.invariant-loop-e
invariant-loop-e l = record {
  seen : Seen l.z.by (sheet_of l.z.how l.f) l.r;
  low : (d : ℕ) → d + 1 < l.e → Low l.z.by (keys_in l.z l.f) l.o l.r d;
  inside : l.r ≤ (sheet_of l.z.how l.f).count;
}
