-- What `writer::spell::clock` leaves to show.
use Prim.Native.Nat.{ℕ, ◌-◌}
use native.Mathlib.Omega.{arith}
use lib.ListN.{length-replicate}
use Rattle.writer.proofs.Spelling.{clock_long, clock_short}
use Rattle.writer.proofs.spell.clock.Goals as goal

pub returns-then-w-m : goal.returns-then-w-m
returns-then-w-m c = record { starts = clock_long c.args.w c.whole-m.ensures.added c.if-w-m.true }

pub whole-requires : goal.whole-requires
whole-requires c = let m = c.whole-m.result in
    omega (arith, c.fill-a.ensures.added.ends, length-replicate {A = ℕ} (c.args.w - m) 48)

pub returns : goal.returns
returns c = record { starts = clock_short c.args.w c.whole-m.ensures.added c.fill-a.ensures.added c.whole.ensures.added }
