-- What `receivers::first_from` leaves to show.
use Rattle.receivers.proofs.Halves.{bracket_all, bracket_down, bracket_up, bracket_met}
use Rattle.receivers.proofs.Rows.{up}
use Rattle.receivers.proofs.first_from.Goals as goal

pub loop-low-init : goal.loop-low-init
loop-low-init c = bracket_all _ _

pub loop-low-preserved-then-not_below : goal.loop-low-preserved-then-not_below
loop-low-preserved-then-not_below c = bracket_down _ _ _ _ c.loop-low.invariant _ c.not_below.ensures.value c.if-not_below.true c.loop-low-test.true

pub loop-low-preserved : goal.loop-low-preserved
loop-low-preserved c = bracket_up _ _ _ _ c.loop-low.invariant (up _ _ c.requires.0 c.requires.1 c.args.y) _ c.not_below.ensures.value
    c.if-not_below.false c.loop-low-test.true

pub returns : goal.returns
returns c = record { value = bracket_met _ _ _ _ c.loop-low.invariant c.loop-low-test.false }
