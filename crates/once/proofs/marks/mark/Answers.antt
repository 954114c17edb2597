-- What `once::marks::mark` leaves to show.
use native.Mathlib.Omega.{arith}
use Rattle.once.proofs.Spans.{spanned_none, spanned_more, spanned_all}
use Rattle.once.proofs.marks.mark.Goals as goal

pub loop-e-init : goal.loop-e-init
loop-e-init c = record { reached = λ h. omega arith; spanned = spanned_none _ _ _ }

pub loop-e-preserved : goal.loop-e-preserved
loop-e-preserved c = let at = c.loop-e in
    let w = at.invariant.spanned in
    record { reached = λ h. omega arith; spanned = spanned_more _ _ _ at.t at.e (omega arith) (omega (arith, w.size)) w }

pub returns : goal.returns
returns c = record { written = let at = c.loop-e in spanned_all _ _ _ at.t _ at.e at.invariant.reached (omega arith) at.invariant.spanned }
