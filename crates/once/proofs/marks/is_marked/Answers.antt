-- What `once::marks::is_marked` leaves to show.
use native.Mathlib.Omega.{arith}
use Rattle.once.proofs.Spans.{seen_none, seen_more, seen_all}
use Rattle.once.proofs.marks.is_marked.Goals as goal

pub loop-e-init : goal.loop-e-init
loop-e-init c = record { reached = λ h. omega arith; seen = seen_none c.args.lo c.args.v c.args.t.now }

pub loop-e-preserved : goal.loop-e-preserved
loop-e-preserved c = let at = c.loop-e in
    record { reached = λ h. omega arith; seen = seen_more c.args.lo c.args.v c.args.t.now at.e (omega arith) _ at.invariant.seen }

pub returns : goal.returns
returns c = record {
  value = let at = c.loop-e in
      seen_all c.args.lo c.args.v c.args.t.now _ at.e at.invariant.reached (omega arith) _ at.invariant.seen;
}
