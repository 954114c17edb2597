-- What `lines::show` leaves to show.
use Rattle.rules.specs.Places.{pick}
use Rattle.rules.specs.Show.{of_s, show, start_in}
use Rattle.std.proofs.Common.{refl, zero-add, eq-eqb, ne_eqb}
use Rattle.lines.proofs.show.Goals as goal

pub returns-then-letter-eq83 : goal.returns-then-letter-eq83
unfolding show start_in of_s pick
returns-then-letter-eq83 c = record {
  value = rw (eq-eqb _ _ c.if-letter-eq83.true) c.shown.ensures.value;
  kept = rw (eq-eqb _ _ c.if-letter-eq83.true) c.shown.ensures.kept;
}

pub returns-then-letter-eq82 : goal.returns-then-letter-eq82
unfolding show start_in of_s pick
returns-then-letter-eq82 c = record {
  value = rw (ne_eqb _ _ c.if-letter-eq83.false, eq-eqb _ _ c.if-letter-eq82.true) c.shown-then-letter-eq82.ensures.value;
  kept = rw (ne_eqb _ _ c.if-letter-eq83.false, eq-eqb _ _ c.if-letter-eq82.true) c.shown-then-letter-eq82.ensures.kept;
}

pub returns : goal.returns
unfolding show start_in of_s pick
returns c = record {
  value = rw (ne_eqb _ _ c.if-letter-eq83.false, ne_eqb _ _ c.if-letter-eq82.false) refl;
  kept = rw (ne_eqb _ _ c.if-letter-eq83.false, ne_eqb _ _ c.if-letter-eq82.false, zero-add) refl;
}
