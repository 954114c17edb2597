-- What `lines::shown` leaves to show.
use Rattle.rules.specs.Places.{pick}
use Rattle.rules.specs.Show.{is_line, shown, start}
use Rattle.std.proofs.Common.{refl, zero-add, le-leb}
use borrow.Author.Tests.{lt-leb}
use native.Mathlib.Nat.{add-sub_cancel_left}
use Rattle.lines.proofs.shown.Goals as goal

pub returns-then-n-lt1 : goal.returns-then-n-lt1
unfolding shown start is_line pick
returns-then-n-lt1 c = record {
  value = simp (lt-leb _ _ c.if-n-lt1.true, zero-add) refl;
  kept = simp (lt-leb _ _ c.if-n-lt1.true, zero-add) refl;
}

pub returns-then-f-n : goal.returns-then-f-n
unfolding shown start is_line pick
returns-then-f-n c = record {
  value = simp (le-leb _ _ c.if-n-lt1.false, lt-leb _ _ c.if-f-n.true, zero-add) refl;
  kept = simp (le-leb _ _ c.if-n-lt1.false, lt-leb _ _ c.if-f-n.true, zero-add) refl;
}

pub returns : goal.returns
unfolding shown start is_line pick
returns c = record {
  value = simp (le-leb _ _ c.if-n-lt1.false, le-leb _ _ c.if-f-n.false, add-sub_cancel_left) refl;
  kept = simp (le-leb _ _ c.if-n-lt1.false, le-leb _ _ c.if-f-n.false, add-sub_cancel_left) refl;
}
