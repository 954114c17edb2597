-- What `writer::place` leaves to show.
use Rattle.std.proofs.Common.{List, ℕ, ap, sym, ◌∙◌}
use Rattle.rules.specs.Plan.{fine}
use Rattle.rules.specs.Writer.{into}
use Rattle.writer.proofs.Written.{made_none, made_some, writes_not, writes_short, writes_fine, into_fine, into_refused}
use Rattle.writer.proofs.place.Goals as goal

pub returns-in-None : goal.returns-in-None
returns-in-None c = record {
  verdict = λ ok l e. rw c.unplaced.ensures.value (writes_not _ ok (made_none ok l (sym c.in-None.is ∙ e)));
  written = λ ok l e. rw c.unplaced.ensures.value (into_refused _ _ _);
}

pub returns-in-Some : goal.returns-in-Some
returns-in-Some c = record {
  verdict = λ ok l e. rw c.unplaced-in-Some.ensures.value (writes_short _ ok (made_some ok l _ (sym c.in-Some.is ∙ e)).0 c.if-out-lt82.true);
  written = λ ok l e. rw c.unplaced-in-Some.ensures.value (into_refused _ _ _);
}

pub returns-in-Some-2 : goal.returns-in-Some-2
returns-in-Some-2 c = record {
  verdict = λ ok l e. writes_fine _ ok (made_some ok l _ (sym c.in-Some-2.is ∙ e)).0 c.if-out-lt82.false;
  written = λ ok l e. into_fine c.add.ensures.added ∙ ap (λ (m : List ℕ). into fine m c.args.out.now) (made_some ok l _ (sym c.in-Some-2.is ∙ e)).1;
}
