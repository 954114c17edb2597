-- What `fields::numbers::signed` leaves to show.
use mathlib.Core.Path.{ap, ◌∙◌}
use native.Mathlib.Omega.{arith}
use Rattle.rules.specs.Numbers.{minus_or, negative, signed}
use Rattle.fields.specs.Paper.{number}
use Rattle.fields.proofs.Justified.{ink_some, minus_some, none_read}
use Rattle.fields.proofs.numbers.signed.Goals as goal

pub returns-in_err-digits : goal.returns-in_err-digits
unfolding signed negative
returns-in_err-digits c = record {
  value = ap number c.from_residual-in_err-digits.ensures ∙ ap negative (none_read _ _ c.digits.ensures.value c.in_err-digits.was)
      ∙ minus_some _ _ _ (omega (arith, c.in_ok-c.ensures.within)) (omega (arith, c.in_ok-c.ensures.within)) c.if-l-c-eq45.true
      ∙ ink_some minus_or _ _ _ _ c.ink.ensures.value c.requires.0 _ c.in_ok-c.was;
}
