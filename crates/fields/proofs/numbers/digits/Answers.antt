-- What `fields::numbers::digits` leaves to show.
use native.Mathlib.Omega.{arith}
use Rattle.fields.proofs.Walks.{cap, digit_value, digits_step, digits_stop, grow}
use Rattle.fields.proofs.numbers.digits.Goals as goal

pub returns-then-not-is_ascii_digit : goal.returns-then-not-is_ascii_digit
returns-then-not-is_ascii_digit c = record {
  value = digits_stop _ _ _ (omega arith) _ _ c.loop-c.invariant.read (omega arith) _ c.is_ascii_digit.ensures.value c.if-not-is_ascii_digit.true;
}

pub overflow_mul-v : goal.overflow_mul-v
overflow_mul-v c = let h = cap _ c.loop-c.invariant.small (omega arith) in omega arith

pub overflow_add-v : goal.overflow_add-v
overflow_add-v c = let h = cap _ c.loop-c.invariant.small (omega arith) in omega (arith, c.from.ensures)

pub loop-c-preserved : goal.loop-c-preserved
loop-c-preserved c = record {
  small = grow c.args.a _ (omega arith) c.loop-c.invariant.small
      (digit_value _ _ _ c.is_ascii_digit.ensures.value c.if-not-is_ascii_digit.false c.from.ensures);
  read = digits_step _ _ _ (omega arith) _ _ c.loop-c.invariant.read (omega arith) _ c.is_ascii_digit.ensures.value _
      c.if-not-is_ascii_digit.false c.from.ensures;
}
