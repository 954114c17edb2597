-- What `fields::ranges::value` leaves to show.
use Rattle.fields.proofs.Signs.{minus_value, negated_fits, plus_value, size_minus, size_plus}
use native.Mathlib.Omega.{arith}
use Rattle.fields.proofs.ranges.value.Goals as goal

pub overflow_cast-result : goal.overflow_cast-result
overflow_cast-result c = let h = size_plus _ _ c.in-Some-Plus.is _ _ (rw c.in-Some-Plus.is at c.in-Some-Plus.field-0-is) c.requires in
    record { sfits = omega arith }

pub overflow_cast-result-in-Some-Minus : goal.overflow_cast-result-in-Some-Minus
overflow_cast-result-in-Some-Minus c = let h = size_minus _ _ c.in-Some-Minus.is _ _ (rw c.in-Some-Minus.is at c.in-Some-Minus.field-0-is) c.requires in
    record { sfits = omega arith }

pub overflow_sub-result : goal.overflow_sub-result
overflow_sub-result c = negated_fits _ (size_minus _ _ c.in-Some-Minus.is _ _ (rw c.in-Some-Minus.is at c.in-Some-Minus.field-0-is) c.requires)

pub returns-in-Some-Plus : goal.returns-in-Some-Plus
returns-in-Some-Plus c = record { value = plus_value _ _ c.in-Some-Plus.is _ c.requires (rw c.in-Some-Plus.is at c.in-Some-Plus.field-0-is) }

pub returns-in-Some-Minus : goal.returns-in-Some-Minus
returns-in-Some-Minus c = record { value = minus_value _ _ c.in-Some-Minus.is _ c.requires (rw c.in-Some-Minus.is at c.in-Some-Minus.field-0-is) }
