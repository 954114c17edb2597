-- What `writer::numbers::point` leaves to show.
use mathlib.Core.List.{[], ◌∷◌}
use Rattle.rules.specs.Places.{pick}
use Rattle.rules.specs.Layout.{sps93}
use Rattle.rules.specs.Rows.{point_rows}
use Rattle.rules.specs.Carried.{point_given}
use Rattle.writer.specs.Coded.{text_of, values_of}
use Rattle.writer.proofs.numbers.point.Goals as goal

pub returns : goal.returns
unfolding values_of point_rows sps93 point_given text_of pick
returns c = record {
  value = λ i k.
      c.name.ensures.value 16 k
      ∷ c.count.ensures.value 8 k
      ∷ c.count-2.ensures.value 1 k
      ∷ c.short.ensures.value 2 k
      ∷ c.held.ensures.value 4 k
      ∷ c.count-3.ensures.value 4 k
      ∷ c.count-4.ensures.value 4 k
      ∷ c.held-2.ensures.value 2 k
      ∷ c.held-3.ensures.value 4 k
      ∷ c.count-5.ensures.value 9 k
      ∷ c.count-6.ensures.value 10 k
      ∷ c.count-7.ensures.value 6 k
      ∷ c.count-8.ensures.value 3 k
      ∷ c.count-9.ensures.value 6 k ∷ [];
}
