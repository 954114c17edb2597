-- What `writer::numbers::relation` leaves to show.
use mathlib.Core.List.{[], ◌∷◌}
use Rattle.rules.specs.Places.{pick}
use Rattle.rules.specs.Layout.{sps93}
use Rattle.rules.specs.Rows.{relation_rows}
use Rattle.rules.specs.Carried.{relation_given}
use Rattle.writer.specs.Coded.{text_of, values_of}
use Rattle.writer.proofs.numbers.relation.Goals as goal

pub returns : goal.returns
unfolding values_of relation_rows sps93 relation_given text_of pick
returns c = record {
  value = λ k.
      c.short.ensures.value 6 k
      ∷ c.count.ensures.value 4 k
      ∷ c.count-2.ensures.value 1 k
      ∷ c.count-3.ensures.value 1 k
      ∷ c.name.ensures.value 16 k
      ∷ c.count-4.ensures.value 8 k
      ∷ c.count-5.ensures.value 1 k
      ∷ c.count-6.ensures.value 4 k
      ∷ c.count-7.ensures.value 4 k
      ∷ c.count-8.ensures.value 1 k
      ∷ c.name-2.ensures.value 16 k
      ∷ c.count-9.ensures.value 8 k
      ∷ c.count-10.ensures.value 8 k
      ∷ c.count-11.ensures.value 1 k ∷ [];
}
