-- What `writer::values::relation_values` leaves to show.
use mathlib.Core.List.{[], ◌∷◌}
use Rattle.rules.specs.Layout.{sps93}
use Rattle.rules.specs.Rows.{relation_rows}
use Rattle.rules.specs.Values.{text, relation_values}
use Rattle.writer.specs.Coded.{text_of, relation_of, reach_of, values_of}
use Rattle.writer.proofs.values.relation_values.Goals as goal

pub returns : goal.returns
unfolding values_of relation_rows sps93 relation_values relation_of reach_of
returns c = record {
  value = let a = c.args.q in
      λ k.
      c.short.ensures.value 6 k
      ∷ c.count.ensures.value 4 k
      ∷ c.count-2.ensures.value 1 k
      ∷ c.count-3.ensures.value 1 k
      ∷ text (text_of 16 a.source.hi a.source.lo)
      ∷ c.count-4.ensures.value 8 k
      ∷ c.count-5.ensures.value 1 k
      ∷ c.count-6.ensures.value 4 k
      ∷ c.count-7.ensures.value 4 k
      ∷ c.count-8.ensures.value 1 k
      ∷ text (text_of 16 a.reach.receiver.hi a.reach.receiver.lo)
      ∷ c.count-9.ensures.value 8 k
      ∷ c.count-10.ensures.value 8 k
      ∷ c.count-11.ensures.value 1 k ∷ [];
}
