-- What `records::relation::number_at` leaves to show.
use Rattle.records.proofs.Sizes.{below}
use Rattle.rules.proofs.Sizes.{whole_small}
use Rattle.rules.specs.Numbers.{size, whole}
use Rattle.rules.specs.Text.{cols}
use mathlib.Core.Path.{◌∙◌, ap}
use native.Mathlib.Omega.{arith}
use Rattle.records.proofs.relation.number_at.Goals as goal

pub overflow_cast-result : goal.overflow_cast-result
overflow_cast-result c = let a = c.args in
    let e = c.size.ensures.value ∙ ap size c.whole.ensures.value in
    let h = below 8 (whole (cols a.l.now a.a a.b)) a.l.now a.a a.b (omega arith) (omega arith) (whole_small _) in
    omega arith

pub returns : goal.returns
returns c = record { value = c.size.ensures.value ∙ ap size c.whole.ensures.value }
