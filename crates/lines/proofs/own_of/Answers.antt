-- What `lines::own_of` leaves to show.
use Rattle.std.proofs.Common.{arith}
use Rattle.lines.proofs.Sheets.{place, own_row}
use Rattle.lines.proofs.own_of.Goals as goal

pub overflow_mul-stride : goal.overflow_mul-stride
overflow_mul-stride c = let a = c.args in
    omega (arith, place a.how _ c.stride.ensures.value a.f.now a.k c.requires)

pub columns-requires : goal.columns-requires
columns-requires c = let a = c.args in
    omega (arith, place a.how _ c.stride.ensures.value a.f.now a.k c.requires)

pub returns : goal.returns
returns c = record {
  value = let a = c.args in
      own_row a.how _ c.stride.ensures.value a.f.now a.k _ c.columns.ensures.value;
}
