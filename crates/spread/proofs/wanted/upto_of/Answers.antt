-- What `spread::wanted::upto_of` leaves to show.
use Rattle.std.proofs.Common.{◌∙◌}
use Rattle.spread.proofs.Asked.{upto_none, upto_there}
use Rattle.spread.proofs.wanted.upto_of.Goals as goal

pub returns-then-is_of : goal.returns-then-is_of
returns-then-is_of c = record {
  value = let a = c.args in
      upto_there a.how a.x.now a.w a.k _ c.is_of.ensures.value c.if-is_of.true _ c.line_of.ensures.value _
      (c.from.ensures ∙ c.number_at.ensures.value);
}

pub returns : goal.returns
returns c = record {
  value = let a = c.args in
      upto_none a.how a.x.now a.w a.k _ c.is_of.ensures.value c.if-is_of.false;
}
