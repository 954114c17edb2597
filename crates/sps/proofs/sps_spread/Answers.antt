-- What `sps::sps_spread` leaves to show.
use Rattle.std.proofs.Common.{refl, ap, ◌∙◌}
use Rattle.rules.specs.Hosts.{packed}
use Rattle.lines.specs.Reading.{sheet_of}
use Rattle.sps.proofs.Chosen.{when_on, when_none, spread_number}
use Rattle.sps.proofs.sps_spread.Goals as goal

pub returns-in-Ok : goal.returns-in-Ok
unfolding sheet_of
returns-in-Ok c = record {
  table = when_on _ _ _ _ c.in-Ok.ensures.by (_, (c.number.ensures.value ∙ spread_number _, c.spread_bytes.ensures.table));
}

pub returns-in-Err : goal.returns-in-Err
returns-in-Err c = record {
  table = when_none _ _ _ c.in-Err.ensures.by.0 (c.pack.ensures.value ∙ ap packed c.in-Err.ensures.by.1, (refl, refl));
}
