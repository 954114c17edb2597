-- What `sps::crossed` leaves to show.
use Rattle.std.proofs.Common.{refl, rules}
use Rattle.rules.specs.Layout.{sps93}
use Rattle.rules.specs.Medium.{Medium, sheet}
use Rattle.rules.specs.Check.{cross}
use Rattle.lines.specs.Reading.{sheet_of}
use Rattle.sets.specs.Paper.{paper}
use Rattle.sps.proofs.Chosen.{by_reading}
use Rattle.sps.proofs.crossed.Goals as goal

pub returns : goal.returns
unfolding sheet_of
returns c = record {
  answer = let a = c.args in
      by_reading _ _ c.reading.ensures.by _ _ c.and_then.ensures paper (λ e. refl)
      (λ (M : Medium). cross (sheet M sps93 a.r.now) (sheet M sps93 a.s.now) (sheet M sps93 a.x.now)) (λ how w. search rules);
}
