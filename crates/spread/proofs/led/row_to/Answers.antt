-- What `spread::led::row_to` leaves to show.
use Prim.Native.Nat.{ℕ, ◌+◌, ◌-◌}
use native.Mathlib.Omega.{arith}
use mathlib.Core.Path.{◌≡◌, ap₂}
use Rattle.rules.specs.Cover.{lowest, leads}
use Rattle.spread.proofs.led.row_to.Goals as goal

pub returns : goal.returns
returns c =
    let on : c.leads.result - c.lowest.result ≡ leads c.requires.reach c.args.c - lowest c.requires.reach =
    let w = c.requires in ap₂ ◌-◌ (c.leads.ensures.value w.reach w.coded) (c.lowest.ensures.value w.reach w.coded) in
    record {
      value = λ p e. ap₂ (λ (m l : ℕ). c.args.e + (m - l)) (c.leads.ensures.value p e) (c.lowest.ensures.value p e);
      inside = omega (arith, on, c.requires.inside);
    }
