-- What `spread::led::line_to` leaves to show.
use Prim.Native.Nat.{ℕ, ◌+◌, ◌<◌}
use native.Mathlib.Omega.{arith}
use mathlib.Core.Path.{sym, ap, subst}
use Rattle.rules.specs.Sheet.{most_lines}
use Rattle.order.specs.Sorted.{nth}
use Rattle.spread.proofs.led.line_to.Goals as goal

pub overflow_add-result : goal.overflow_add-result
unfolding most_lines
overflow_add-result c =
    let line : nth c.args.o.now c.row_to.result < most_lines =
    subst (λ (i : ℕ). nth c.args.o.now i < most_lines) (sym (c.row_to.ensures.value c.requires.reach c.requires.coded)) c.requires.few in
    omega (arith, line)

pub returns : goal.returns
returns c =
    let line : nth c.args.o.now c.row_to.result < most_lines =
    subst (λ (i : ℕ). nth c.args.o.now i < most_lines) (sym (c.row_to.ensures.value c.requires.reach c.requires.coded)) c.requires.few in
    record {
      value = λ p e. ap (λ (i : ℕ). nth c.args.o.now i + 1) (c.row_to.ensures.value p e);
      few = omega (arith, line);
    }
