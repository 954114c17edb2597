-- What the loop of `rows::part::put` keeps.
use Rattle.std.proofs.Common.{◌≡◌, ◌-◌, ◌*◌}
use Rattle.rules.specs.Relations.{Reach}
use Rattle.records.specs.Coded.{coded_reach}
use Rattle.rows.specs.Spliced.{spliced}
use Rattle.rows.specs.Parts.{part_rows}
use Rattle.rows.proofs.part.put.Given as goal

abbrev pub invariant-loop-i : goal.invariant-loop-i
invariant-loop-i l = (v : Reach) → l.q ≡ coded_reach v
    → l.places ≡ spliced (16 * l.p.place) (part_rows l.p.line l.o l.t l.e v l.p.channel (l.i - l.p.place)) l.initial.places
