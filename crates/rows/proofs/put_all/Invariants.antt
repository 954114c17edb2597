-- What the loop of `rows::put_all` keeps.
use Rattle.std.proofs.Common.{◌≡◌}
use Rattle.rules.specs.TraceRows.{traces_above}
use Rattle.lines.specs.Reading.{sheet_of}
use Rattle.rows.specs.Filled.{filled, places_to}
use Rattle.rows.proofs.put_all.Given as goal

abbrev pub invariant-loop-k : goal.invariant-loop-k
invariant-loop-k l = record {
  above : l.above ≡ traces_above (sheet_of l.w.how l.x) l.k;
  places : l.places
      ≡ filled (sheet_of l.w.how l.r) (sheet_of l.w.how l.x) l.w.first
      (places_to (sheet_of l.w.how l.x) l.w.first l.k l.initial.places) l.initial.places;
}
