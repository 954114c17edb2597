-- What the loop of `spread::put` keeps.
use Rattle.std.proofs.Common.{◌≡◌, length}
use Rattle.rules.specs.Cover.{component}
use Rattle.rules.specs.Relations.{reach_at}
use Rattle.rules.specs.Spread.{place}
use Rattle.lines.specs.Reading.{sheet_of}
use Rattle.spread.specs.Taken.{between, taken, line_in}
use Rattle.spread.proofs.Reached.{Walk}
use Rattle.spread.proofs.put.Given as goal

abbrev pub invariant-loop-c : goal.invariant-loop-c
invariant-loop-c g l = record {
  walk : Walk (sheet_of l.fn.how l.r) (sheet_of l.fn.how l.x) l.k l.q l.o l.e l.end
      (g.P.Places.room (g.P.Places.held l.initial.lines)) (length l.initial.components);
  lines : g.P.Places.held l.lines
      ≡ taken g.P.Places.puts (between l.q.from l.c) (line_in (sheet_of l.fn.how l.r) (sheet_of l.fn.how l.x) l.k)
      (g.P.Places.room (g.P.Places.held l.initial.lines)) (g.P.Places.held l.initial.lines);
  components : l.components
      ≡ taken place (between l.q.from l.c) (component (reach_at (sheet_of l.fn.how l.x) l.k)) (length l.initial.components) l.initial.components;
}
