-- What the loop of `spread::fill` keeps.
use Rattle.std.proofs.Common.{◌≡◌, length}
use Rattle.rules.specs.Spread.{place}
use Rattle.lines.specs.Reading.{sheet_of}
use Rattle.spread.specs.Taken.{here_up_to, taken, line_at, component_at}
use Rattle.spread.proofs.fill.Given as goal

abbrev pub invariant-loop-k : goal.invariant-loop-k
invariant-loop-k g l = record {
  lines : g.P.Places.held l.lines
      ≡ taken g.P.Places.puts (here_up_to (sheet_of l.fn.how l.fn.x) l.fn.tape l.fn.«record» l.k)
      (line_at (sheet_of l.fn.how l.fn.r) (sheet_of l.fn.how l.fn.x) l.fn.tape l.fn.«record»)
      (g.P.Places.room (g.P.Places.held l.initial.lines)) (g.P.Places.held l.initial.lines);
  components : l.components
      ≡ taken place (here_up_to (sheet_of l.fn.how l.fn.x) l.fn.tape l.fn.«record» l.k)
      (component_at (sheet_of l.fn.how l.fn.x) l.fn.tape l.fn.«record») (length l.initial.components) l.initial.components;
}
