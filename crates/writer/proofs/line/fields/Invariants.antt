-- What the loop of `writer::line::fields` keeps.
use Rattle.std.proofs.Common.{◌≡◌, take, drop}
use Rattle.rules.specs.Writer.{joined, writable}
use Rattle.records.specs.Coded.{rows_of}
use Rattle.texts.specs.Buffer.{Adds}
use Rattle.writer.specs.Coded.{values_of}
use Rattle.writer.specs.Columns.{columns_to}
use Rattle.writer.proofs.line.fields.Given as goal

abbrev pub invariant-loop-j : goal.invariant-loop-j
invariant-loop-j l = record {
  rest : writable (drop l.j (rows_of l.t)) (drop l.j (values_of (rows_of l.t) l.vs)) ≡ writable (rows_of l.t) (values_of (rows_of l.t) l.vs);
  put : Adds l.initial.line 1 (joined (take l.j (rows_of l.t)) (take l.j (values_of (rows_of l.t) l.vs))) l.line (columns_to (take l.j (rows_of l.t)));
}
