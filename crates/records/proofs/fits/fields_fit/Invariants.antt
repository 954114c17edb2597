-- What the loop of `records::fits::fields_fit` keeps.
use Rattle.std.proofs.Common.{◌≡◌, drop}
use Rattle.rules.specs.Plan.{run}
use Rattle.rules.specs.Form.{fields_fit}
use Rattle.records.specs.Coded.{rows_of}
use Rattle.records.proofs.fits.fields_fit.Given as goal

abbrev pub invariant-loop-j : goal.invariant-loop-j
invariant-loop-j l = run (fields_fit l.i l.k l.marker l.l (drop l.j (rows_of l.t))) ≡ run (fields_fit l.i l.k l.marker l.l (rows_of l.t))
