-- What `tables::line_naming` leaves to show.
use native.Mathlib.Omega.{arith}
use lib.Dec.{lit≤}
use Rattle.tables.proofs.Asked.{is_kind, one_long, two_long, of_instruments, of_points_lem, naming_instrument, naming_point}
use Rattle.tables.proofs.line_naming.Goals as goal

pub bounds-code-0 : goal.bounds-code-0
bounds-code-0 c = let e = one_long _ _ c.requires.1.1 c.if-i-eq3.true in
    omega arith

pub line_naming-requires : goal.line_naming-requires
line_naming-requires c = (c.requires.0, ((lit≤ tt, lit≤ tt), of_instruments _ _ c.requires.1.1 c.if-i-eq3.true))

pub returns-then-i-eq3-clause-value : goal.returns-then-i-eq3-clause-value
returns-then-i-eq3-clause-value c =
    let z = c.if-i-eq3.true in
    naming_instrument _ _ z (one_long _ _ c.requires.1.1 z) _ _ c.line_naming.ensures.value

pub bounds-code-0-2 : goal.bounds-code-0-2
bounds-code-0-2 c = let e = two_long _ _ c.requires.1.1 c.if-i-eq3.false in
    omega arith

pub bounds-code-1 : goal.bounds-code-1
bounds-code-1 c = let e = two_long _ _ c.requires.1.1 c.if-i-eq3.false in
    omega arith

pub line_naming-requires-2 : goal.line_naming-requires-2
line_naming-requires-2 c = (c.requires.0, ((is_kind _ _ c.requires.1.1, c.requires.1.0), of_points_lem _ _ c.requires.1.1 c.if-i-eq3.false))

pub returns-clause-value : goal.returns-clause-value
returns-clause-value c =
    let z = c.if-i-eq3.false in
    naming_point _ _ z (two_long _ _ c.requires.1.1 z) _ _ c.line_naming-2.ensures.value
