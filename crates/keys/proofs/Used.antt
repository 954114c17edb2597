-- What the functions of this crate are proved by, beside the words of its specs.
use Rattle.std.proofs.lemmas.Bool.Decides.{nat_tests}
use Rattle.keys.proofs.Columns.{columns}
use Rattle.keys.proofs.Letters.{header_here, marker_here, no_marker_here, killed_own, not_killed_own}
use Rattle.keys.proofs.Lines.{key_here, takes_line_lem, takes_beyond}

pub ruleset used = (nat_tests, columns, header_here, marker_here, no_marker_here, killed_own, not_killed_own, key_here, takes_line_lem, takes_beyond)
