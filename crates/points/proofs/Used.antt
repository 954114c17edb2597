-- What the functions of this crate are proved by, beside the words of its specs.
use Rattle.std.proofs.lemmas.Bool.Decides.{nat_tests}
use Rattle.rules.proofs.Plans.{plans}
use Rattle.lines.proofs.Sheets.{layout_is}
use Rattle.keys.proofs.Lines.{takes_point}
use Rattle.points.proofs.Above.{ten_above, ten_broken}
use Rattle.points.proofs.Stamps.{stamp_is, eleven_fine, eleven_broken}
use Rattle.points.proofs.Again.{twelve_fine, twelve_broken}

pub ruleset used = (nat_tests, plans, layout_is, takes_point, ten_above, ten_broken, stamp_is, eleven_fine, eleven_broken, twelve_fine, twelve_broken)
