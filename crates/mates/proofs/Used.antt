-- What the functions of this crate are proved by, beside the words of its specs.
use Rattle.std.proofs.lemmas.Bool.Decides.{nat_tests}
use Rattle.rules.proofs.Plans.{plans}
use Rattle.lines.proofs.Sheets.{layout_is}
use Rattle.mates.proofs.Alike.{sets_alike, shots_alike, from_here, upto_here}
use Rattle.mates.proofs.Mates.{first_alone, goes_is, line_before, some_before}
use Rattle.mates.proofs.Sixteen.{sixteen_fine, sixteen_changed, sixteen_apart, sixteen_new, seventeen_fine, seventeen_broken, seventeen_other}

pub ruleset used = (
  nat_tests,
  plans,
  layout_is,
  sets_alike,
  shots_alike,
  from_here,
  upto_here,
  first_alone,
  goes_is,
  line_before,
  some_before,
  sixteen_fine,
  sixteen_changed,
  sixteen_apart,
  sixteen_new,
  seventeen_fine,
  seventeen_broken,
  seventeen_other,
)
