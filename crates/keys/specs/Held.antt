-- What the rules over the set know of the files when they look at a line.
--   RelationLine x k   = line k of X is a relation line
--   shot_fits s k       = 11, then 12
--   KnownReceivers r   = R is well formed, and 10 is met
--   KnownShots s       = S is well formed, and 11 and 12 are met
use Rattle.std.specs.Prelude.{ℕ, ◌<◌, ◌≡◌, true}
use Rattle.rules.specs.Plan.{Plan, fine, ◌before◌, up_to, run}
use Rattle.rules.specs.Sheet.{Sheet}
use Rattle.rules.specs.Lines.{is_data}
use Rattle.rules.specs.Order.{rule10, rule11, rule12}
use Rattle.form.specs.Known.{Known}

abbrev pub RelationLine : Sheet → ℕ → Type 0
RelationLine x k = (k < x.count) × (is_data x k ≡ true)

abbrev pub shot_fits : Sheet → ℕ → Plan
shot_fits s k = rule11 s k before rule12 s k

abbrev pub KnownReceivers : Sheet → Type 0
KnownReceivers r = Known 1 r × (fine ≡ run (up_to r.count (rule10 r)))

abbrev pub KnownShots : Sheet → Type 0
KnownShots s = Known 2 s × (fine ≡ run (up_to s.count (shot_fits s)))
