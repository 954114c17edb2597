-- What `cases::one` leaves to show.
use Rattle.std.proofs.Common.{sym, ℕ}
use Rattle.std.proofs.lemmas.List.{length-replicate}
use Rattle.cases.proofs.one.Goals as goal

pub slice_bounds-said-end : goal.slice_bounds-said-end
slice_bounds-said-end g c = sym (length-replicate {A = ℕ} 820082 0)
