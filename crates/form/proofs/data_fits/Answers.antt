-- What `form::data_fits` leaves to show.
use mathlib.Core.Path.{sym, ◌∙◌}
use Rattle.rules.proofs.Tests.{clash}
use Rattle.form.proofs.data_fits.Goals as goal

pub line_fits-requires : goal.line_fits-requires
line_fits-requires c = let p = c.requires in
    record {
      k_bound = p.k_bound;
      l_value = (p.l_value.0, λ t. clash (sym p.l_value.1 ∙ t));
    }
