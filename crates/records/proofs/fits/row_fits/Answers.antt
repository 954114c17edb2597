-- What `records::fits::row_fits` leaves to show.
use Rattle.fields.proofs.Widths.{sized_is}
use Rattle.records.proofs.fits.row_fits.Goals as goal

pub blank-requires : goal.blank-requires
blank-requires c = let h = sized_is _ _ _ c.requires in (h.0, h.1.1.0)

pub fits-requires : goal.fits-requires
fits-requires c = sized_is _ _ _ c.requires
