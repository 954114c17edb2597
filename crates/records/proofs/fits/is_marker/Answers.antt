-- What `records::fits::is_marker` leaves to show.
use Prim.Native.Nat.{ℕ}
use Rattle.fields.proofs.Codes.{two_columns}
use Rattle.rules.specs.Layout.{at, sps93}
use Rattle.rules.specs.Lines.{is_marker}
use Rattle.rules.specs.Text.{bytes, same}
use lib.Dec.{lit≤}
use mathlib.Core.List.{List}
use mathlib.Core.Path.{◌∙◌, ap, sym}
use Rattle.records.proofs.fits.is_marker.Goals as goal

pub returns : goal.returns
unfolding is_marker at sps93 bytes
returns c = record { value = c.two.ensures.value ∙ ap (λ (bs : List ℕ). same bs (bytes "PM")) (sym (two_columns c.args.l.now 27 (lit≤ tt))) }
