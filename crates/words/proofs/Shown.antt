-- The paper's own lines, from the definitions.
use mathlib.Core.Path.{◌≡◌, refl}
use mathlib.Core.List.{[], ◌∷◌, ◌++◌}
use Rattle.rules.specs.Places.{pick}
use Rattle.rules.specs.Text.{bytes}
use Rattle.rules.specs.Lines.{letter}
use Rattle.rules.specs.Plan.{№, file_r, file_x}
use Rattle.rules.specs.Check.{accepted, refusal}
use Rattle.rules.specs.Figures.{figures, decimal_of}
use Rattle.words.specs.Words.{row, values, line, no_file, too_long}

pub set_a : line (accepted 3 1 1 3 0) ≡ bytes "ACCEPTED 3 1 1 3 0" ++ (10 ∷ [])
unfolding line row values decimal_of figures bytes pick
set_a = refl

pub headers_only : line (accepted 0 0 0 0 0) ≡ bytes "ACCEPTED 0 0 0 0 0" ++ (10 ∷ [])
unfolding line row values decimal_of figures bytes pick
headers_only = refl

pub four_channels : line (refusal (№ 6 file_x 25 72)) ≡ bytes "REFUSED 6 X 25 72" ++ (10 ∷ [])
unfolding line row values decimal_of figures bytes letter pick
four_channels = refl

pub too_many_lines : line (refusal (№ 2 file_r 10000 0)) ≡ bytes "REFUSED 2 R 10000 0" ++ (10 ∷ [])
unfolding line row values decimal_of figures bytes letter pick
too_many_lines = refl

pub no_file_r : no_file file_r ≡ bytes "NO FILE R" ++ (10 ∷ [])
unfolding no_file bytes letter pick
no_file_r = refl

pub too_long_r : too_long file_r ≡ bytes "TOO LONG R" ++ (10 ∷ [])
unfolding too_long bytes letter pick
too_long_r = refl
