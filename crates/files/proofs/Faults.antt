-- "The first in the order R, S, X counts", whatever the files after it are; where all can be used, the verdict counts.
use Rattle.std.proofs.Common.{◌≡◌, ℕ, List, Ok, Err, refl, take}
use Rattle.rules.specs.Plan.{file_r, file_s, file_x}
use Rattle.rules.specs.Text.{bytes}
use Rattle.rules.specs.Disc.{file}
use Rattle.rules.specs.Check.{cross}
use Rattle.words.specs.Words.{line, no_file, too_long}
use Rattle.files.specs.declared.input.Unusable.{Unusable}
use Rattle.files.specs.declared.input.Unusable.TheVariants.{Missing, Longer}
use Rattle.files.specs.Reads.{Input}
use Rattle.files.specs.Report.{fault, ◌or_else◌, report}

pub r_first : (r s x : List ℕ) (j k : Input) (e : Unusable) → report (Err e) r j s k x ≡ fault file_r (Err e)
unfolding report fault no_file too_long bytes ◌or_else◌
r_first r s x j k Missing = refl
r_first r s x j k Longer = refl

pub s_first : (r s x : List ℕ) (k : Input) (n : ℕ) (e : Unusable) → report (Ok n) r (Err e) s k x ≡ fault file_s (Err e)
unfolding report fault no_file too_long bytes ◌or_else◌
s_first r s x k n Missing = refl
s_first r s x k n Longer = refl

pub x_first : (r s x : List ℕ) (n m : ℕ) (e : Unusable) → report (Ok n) r (Ok m) s (Err e) x ≡ fault file_x (Err e)
unfolding report fault no_file too_long bytes ◌or_else◌
x_first r s x n m Missing = refl
x_first r s x n m Longer = refl

pub all_usable : (r s x : List ℕ) (n m l : ℕ) → report (Ok n) r (Ok m) s (Ok l) x ≡ line (cross (file (take n r)) (file (take m s)) (file (take l x)))
unfolding report fault ◌or_else◌
all_usable r s x n m l = refl
