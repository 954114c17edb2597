-- A number's sign and its text, and what stands at the start of a buffer.
--   sign_of t         = the minus, or nothing
--   coordinate_of w t n = tenths with their point, or without it where w columns are too few
--   Starts b t n     = the first n bytes of b are t
--   all_printed bs    = printable bytes alone
--   Narrow w hi lo   = the numbers of a text of w columns have no more bytes than that
use Rattle.std.specs.Prelude.{ℕ, ◌-◌, ◌^◌, ◌≤◌, ◌<◌, ◌≡◌, Bool, true, false, List, [], ◌∷◌, ◌++◌, leb, length, take, get_or}
use Prim.Native.Char.{code as ascii}
use Rattle.rules.specs.Places.{pick, every}
use Rattle.rules.specs.Disc.{printable}
use Rattle.rules.specs.Figures.{decimal_of}
use Rattle.rules.specs.Spelled.{with_point}

abbrev pub sign_of : Bool → List ℕ
sign_of true = ascii "-" ∷ []
sign_of false = []

unfoldable pub coordinate_of : ℕ → Bool → ℕ → List ℕ
coordinate_of w t n =
    let p = sign_of t ++ with_point n in
    let d = sign_of t ++ decimal_of n in
    pick (leb (length p) w) p d

pub record Starts (b t : List ℕ) (n : ℕ) : Type 0 where
  pub ends : n ≡ length t
  pub front : take n b ≡ t

abbrev pub all_printed : List ℕ → Bool
all_printed bs = every (length bs) (λ i. printable (get_or bs i 0))

pub record Narrow (w hi lo : ℕ) : Type 0 where
  pub short : w ≤ 8 → lo < 256 ^ w
  pub long : 8 < w → hi < 256 ^ (w - 8)
