-- What the rules say of a signed number, by its sign and its size.
use Prim.Native.Nat.{ℕ}
use native.Mathlib.Omega.{arith}
use mathlib.Core.Path.{◌≡◌, refl}
use mathlib.Core.Bool.{Bool, true, false, not, ◌&&◌, ◌||◌}
use mathlib.Core.List.{List, ◌++◌}
use lib.Dec.{leb}
use lib.IntN.{ℤ, pos, negsuc}
use mir.ValLaws.{to_z-of_z}
use borrow.Author.Tests.{le-ltb}
use Rattle.std.specs.Prelude.{unsigned_abs}
use Rattle.std.specs.Int.{is_negative}
use Rattle.rules.specs.Spelled.{by_sign, up_from, from_to, of_natural}
use Rattle.writer.specs.Texts.{sign_of}

from_0 : (n : ℕ) → is_negative (pos n) ≡ false
from_0 n = le-ltb n 0 (omega arith)

pub up_from_is : (a b : ℕ) (z : ℤ) → up_from a b z ≡ (not (is_negative z) && (leb a (unsigned_abs z) && leb (unsigned_abs z) b))
unfolding up_from
up_from_is a b (pos n) = rw (from_0 n)
up_from_is a b (negsuc n) = refl

pub from_to_is : (a b : ℕ) (z : ℤ) → from_to a b z
    ≡ ((is_negative z && leb (unsigned_abs z) a) || (not (is_negative z) && leb (unsigned_abs z) b))
unfolding from_to
from_to_is a b (pos n) = rw (from_0 n)
from_to_is a b (negsuc n) = go (leb (unsigned_abs (negsuc n)) a)
  where
    go : (t : Bool) → t ≡ ((true && t) || (false && leb (unsigned_abs (negsuc n)) b))
    go true = refl
    go false = refl

pub of_natural_is : (p : ℕ → Bool) (z : ℤ) → of_natural p z ≡ (not (is_negative z) && p (unsigned_abs z))
unfolding of_natural
of_natural_is p (pos n) = rw (from_0 n)
of_natural_is p (negsuc n) = refl

pub by_sign_is : (f : ℕ → List ℕ) (z : ℤ) → by_sign f z ≡ sign_of (is_negative z) ++ f (unsigned_abs z)
unfolding by_sign
by_sign_is f (pos n) = rw (from_0 n)
by_sign_is f (negsuc n) = refl

pub ruleset signs = (to_z-of_z, up_from_is, from_to_is, of_natural_is)
