-- What stands last before a line, taken line by line.
--   last_is                = what is asked of the last one, asked of its value, where none passes
--   last_below             = the last point before a line stands above it
--   last_here, last_other  = the last point before the next line
use Prim.Native.Nat.{ℕ, zero, suc, ◌+◌, ◌<◌}
use native.Mathlib.Numerals.{add-one}
use native.Mathlib.Omega.{arith}
use mathlib.Core.Path.{◌≡◌, refl, sym}
use mathlib.Core.Bool.{Bool, true, false}
use Rattle.std.specs.Prelude.{Option, Some, None, IfSome}
use Rattle.rules.specs.Places.{pick, of_last}
use Rattle.rules.specs.Sheet.{Sheet}
use Rattle.rules.specs.Lines.{is_point}
use Rattle.points.specs.Last.{last_of, last_point}

pub last_is : (here p : ℕ → Bool) (value : ℕ → ℕ) (test : Option ℕ → Bool) → test None ≡ true → (k : ℕ)
    → ((j : ℕ) → j < k → here j ≡ true → test (Some (value j)) ≡ p j) → of_last here p k ≡ test (last_of here value k)
unfolding of_last last_of pick
last_is here p value test z zero f = sym z
last_is here p value test z (suc k) f =
    go (here k) refl (last_is here p value test z k (λ j h e. f j (omega arith) e))
  where
    go : (t : Bool) → here k ≡ t → of_last here p k ≡ test (last_of here value k)
        → pick t (p k) (of_last here p k) ≡ test (pick t (Some (value k)) (last_of here value k))
    go true e g = sym (f k (omega arith) e)
    go false e g = g

module _ (here : ℕ → Bool) (value : ℕ → ℕ) (k : ℕ) where
  pub last_on : here k ≡ true → last_of here value (k + 1) ≡ Some (value k)
  unfolding last_of pick
  last_on e = rw (add-one k) (rw e)

  pub last_off : here k ≡ false → last_of here value (k + 1) ≡ last_of here value k
  unfolding last_of pick
  last_off e = rw (add-one k) (rw e)

pub none_before : (f : Sheet) → last_point f 0 ≡ None
unfolding last_point last_of
none_before f = refl

pub last_below : (f : Sheet) (k : ℕ) → IfSome (last_point f k) (λ j. j < k)
unfolding last_point last_of pick
last_below f zero = tt
last_below f (suc k) = go (is_point f k) (last_of (is_point f) (λ j. j) k) (last_below f k)
  where
    go : (t : Bool) (o : Option ℕ) → IfSome o (λ j. j < k) → IfSome (pick t (Some k) o) (λ j. j < suc k)
    go true o l = omega arith
    go false None l = tt
    go false (Some j) l = omega arith

module _ (f : Sheet) (k : ℕ) where
  pub last_here : is_point f k ≡ true → last_point f (k + 1) ≡ Some k
  unfolding last_point
  last_here y = last_on (is_point f) (λ j. j) k y

  pub last_other : is_point f k ≡ false → last_point f (k + 1) ≡ last_point f k
  unfolding last_point
  last_other y = last_off (is_point f) (λ j. j) k y
