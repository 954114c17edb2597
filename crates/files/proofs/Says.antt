-- What is said in a lent buffer, and the first that says something.
--   Says f o o' n = o' is o with f in its first places, and n the length of f
use mathlib.Core.Path.{◌≡◌, ap, ◌∙◌}
use mathlib.Core.List.{List, [], ◌∷◌}
use Prim.Native.Nat.{ℕ, zero-le}
use native.Mathlib.Omega.{arith}
use lib.ListN.{length}
use borrow.Author.Tests.{le-leb}
use Rattle.rules.specs.Places.{pick}
use Rattle.rules.specs.Disc.{file}
use Rattle.rules.specs.Check.{cross}
use Rattle.sets.specs.Paper.{Answer, paper}
use Rattle.words.specs.Words.{line}
use Rattle.texts.specs.Buffer.{over}
use Rattle.files.specs.Report.{◌or_else◌}

pub record Says (f o o' : List ℕ) (n : ℕ) : Type 0 where
  pub value : n ≡ length f
  pub written : o' ≡ over f o

-- the clauses of a call that says something
pub says : {f o o' : List ℕ} {n : ℕ} → n ≡ length f → o' ≡ over f o → Says f o o' n
says e w = record { value = e; written = w }

pub over_none : (o : List ℕ) → over [] o ≡ o
unfolding over pick
over_none o = rw (le-leb 0 (length o) zero-le)

pub says_first : (f g : List ℕ) {o o' : List ℕ} {n : ℕ} → Says f o o' n → (n ≡ 0 → ⊥) → Says (f or_else g) o o' n
unfolding ◌or_else◌
says_first [] g e h = absurd (h e.value)
says_first (b ∷ f) g e h = e

pub says_next : (f : List ℕ) {g o o' o'' : List ℕ} {m n : ℕ} → Says f o o' m → m ≡ 0 → Says g o' o'' n → Says (f or_else g) o o'' n
unfolding ◌or_else◌
says_next [] {g} {o} e z s = record { value = s.value; written = s.written ∙ ap (over g) (e.written ∙ over_none o) }
says_next (b ∷ f) e z s = absurd (omega (arith, e.value))

pub says_verdict : (v : Answer) (p q t p' q' t' o o' : List ℕ) (n : ℕ) → paper v ≡ cross (file p) (file q) (file t) → p ≡ p' → q ≡ q' → t ≡ t'
    → Says (line (paper v)) o o' n → Says (line (cross (file p') (file q') (file t'))) o o' n
says_verdict v p q t p' q' t' o o' n e a b d s = rw (← a, ← b, ← d, ← e) s
