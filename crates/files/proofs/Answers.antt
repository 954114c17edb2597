-- What follows on an answer of read, and that no more comes than a call has read.
use Rattle.std.specs.Prelude.{ℕ, zero, suc, ◌≤◌, ◌≡◌, Bool, true, false, leb, Option, None, Some, IfSome, Result, Ok, Err, List, length}
use Rattle.std.specs.Result.{result_ok}
use Rattle.std.specs.Io.{ReadsAtMost}
use Rattle.std.proofs.Common.{refl, ◌<◌, sym, ◌∙◌, arith}
use mathlib.Core.Path.{subst}
use Prim.Native.Nat.{zero-le}
use borrow.Author.Tests.{le-leb, lt-leb, leb-true}
use Rattle.rules.specs.Places.{pick}
use Rattle.files.specs.declared.input.Unusable.TheVariants.{Missing, Longer}
use Rattle.files.specs.Reads.{Step, next, came, Follows}

pub failed : (room : ℕ) → Err Missing ≡ next None room
unfolding next
failed room = refl

pub ended : (m room : ℕ) → m ≡ 0 → Ok None ≡ next (Some m) room
unfolding next
ended zero room h = refl
ended (suc m) room h = absurd (omega arith)

pub went_over : (m room : ℕ) → (m ≡ 0 → ⊥) → room < m → Err Longer ≡ next (Some m) room
unfolding next pick
went_over zero room h o = absurd (h refl)
went_over (suc m) room h o = rw (lt-leb (suc m) room o)

pub came_in : (m room : ℕ) → (m ≡ 0 → ⊥) → m ≤ room → Ok (Some m) ≡ next (Some m) room
unfolding next pick
came_in zero room h o = absurd (h refl)
came_in (suc m) room h o = rw (le-leb (suc m) room o)

-- no more comes than was read
picked_within : (t : Bool) (m k : ℕ) → m ≤ k → came (pick t (Ok (Some m)) (Err Longer)) ≤ k
unfolding pick
picked_within true m k h = h
picked_within false m k h = zero-le

pub within : (z : Option ℕ) (room k : ℕ) → IfSome z (λ m. m ≤ k) → came (next z room) ≤ k
unfolding next
within None room k h = zero-le
within (Some zero) room k h = zero-le
within (Some (suc m)) room k h = picked_within (leb (suc m) room) (suc m) k h

-- the same of what a call of read answers
read_within : {E : Type 0} (r : Result ℕ E) (xs : List ℕ) → ReadsAtMost r xs → IfSome (result_ok r) (λ m. m ≤ length xs)
read_within (Ok m) xs b = b.0
read_within (Err e) xs b = tt

pub came_within : {E : Type 0} (r : Result ℕ E) (xs : List ℕ) (room : ℕ) (t : Step) (z : Option ℕ) → ReadsAtMost r xs → z ≡ result_ok r → t ≡ next z room
    → came t ≤ length xs
came_within r xs room t z b e f = rw (f, e) (within (result_ok r) room (length xs) (read_within r xs b))

pub came_read :
    {E : Type 0} (r : Result ℕ E) (xs : List ℕ) (room : ℕ) (t : Step) (z : Option ℕ) (m : ℕ) → ReadsAtMost r xs → z ≡ result_ok r
    → t ≡ next z room → m ≡ came t → m ≤ length xs
came_read r xs room t z m b e f g = rw g (came_within r xs room t z b e f)

-- what is known of a file where no more bytes come: it cannot be read, it is longer, or it has ended
picked_known : (P : Step → Type 0) (t : Bool) (m : ℕ) (s : Step) → P (Err Longer) → ◌≡◌ {A = Step} (pick t (Ok (Some m)) (Err Longer)) s
    → ((j : ℕ) → s ≡ Ok (Some j) → ⊥) → P s
unfolding pick
picked_known P true m s q e k = absurd (k m (sym e))
picked_known P false m s q e k = subst P e q

pub known_all : (P : Step → Type 0) (z : Option ℕ) (room : ℕ) (s : Step) → P (Err Missing) → P (Err Longer) → P (Ok None) → next z room ≡ s
    → ((j : ℕ) → s ≡ Ok (Some j) → ⊥) → P s
unfolding next
known_all P None room s p q r e k = subst P e p
known_all P (Some zero) room s p q r e k = subst P e r
known_all P (Some (suc m)) room s p q r e k = picked_known P (leb (suc m) room) (suc m) s q e k

-- what came is something, and has room
picked_came : (t : Bool) (k room m : ℕ) → (t ≡ true → suc k ≤ room) → ◌≡◌ {A = Step} (pick t (Ok (Some (suc k))) (Err Longer)) (Ok (Some m))
    → (1 ≤ m) × (m ≤ room)
unfolding pick
picked_came true k room m h e = let q : suc k ≡ m = cc in let g = h refl in (omega arith, omega arith)
picked_came false k room m h e = absurd (cc)

some : (z : Option ℕ) (room m : ℕ) → next z room ≡ Ok (Some m) → (1 ≤ m) × (m ≤ room)
unfolding next
some None room m e = absurd (cc)
some (Some zero) room m e = absurd (cc)
some (Some (suc k)) room m e = picked_came (leb (suc k) room) k room m (leb-true (suc k) room) e

pub came_room : (m room : ℕ) (t : Step) → t ≡ Ok (Some m) → Follows room t → (1 ≤ m) × (m ≤ room)
came_room m room t e f = some f.answer room m (sym f.value ∙ e)
