-- Slices that are cleared.
--   cleared       = zeros at the first places of a slice of numbers
--   bytes_cleared = of a slice of bytes, two zeros a place
use Rattle.std.proofs.Common.{ℕ, zero, suc, ◌+◌, ◌*◌, ◌≤◌, ◌≡◌, refl, sym, ap, ap₂, ◌∙◌, List, ◌++◌, length, take, drop, arith, add-one}
use lib.ListN.{set, replicate}
use lib.Seq.{length-take-le}
use Rattle.std.proofs.lemmas.List.Edits.{fill_more}
use Rattle.rules.specs.Spread.{turns, place, byte_place, Put}

zeros : (h : ℕ) (d : List ℕ) → h ≤ length d → replicate h 0 ++ drop h d ≡ turns (place (λ _. 0)) h d
unfolding turns
zeros zero d g = refl
zeros (suc h) d g =
    rw add-one at (sym (fill_more h 0 d (omega arith))) ∙ ap (λ (l : List ℕ). set l h 0) (zeros h d (omega arith))

pub cleared : (h : ℕ) (d l : List ℕ) → h ≤ length d → l ≡ replicate (length (take h d)) 0 → l ++ drop h d ≡ turns (place (λ _. 0)) h d
cleared h d l g e = rw e (rw (length-take-le h d g) (zeros h d g))

double_cleared : (h : ℕ) (d : List ℕ) → turns (place (λ _. 0)) (2 * h) d ≡ turns (byte_place (λ _. 0)) h d
unfolding turns
double_cleared zero d = refl
double_cleared (suc h) d =
    let z : 2 * suc h ≡ suc (suc (2 * h)) = omega arith in
    let y : suc (2 * h) ≡ 2 * h + 1 = omega arith in
    ap (λ (m : ℕ). turns (place (λ _. 0)) m d) z
    ∙ ap₂ (λ (l : List ℕ) (m : ℕ). set (set l (2 * h) 0) m 0) (double_cleared h d) y

pub bytes_cleared : (h : ℕ) (d l : List ℕ) → 2 * h ≤ length d → l ≡ replicate (length (take (2 * h) d)) 0
    → l ++ drop (2 * h) d ≡ turns (byte_place (λ _. 0)) h d
bytes_cleared h d l g e = cleared (2 * h) d l g e ∙ double_cleared h d

-- turns of a put keep how many places there are
pub turns_room : (put : Put) (room : List ℕ → ℕ) → ((v : ℕ → ℕ) (i : ℕ) (l : List ℕ) → room (put v i l) ≡ room l)
    → (v : ℕ → ℕ) (n : ℕ) (d : List ℕ) → room (turns (put v) n d) ≡ room d
unfolding turns
turns_room put room size v zero d = refl
turns_room put room size v (suc n) d = size v n (turns (put v) n d) ∙ turns_room put room size v n d
