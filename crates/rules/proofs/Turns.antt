-- Turns that each put one place of a slice: first over how a place is put, then for numbers and for bytes.
--   begun, one_more   = no turn yet; one more
--   kept              = the length stays where each turn keeps it
--   turns_as          = turns that put the same are the same
--   turns_at, turns_after = what stands at a place that is put, and after them
--   bytes_after       = the same of a byte slice
--   bytes_numbers     = a byte slice, read as numbers, is the slice of numbers
use Prim.Native.Nat.{ℕ, zero, suc, ◌+◌, ◌*◌, ◌/◌, ◌%◌, ◌≤◌, ◌<◌}
use native.Mathlib.Nat.{not-suc-le-zero}
use native.Mathlib.Numerals.{add-one}
use native.Mathlib.Omega.{arith}
use mathlib.Core.Path.{◌≡◌, refl, sym, ap, ◌∙◌}
use mathlib.Core.List.{List, [], ◌∷◌}
use lib.ListN.{length, get_or, set, length-set}
use lib.Seq.{get_or-set_same, get_or-set_other}
use Rattle.rules.specs.Spread.{turns, place, byte_place}
use Rattle.rules.specs.Hosts.{numbers_of}
use Rattle.rules.proofs.Tests.{more}

module _ (put : ℕ → List ℕ → List ℕ) where
  pub begun : (d : List ℕ) → d ≡ turns put 0 d
  unfolding turns
  begun d = refl

  pub one_more : (n : ℕ) (d l : List ℕ) → l ≡ turns put n d → put n l ≡ turns put (n + 1) d
  unfolding turns
  one_more n d l e = rw (add-one, e)

  pub kept : ((i : ℕ) (l : List ℕ) → length (put i l) ≡ length l) → (n : ℕ) (d : List ℕ) → length (turns put n d) ≡ length d
  unfolding turns
  kept h zero d = refl
  kept h (suc n) d = h n (turns put n d) ∙ kept h n d

pub turns_as : (put put' : ℕ → List ℕ → List ℕ) (n : ℕ) (d : List ℕ) → ((i : ℕ) → i < n → (l : List ℕ) → put i l ≡ put' i l)
    → turns put n d ≡ turns put' n d
unfolding turns
turns_as put put' zero d f = refl
turns_as put put' (suc n) d f =
    f n (omega arith) (turns put n d) ∙ ap (put' n) (turns_as put put' n d (λ i h. f i (omega arith)))

-- a slice of numbers
pub turns_length : (g : ℕ → ℕ) (n : ℕ) (d : List ℕ) → length (turns (place g) n d) ≡ length d
turns_length g = kept (place g) (λ i l. length-set l i (g (i + 1)))

pub turns_after : (g : ℕ → ℕ) (n : ℕ) (d : List ℕ) (c : ℕ) → n ≤ c → get_or (turns (place g) n d) c 0 ≡ get_or d c 0
unfolding turns
turns_after g zero d c h = refl
turns_after g (suc n) d c h =
    let ne : c ≡ n → ⊥ = λ e. omega arith in
    get_or-set_other (turns (place g) n d) n c (g (n + 1)) 0 ne ∙ turns_after g n d c (omega arith)

pub turns_at : (g : ℕ → ℕ) (n : ℕ) (d : List ℕ) (c : ℕ) → n ≤ length d → c < n → get_or (turns (place g) n d) c 0 ≡ g (c + 1)
unfolding turns
turns_at g zero d c l h = absurd (not-suc-le-zero h)
turns_at g (suc n) d c l h =
    let e = turns_length g n d in
    more h
    (λ h.
    let ne : c ≡ n → ⊥ = λ e. omega arith in
    get_or-set_other (turns (place g) n d) n c (g (n + 1)) 0 ne ∙ turns_at g n d c (omega arith) h)
    (λ q.
    ap (λ (i : ℕ). get_or (set (turns (place g) n d) n (g (n + 1))) i 0) q
    ∙ get_or-set_same (turns (place g) n d) n (g (n + 1)) 0 (omega arith) ∙ ap (λ (i : ℕ). g (i + 1)) (sym q))

-- a slice of bytes
pub bytes_length : (g : ℕ → ℕ) (n : ℕ) (d : List ℕ) → length (turns (byte_place g) n d) ≡ length d
bytes_length g = kept (byte_place g) (λ i l. simp length-set)

pub bytes_after : (g : ℕ → ℕ) (n : ℕ) (d : List ℕ) (c : ℕ) → 2 * n ≤ c → get_or (turns (byte_place g) n d) c 0 ≡ get_or d c 0
unfolding turns
bytes_after g zero d c h = refl
bytes_after g (suc n) d c h =
    let low : c ≡ 2 * n → ⊥ = λ e. omega arith in
    let high : c ≡ 2 * n + 1 → ⊥ = λ e. omega arith in
    let l = turns (byte_place g) n d in
    get_or-set_other (set l (2 * n) (g (n + 1) % 256)) (2 * n + 1) c (g (n + 1) / 256) 0 high
    ∙ get_or-set_other l (2 * n) c (g (n + 1) % 256) 0 low ∙ bytes_after g n d c (omega arith)

-- twice, a pair of bytes at a time
abbrev twice : ℕ → ℕ
twice zero = 0
twice (suc i) = suc (suc (twice i))

twice_is : (i : ℕ) → twice i ≡ 2 * i
twice_is zero = refl
twice_is (suc i) = let h = twice_is i in omega arith

pair : (d : List ℕ) (i lo hi : ℕ) → suc (twice i) < length d
    → numbers_of (set (set d (twice i) lo) (suc (twice i)) hi) ≡ set (numbers_of d) i (lo + 256 * hi)
unfolding numbers_of
pair [] i lo hi h = absurd (omega arith)
pair (a ∷ []) zero lo hi h = absurd (omega arith)
pair (a ∷ []) (suc i) lo hi h = absurd (omega arith)
pair (a ∷ (b ∷ d)) zero lo hi h = refl
pair (a ∷ (b ∷ d)) (suc i) lo hi h = ap (λ (l : List ℕ). (a + 256 * b) ∷ l) (pair d i lo hi (omega arith))

one_place : (g : ℕ → ℕ) (i : ℕ) (d : List ℕ) → 2 * i + 1 < length d → numbers_of (byte_place g i d) ≡ place g i (numbers_of d)
one_place g i d h =
    let e = twice_is i in
    let o : 2 * i + 1 ≡ suc (twice i) = omega arith in
    let v : g (i + 1) % 256 + 256 * (g (i + 1) / 256) ≡ g (i + 1) = omega arith in
    rw (o, ← e, pair d i (g (i + 1) % 256) (g (i + 1) / 256) (omega arith), v)

pub bytes_numbers : (g : ℕ → ℕ) (n : ℕ) (d : List ℕ) → 2 * n ≤ length d
    → numbers_of (turns (byte_place g) n d) ≡ turns (place g) n (numbers_of d)
unfolding turns
bytes_numbers g zero d h = refl
bytes_numbers g (suc n) d h =
    let l = bytes_length g n d in
    one_place g n (turns (byte_place g) n d) (omega arith)
    ∙ ap (λ (m : List ℕ). place g n m) (bytes_numbers g n d (omega arith))

pub numbers_length : (d : List ℕ) → length (numbers_of d) ≡ length d / 2
unfolding numbers_of
numbers_length [] = refl
numbers_length (a ∷ []) = refl
numbers_length (a ∷ (b ∷ d)) = let e = numbers_length d in omega arith
