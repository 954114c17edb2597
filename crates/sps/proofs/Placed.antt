-- Numbers in the places of a byte slice, and the steps that put them there.
--   placed_whole, placed_short  = a slice that has the first place whole, and one that has not
--   one_put                     = one number is put
--   from_all                    = no place is put yet
--   place_more, places_put      = one more; all of them
use Prim.Native.Nat.{ℕ, zero, suc, ◌+◌, ◌-◌, ◌*◌, ◌/◌, ◌%◌, ◌^◌, ◌≤◌, ◌<◌}
use native.Mathlib.Nat.{pow-suc}
use native.Mathlib.Numerals.{add-one}
use native.Mathlib.Omega.{arith}
use mathlib.Core.Path.{◌≡◌, refl, sym, ap, ◌∙◌}
use mathlib.Core.Bool.{Bool, true, false}
use mathlib.Core.List.{List, [], ◌∷◌, ◌++◌, append_assoc}
use lib.Dec.{leb}
use lib.ListN.{length, get_or, take, drop, set, length-append, length-drop, take-append-drop}
use lib.Seq.{take-suc-set, drop-set-lt, drop-cons, drop-drop, drop-length, append_snoc, take_at, drop_at, length-take-le}
use Rattle.std.specs.Int.{w64, to_le_bytes, bytes_low_first}
use Rattle.std.proofs.Math.Nat.{div-div-eq-div-mul}
use borrow.Author.Tests.{le-leb, lt-leb, leb-true, leb-false}
use Rattle.rules.specs.Places.{pick}
use Rattle.rules.specs.Hosts.{low_bytes}
use Rattle.sps.specs.Counts.{placed, placed_from}

pub or_less {ℓ} : {A : Type ℓ} (a b : ℕ) → (a ≤ b → A) → (b < a → A) → A
or_less {A = A} a b f g = go (leb a b) refl
  where
    go : (t : Bool) → leb a b ≡ t → A
    go true e = f (leb-true a b e)
    go false e = g (leb-false a b e)

pub low_length : (n v : ℕ) → length (low_bytes n v) ≡ n
unfolding low_bytes
low_length zero v = refl
low_length (suc n) v = ap suc (low_length n (v / 256))

pub placed_whole : (v : ℕ) (vs o : List ℕ) → 8 ≤ length o → placed (v ∷ vs) o ≡ low_bytes 8 v ++ placed vs (drop 8 o)
unfolding placed pick
placed_whole v vs o h = rw (le-leb 8 (length o) h)

pub placed_short : (vs o : List ℕ) → length o < 8 → placed vs o ≡ o
unfolding placed pick
placed_short [] o h = refl
placed_short (v ∷ vs) o h = rw (lt-leb 8 (length o) h)

pub placed_none : (o : List ℕ) → placed [] o ≡ o
unfolding placed
placed_none o = refl

pub placed_length : (vs o : List ℕ) → length (placed vs o) ≡ length o
placed_length [] o = ap length (placed_none o)
placed_length (v ∷ vs) o =
    or_less 8 (length o)
    (λ h.
    ap length (placed_whole v vs o h)
    ∙ simp (length-append, low_length, placed_length vs (drop 8 o), length-drop) (omega arith))
    (λ h. ap length (placed_short (v ∷ vs) o h))

-- the bytes of a number are its low bytes
bytes_from : (k i v : ℕ) → bytes_low_first (suc i) k v ≡ low_bytes k (v / 256 ^ suc i)
unfolding low_bytes
bytes_from zero i v = refl
bytes_from (suc k) i v =
    let e : v / 256 ^ suc i / 256 ≡ v / 256 ^ suc (suc i) = div-div-eq-div-mul v (256 ^ suc i) 256 ∙ ap (λ (m : ℕ). v / m) (sym (pow-suc 256 (suc i))) in
    ap (λ (l : List ℕ). (v / 256 ^ suc i % 256) ∷ l) (bytes_from k (suc i) v ∙ ap (low_bytes k) (sym e))

eight_bytes : (v : ℕ) → to_le_bytes w64 v ≡ low_bytes 8 v
unfolding low_bytes
eight_bytes v = ap (λ (l : List ℕ). (v % 256) ∷ l) (bytes_from 7 0 v)

-- numbers from a place on
pub from_short : (i : ℕ) (vs o : List ℕ) → length o < 8 * i + 8 → placed_from i vs o ≡ o
unfolding placed_from
from_short i vs o h =
    let l : length (drop (8 * i) o) < 8 = simp length-drop (omega arith) in
    rw (placed_short vs (drop (8 * i) o) l, take-append-drop)

pub from_length : (i : ℕ) (vs o : List ℕ) → length (placed_from i vs o) ≡ length o
unfolding placed_from
from_length i vs o = rw (length-append, placed_length, ← length-append, take-append-drop)

pub from_all : (vs o : List ℕ) → placed_from 0 vs o ≡ placed vs o
unfolding placed_from
from_all vs o = refl

-- one number, its bytes in their place
pub one_put : (i v : ℕ) (o l : List ℕ) → 8 * i + 8 ≤ length o → l ≡ to_le_bytes w64 v
    → take (8 * i) o ++ (l ++ drop (8 * i + 8 - 8 * i) (drop (8 * i) o)) ≡ placed_from i (v ∷ []) o
unfolding placed_from
one_put i v o l h e =
    let n : 8 * i + 8 - 8 * i ≡ 8 = omega arith in
    let w : 8 ≤ length (drop (8 * i) o) = simp length-drop (omega arith) in
    rw (n, placed_whole v [] (drop (8 * i) o) w, placed_none, ← eight_bytes, e)

-- one number more, and the others in the places after it
from_whole : (i v : ℕ) (vs d : List ℕ) → 8 * i + 8 ≤ length d
    → placed_from (suc i) vs (placed_from i (v ∷ []) d) ≡ placed_from i (v ∷ vs) d
unfolding placed_from
from_whole i v vs d l =
    let a = take (8 * i) d in
    let b = drop (8 * i) d in
    let la : length a ≡ 8 * i = length-take-le (8 * i) d (omega arith) in
    let lb : 8 ≤ length b = simp length-drop (omega arith) in
    let lv = low_length 8 v in
    let lw : length (a ++ low_bytes 8 v) ≡ 8 * suc i = simp length-append (omega arith) in
    let e : a ++ placed (v ∷ []) b ≡ (a ++ low_bytes 8 v) ++ drop 8 b = rw (placed_whole v [] b lb, placed_none, append_assoc) in
    rw (
      e,
      take_at (a ++ low_bytes 8 v) (drop 8 b) (8 * suc i) lw,
      drop_at (a ++ low_bytes 8 v) (drop 8 b) (8 * suc i) lw,
      placed_whole v vs b lb,
      append_assoc,
    )

from_more : (i v : ℕ) (vs d : List ℕ) → placed_from (suc i) vs (placed_from i (v ∷ []) d) ≡ placed_from i (v ∷ vs) d
from_more i v vs d =
    or_less (8 * i + 8) (length d) (from_whole i v vs d)
    (λ l. rw (from_short i (v ∷ []) d l, from_short i (v ∷ vs) d l) (from_short (suc i) vs d (omega arith)))

pub place_more : (i : ℕ) (vs d d' o : List ℕ) → i < length vs → placed_from i (drop i vs) d ≡ o → d' ≡ placed_from i (get_or vs i 0 ∷ []) d
    → placed_from (i + 1) (drop (i + 1) vs) d' ≡ o
place_more i vs d d' o h e q =
    rw (add-one, q) (from_more i (get_or vs i 0) (drop (suc i) vs) d ∙ (rw (← drop-cons vs i 0 h) e))

pub places_put : (i : ℕ) (vs d o : List ℕ) → length vs ≡ i → placed_from i (drop i vs) d ≡ o → d ≡ o
unfolding placed_from
places_put i vs d o h e = rw (← h, drop-length, placed_none, take-append-drop) at e
