-- Bytes that are put into a slice, one part behind the other.
--   low_length      = so many low bytes
--   spliced_length  = a slice keeps its length
--   spliced_none    = no byte is put
--   spliced_after   = bytes put behind bytes
--   four_put        = the bytes of a number of 32 bits
--   sixteen_put     = four numbers of four bytes
use Prim.Native.Nat.{ℕ, zero, suc, ◌+◌, ◌-◌, ◌/◌, ◌%◌, ◌≤◌}
use native.Mathlib.Nat.{add-zero}
use native.Mathlib.Omega.{arith}
use mathlib.Core.Path.{◌≡◌, refl, ap, ap₂, ◌∙◌}
use mathlib.Core.List.{List, [], ◌∷◌, ◌++◌, append_assoc}
use lib.ListN.{length, take, drop, length-append, length-take, length-drop, take-append-drop}
use lib.Seq.{take_at, drop_at, drop-drop}
use Rattle.std.specs.Int.{to_le_bytes}
use mir.Syntax.{w32}
use Rattle.rules.specs.Hosts.{low_bytes}
use Rattle.rows.specs.Spliced.{spliced}

pub low_length : (n v : ℕ) → length (low_bytes n v) ≡ n
unfolding low_bytes
low_length zero v = refl
low_length (suc n) v = ap suc (low_length n (v / 256))

pub spliced_length : (at : ℕ) (bs o : List ℕ) → at + length bs ≤ length o → length (spliced at bs o) ≡ length o
unfolding spliced
spliced_length at bs o h = simp (length-append, length-take, length-drop) (omega arith)

pub spliced_none : (at : ℕ) (o : List ℕ) → spliced at [] o ≡ o
unfolding spliced
spliced_none at o = rw (add-zero at, take-append-drop)

pub spliced_after : (at mid : ℕ) (us bs o p q : List ℕ) → mid ≡ at + length us → at + length us ≤ length o
    → p ≡ spliced at us o → q ≡ spliced mid bs p → q ≡ spliced at (us ++ bs) o
unfolding spliced
spliced_after at mid us bs o p q z h e f =
    let a = take at o ++ us in
    let b = drop mid o in
    let l : length a ≡ mid = simp (length-append, length-take) (omega arith) in
    let s : p ≡ a ++ b = e ∙ (rw (← z, append_assoc)) in
    let n : at + length (us ++ bs) ≡ mid + length bs = simp length-append (omega arith) in
    f ∙ (rw (s, take_at a b mid l, ← drop-drop (length bs) mid (a ++ b), drop_at a b mid l, drop-drop, n, append_assoc, append_assoc))

four_low : (v : ℕ) → to_le_bytes w32 v ≡ low_bytes 4 v
unfolding low_bytes
four_low v =
    let a : v / 65536 ≡ v / 256 / 256 = omega arith in
    let b : v / 16777216 ≡ v / 256 / 256 / 256 = omega arith in
    ap₂ (λ (m n : ℕ). (v % 256) ∷ (v / 256 % 256) ∷ (m % 256) ∷ (n % 256) ∷ []) a b

pub four_put : (v at : ℕ) (o bs : List ℕ) → bs ≡ to_le_bytes w32 v
    → take at o ++ (bs ++ drop (at + 4 - at) (drop at o)) ≡ spliced at (low_bytes 4 v) o
unfolding spliced low_bytes
four_put v at o bs e =
    let z : at + 4 - at ≡ 4 = omega arith in
    rw (e ∙ four_low v, z, drop-drop 4 at o) refl

pub sixteen_put : (at : ℕ) (us bs cs ds o p q s t : List ℕ) → length us ≡ 4 → length bs ≡ 4 → length cs ≡ 4 → at + 16 ≤ length o
    → p ≡ spliced at us o → q ≡ spliced (at + 4) bs p → s ≡ spliced (at + 8) cs q → t ≡ spliced (at + 12) ds s
    → t ≡ spliced at (us ++ (bs ++ (cs ++ ds))) o
sixteen_put at us bs cs ds o p q s t a b c h e f g i =
    let l : length (us ++ bs) ≡ 8 = simp length-append (omega arith) in
    let m : length (us ++ bs ++ cs) ≡ 12 = simp length-append (omega arith) in
    let two = spliced_after at (at + 4) us bs o p q (omega arith) (omega arith) e f in
    let three = spliced_after at (at + 8) (us ++ bs) cs o q s (omega arith) (omega arith) two g in
    let four = spliced_after at (at + 12) (us ++ bs ++ cs) ds o s t (omega arith) (omega arith) three i in
    rw (append_assoc us bs cs, append_assoc us (bs ++ cs) ds, append_assoc bs cs ds) at four
