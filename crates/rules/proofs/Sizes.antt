-- How large a number can be: below ten to the number of its columns.
use Prim.Native.Nat.{ℕ, suc, ◌+◌, ◌-◌, ◌*◌, ◌^◌, ◌≤◌, ◌<◌}
use native.Mathlib.Nat.{add-zero, pow-suc, one-le-pow, pow-le-pow_right, le_trans}
use native.Mathlib.Omega.{arith}
use mathlib.Core.Path.{◌≡◌, refl, subst}
use mathlib.Core.Bool.{Bool, true, false}
use mathlib.Core.List.{List, [], ◌∷◌}
use lib.Dec.{eqb}
use lib.ListN.{length, get_or, take, length-take}
use Rattle.rules.specs.Places.{pick}
use Rattle.rules.specs.Numbers.{digit, Number, malformed, plus, minus, digits_after, digits, justified}
use Rattle.rules.specs.Numbers.{whole, negative, minus_or, signed, then, pointed, decimal, tenths, size}
use Rattle.rules.proofs.Tests.{says}
use Rattle.rules.proofs.Numbers.{digit_is}

abbrev pub Small : Number → ℕ → Type 0
Small v n = size v < 10 ^ n

malformed_small : (n : ℕ) → Small malformed n
unfolding size
malformed_small n = one-le-pow n 10 (omega arith)

pub small_more : (v : Number) (m n : ℕ) → m ≤ n → Small v m → Small v n
small_more v m n h s = le_trans s (pow-le-pow_right (omega arith) h)

pick_small : (t : Bool) (v : Number) (n : ℕ) → (t ≡ true → Small v n) → Small (pick t v malformed) n
unfolding pick
pick_small true v n f = f refl
pick_small false v n f = malformed_small n

after_small : (bs : List ℕ) (v i : ℕ) → v < 10 ^ i → Small (digits_after v bs) (i + length bs)
unfolding digits_after size
after_small [] v i h = rw add-zero h
after_small (b ∷ bs) v i h =
    pick_small (digit b) (digits_after (10 * v + (b - 48)) bs) (i + suc (length bs))
    (λ t.
    let d = (digit_is b).0 t in
    let p = pow-suc 10 i in
    let g : 10 * v + (b - 48) < 10 ^ suc i = omega arith in
    subst (Small (digits_after (10 * v + (b - 48)) bs)) (let z : suc i + length bs ≡ i + suc (length bs) = omega arith in z)
    (after_small bs (10 * v + (b - 48)) (suc i) g))

pub digits_small : (bs : List ℕ) → Small (digits bs) (length bs)
unfolding digits
digits_small [] = malformed_small 0
digits_small (b ∷ bs) =
    subst (Small (digits_after 0 (b ∷ bs))) (let z : 0 + length (b ∷ bs) ≡ length (b ∷ bs) = omega arith in z)
    (after_small (b ∷ bs) 0 0 (omega arith))

negative_small : (v : Number) (n : ℕ) → Small v n → Small (negative v) n
unfolding negative size
negative_small malformed n h = h
negative_small (plus m) n h = h
negative_small (minus m) n h = malformed_small n

minus_or_small : (bs : List ℕ) → Small (minus_or bs) (length bs)
unfolding minus_or pick
minus_or_small [] = malformed_small 0
minus_or_small (b ∷ bs) = go (eqb b 45)
  where
    go : (t : Bool) → Small (pick t (negative (digits bs)) (digits (b ∷ bs))) (length (b ∷ bs))
    go true = small_more (negative (digits bs)) (length bs) (length (b ∷ bs)) (omega arith) (negative_small (digits bs) (length bs) (digits_small bs))
    go false = digits_small (b ∷ bs)

justified_small : (read : List ℕ → Number) → ((bs : List ℕ) → Small (read bs) (length bs)) → (bs : List ℕ) → Small (justified read bs) (length bs)
unfolding justified pick
justified_small read f [] = malformed_small 0
justified_small read f (b ∷ bs) = go (eqb b 32) (justified_small read f bs)
  where
    go : (t : Bool) → Small (justified read bs) (length bs) → Small (pick t (justified read bs) (read (b ∷ bs))) (length (b ∷ bs))
    go true h = small_more (justified read bs) (length bs) (length (b ∷ bs)) (omega arith) h
    go false h = f (b ∷ bs)

pub whole_small : (bs : List ℕ) → Small (whole bs) (length bs)
unfolding whole
whole_small bs = justified_small digits digits_small bs

pub signed_small : (bs : List ℕ) → Small (signed bs) (length bs)
unfolding signed
signed_small bs = justified_small minus_or minus_or_small bs

then_small : (v : Number) (d n : ℕ) → d ≤ 9 → Small v n → Small (then v d) (suc n)
unfolding then size
then_small malformed d n h s = malformed_small (suc n)
then_small (plus m) d n h s = let p = pow-suc 10 n in omega arith
then_small (minus m) d n h s = let p = pow-suc 10 n in omega arith

pub decimal_small : (read : List ℕ → Number) → ((bs : List ℕ) → Small (read bs) (length bs)) → (bs : List ℕ) → Small (decimal read bs) (length bs)
unfolding decimal pointed
decimal_small read f bs =
    let w = length bs in
    let d = get_or bs (w - 1) 0 in
    pick_small _ _ w
    (λ t.
    let e = simp says at t in
    let g = (digit_is d).0 e.1 in
    let two = e.0.0 in
    let n : length (take (w - 2) bs) ≡ w - 2 = simp length-take (omega arith) in
    small_more _ (suc (w - 2)) w (omega arith)
    (then_small (read (take (w - 2) bs)) (d - 48) (w - 2) (omega arith) (rw n at (f (take (w - 2) bs)))))

pub tenths_small : (read : List ℕ → Number) → ((bs : List ℕ) → Small (read bs) (length bs)) → (bs : List ℕ) → Small (tenths read bs) (length bs)
unfolding tenths pick
tenths_small read f bs = go (pointed bs)
  where
    go : (t : Bool) → Small (pick t (decimal read bs) (read bs)) (length bs)
    go true = decimal_small read f bs
    go false = f bs
