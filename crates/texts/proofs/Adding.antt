-- Text that is added to a buffer.
use mathlib.Core.Path.{◌≡◌, ap, sym, ◌∙◌}
use mathlib.Core.List.{List, ◌++◌, append_assoc}
use Prim.Native.Nat.{ℕ, ◌+◌, ◌-◌, ◌≤◌}
use native.Mathlib.Nat.{zero-add, add_assoc}
use native.Mathlib.Omega.{arith}
use borrow.Rule.Slice.PartMut.{put_mid, drop_put}
use Rattle.std.proofs.Math.Seq.{take-append_seam}
use Rattle.std.proofs.Common.{length-drop}
use lib.ListN.{length, take, drop, length-append, length-take}
use lib.Seq.{drop-drop}
use Rattle.texts.specs.Buffer.{Adds}

-- what stays from one place on stays from a later one on
drop_later : (a b : List ℕ) (n k : ℕ) → drop n a ≡ drop n b → drop (n + k) a ≡ drop (n + k) b
drop_later a b n k e = sym (drop-drop k n a) ∙ ap (drop k) e ∙ drop-drop k n b

pub then : {a b c t u : List ℕ} {n m k : ℕ} → Adds a n t b m → Adds b m u c k → Adds a n (t ++ u) c k
then {a} {b} {c} {t} {u} {n} {m} {k} p q =
    record {
      ends = q.ends ∙ ap (λ (i : ℕ). i + length u) p.ends ∙ rw (length-append, add_assoc);
      front = q.front ∙ ap (λ (l : List ℕ). l ++ u) p.front ∙ append_assoc (take n a) t u;
      rest = q.rest ∙ ap (λ (i : ℕ). drop i b) q.ends ∙ drop_later b a m (length u) p.rest ∙ ap (λ (i : ℕ). drop i a) (sym q.ends);
    }

-- k bytes over the part from n on
pub part_length : (a : List ℕ) (n k : ℕ) → n + k ≤ length a → length (take (n + k - n) (drop n a)) ≡ k
part_length a n k h = omega (arith, length-take (n + k - n) (drop n a), length-drop n a)

pub adds_part : (a p : List ℕ) (n k : ℕ) → n + k ≤ length a → length p ≡ k → Adds a n p (put_mid n (n + k - n) a p) (n + k)
adds_part a p n k h e =
    record {
      ends = omega arith;
      front =
          let f : length (take n a ++ p) ≡ length (take n a) + length p = length-append (take n a) p in
          let l : n + k ≡ length (take n a ++ p) = omega (arith, f, length-take n a) in
          ap (take (n + k)) (sym (append_assoc (take n a) p (drop (n + k - n) (drop n a))))
          ∙ ap (λ (i : ℕ). take i ((take n a ++ p) ++ drop (n + k - n) (drop n a))) l
          ∙ take-append_seam (take n a ++ p) (drop (n + k - n) (drop n a));
      rest = drop_put n (n + k) a p (omega arith) h (omega arith);
    }

-- the first m places hold what was added
pub starts : {a t b : List ℕ} {m : ℕ} → Adds a 0 t b m → (take m b ≡ t) × (m ≡ length t)
starts {a} {t} {b} {m} e = (e.front, e.ends ∙ zero-add (length t))
