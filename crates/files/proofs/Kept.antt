-- What a read leaves of its buffer: the bytes that are not the file's stay as they were lent.
use Rattle.std.proofs.Common.{◌≡◌, ℕ, ◌+◌, ◌-◌, ◌≤◌, List, ◌++◌, length, take, drop, sym, ap, ◌∙◌, arith, length-append, length-take, length-drop, append-nil}
use Rattle.std.proofs.lemmas.List.{length-take-le}
use Rattle.std.proofs.Math.Seq.{take_all, drop_at, drop-drop, drop-length}

-- a buffer b with the bytes l in place of those from n on, and the bytes l of these with m more before the rest
abbrev pub with : ℕ → List ℕ → List ℕ → List ℕ
with n b l = take n b ++ (l ++ drop (length b - n) (drop n b))

abbrev pub left : ℕ → List ℕ → List ℕ
left n b = take (length b - n) (drop n b)

pub length_with : (n : ℕ) (b l : List ℕ) → n ≤ length b → length l ≡ length (left n b) → length (with n b l) ≡ length b
length_with n b l h e =
    let d = drop (length b - n) (drop n b) in
    omega (
      arith,
      length-append (take n b) (l ++ d),
      length-append l d,
      length-take n b,
      length-take (length b - n) (drop n b),
      length-drop (length b - n) (drop n b),
      length-drop n b,
    )

with_rest : (n : ℕ) (b l : List ℕ) → n ≤ length b → drop n (with n b l) ≡ l
with_rest n b l h =
    let e : n + (length b - n) ≡ length b = omega arith in
    drop_at (take n b) (l ++ drop (length b - n) (drop n b)) n (length-take-le n b h)
    ∙ ap (λ (z : List ℕ). l ++ z) (drop-drop (length b - n) n b ∙ ap (λ (i : ℕ). drop i b) e ∙ drop-length b)
    ∙ append-nil l

-- m bytes more, the first of a chunk
pub more_kept : (n m : ℕ) (b b₀ c l : List ℕ) → n ≤ length b → drop n b ≡ drop n b₀ → m ≤ length c → l ≡ take m c ++ drop m (left n b)
    → drop (n + m) (with n b l) ≡ drop (n + m) b₀
more_kept n m b b₀ c l h e s w =
    sym (drop-drop m n (with n b l))
    ∙ ap (drop m) (with_rest n b l h)
    ∙ ap (drop m) w
    ∙ drop_at (take m c) (drop m (left n b)) m (length-take-le m c s)
    ∙ ap (drop m) (take_all (length b - n) (drop n b) (omega (arith, length-drop n b)))
    ∙ ap (drop m) e
    ∙ drop-drop m n b₀

pub none_kept : (n : ℕ) (b b₀ l : List ℕ) → n ≤ length b → drop n b ≡ drop n b₀ → l ≡ left n b → drop n (with n b l) ≡ drop n b₀
none_kept n b b₀ l h e w = with_rest n b l h ∙ w ∙ take_all (length b - n) (drop n b) (omega (arith, length-drop n b)) ∙ e
