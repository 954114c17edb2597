-- What is told of a file whose bytes are known, call by call, and of all of it.
use Rattle.std.specs.Prelude.{ℕ, zero, suc, ◌+◌, ◌-◌, ◌≤◌, ◌<◌, ◌≡◌, Bool, true, false, leb, Option, None, Some, IfSome, Result, Ok, Err, List, ◌++◌, length}
use Rattle.std.specs.Prelude.{take, drop}
use Rattle.std.specs.Result.{result_ok}
use Rattle.std.specs.Io.{ReadsAtMost}
use Rattle.std.specs.Io.KnownBytes.{Consumes, IsAtEnd, ReadConsumes}
use Rattle.std.proofs.Common.{refl, ap, sym, ◌∙◌, arith, length-append, append_assoc, append-nil}
use Rattle.std.proofs.lemmas.List.{length-take-le, take-append-le}
use Rattle.std.proofs.Math.Seq.{take-append_seam, take-append-add}
use Rattle.std.proofs.lemmas.Bool.{leb-false}
use Rattle.rules.specs.Places.{pick}
use Rattle.files.specs.declared.input.Unusable.{Unusable}
use Rattle.files.specs.declared.input.Unusable.TheVariants.{Missing, Longer}
use Rattle.files.proofs.Kept.{with, left}
use Rattle.files.specs.Reads.{Step, next, Tells, IsRead}

ends : (o o' : Option (List ℕ)) (c : List ℕ) → Consumes o o' (take 0 c) → IsAtEnd o' → IsAtEnd o
ends None o' c h e = tt
ends (Some xs) None c h e = absurd h
ends (Some xs) (Some ys) c h e = h ∙ e

over_room : (o o' : Option (List ℕ)) (c : List ℕ) (m room : ℕ) → Consumes o o' (take m c) → m ≤ length c → room < m → IfSome o (λ xs. room < length xs)
over_room None o' c m room h l r = tt
over_room (Some xs) None c m room h l r = absurd h
over_room (Some xs) (Some ys) c m room h l r = omega (arith, ap length h, length-append (take m c) ys, length-take-le m c l)

picked : (t : Bool) (o o' : Option (List ℕ)) (c : List ℕ) (m room : ℕ) → Consumes o o' (take m c) → m ≤ length c → (t ≡ false → room < m)
    → Tells o o' (pick t (Ok (Some m)) (Err Longer)) room c
unfolding pick Tells
picked true o o' c m room h l r = h
picked false o o' c m room h l r = over_room o o' c m room h l (r refl)

answered : {E : Type 0} (o o' : Option (List ℕ)) (r : Result ℕ E) (c : List ℕ) (room : ℕ) → ReadsAtMost r c → ReadConsumes o o' r c → 0 < length c
    → Tells o o' (next (result_ok r) room) room c
unfolding next Tells
answered o o' (Err e) c room b h l = tt
answered o o' (Ok zero) c room b h l = ends o o' c h.0 (h.1 refl l)
answered o o' (Ok (suc m)) c room b h l = picked (leb (suc m) room) o o' c (suc m) room h.0 b.0 (leb-false (suc m) room)

pub tells :
    {E : Type 0} (o o' : Option (List ℕ)) (r : Result ℕ E) (c : List ℕ) (room : ℕ) (z : Option ℕ) (t : Step)
    → ReadsAtMost r c → ReadConsumes o o' r c → z ≡ result_ok r → t ≡ next z room → 0 < length c → Tells o o' t room c
tells o o' r c room z t b h e f l = rw (f, e) (answered o o' r c room b h l)

-- all of a file
front_with : (n : ℕ) (b l : List ℕ) → n ≤ length b → take n (with n b l) ≡ take n b
front_with n b l h =
    let e : length (take n b) ≡ n = length-take-le n b h in
    ap (λ (k : ℕ). take k (with n b l)) (sym e) ∙ take-append_seam (take n b) (l ++ drop (length b - n) (drop n b))

pub whole : (o o' : Option (List ℕ)) (n room : ℕ) (b l c : List ℕ) (o'' : Option (List ℕ)) → Consumes o o' (take n b) → Tells o' o'' (Ok None) room c
    → n ≤ length b → IfSome o (λ xs. IsRead (Ok n) xs (with n b l))
unfolding Tells IsRead
whole None o' n room b l c o'' h e r = tt
whole (Some xs) None n room b l c o'' h e r = absurd h
whole (Some xs) (Some ys) n room b l c o'' h e r = front_with n b l r ∙ sym (h ∙ ap (λ (z : List ℕ). take n b ++ z) e ∙ append-nil (take n b))

-- a file that cannot be used
longer : (o o' : Option (List ℕ)) (n m room : ℕ) (b : List ℕ) → Consumes o o' (take n b) → IfSome o' (λ ys. room < length ys) → n ≤ length b
    → m ≤ n + room → IfSome o (λ xs. m < length xs)
longer None o' n m room b h r l s = tt
longer (Some xs) None n m room b h r l s = absurd h
longer (Some xs) (Some ys) n m room b h r l s = omega (arith, ap length h, length-append (take n b) ys, length-take-le n b l)

any_missing : (o : Option (List ℕ)) (b : List ℕ) → IfSome o (λ xs. IsRead (Err Missing) xs b)
unfolding IsRead
any_missing None b = tt
any_missing (Some xs) b = tt

pub unusable :
    (e : Unusable) (n room : ℕ) (b b' c : List ℕ) (o o' o'' : Option (List ℕ)) → Consumes o o' (take n b) → Tells o' o'' (Err e) room c → n ≤ length b
    → length b' ≤ n + room → IfSome o (λ xs. IsRead (Err e) xs b')
unfolding Tells IsRead
unusable Missing n room b b' c o o' o'' h t r s = any_missing o b'
unusable Longer n room b b' c o o' o'' h t r s = longer o o' n (length b') room b h t r s

-- m bytes more, the first of a chunk
both : (o o' o'' : Option (List ℕ)) (p q : List ℕ) → Consumes o o' p → Consumes o' o'' q → Consumes o o'' (p ++ q)
both None o' o'' p q h k = tt
both (Some xs) None o'' p q h k = absurd h
both (Some xs) (Some ys) None p q h k = absurd k
both (Some xs) (Some ys) (Some zs) p q h k = h ∙ ap (λ (z : List ℕ). p ++ z) k ∙ sym (append_assoc p q zs)

front_more : (m n : ℕ) (b c l : List ℕ) → n ≤ length b → m ≤ length c → l ≡ take m c ++ drop m (left n b) → take (n + m) (with n b l) ≡ take n b ++ take m c
front_more m n b c l h r w =
    let e : length (take n b) ≡ n = length-take-le n b h in
    let f : length (take m c) ≡ m = length-take-le m c r in
    let d = drop (length b - n) (drop n b) in
    let j : m ≤ length l = omega (arith, ap length w, length-append (take m c) (drop m (left n b))) in
    let k : take m l ≡ take m c =
    ap (take m) w ∙ ap (λ (k : ℕ). take k (take m c ++ drop m (left n b))) (sym f) ∙ take-append_seam (take m c) (drop m (left n b)) in
    ap (λ (i : ℕ). take (i + m) (with n b l)) (sym e)
    ∙ take-append-add (take n b) (l ++ d) m
    ∙ ap (λ (z : List ℕ). take n b ++ z) (take-append-le m l d j ∙ k)

pub read_more :
    (m n room : ℕ) (b c l : List ℕ) (o o' o'' : Option (List ℕ)) → n ≤ length b → m ≤ length c → l ≡ take m c ++ drop m (left n b)
    → Consumes o o' (take n b) → Tells o' o'' (Ok (Some m)) room c → Consumes o o'' (take (n + m) (with n b l))
unfolding Tells
read_more m n room b c l o o' o'' h r w k g = rw (front_more m n b c l h r w) (both o o' o'' (take n b) (take m c) k g)
