-- Two paths that are the same by value are the same bytes, where the system has room for them.
use mathlib.Core.Path.{◌≡◌, refl, ap, sym, ◌∙◌}
use mathlib.Core.List.{List}
use Prim.Native.Nat.{ℕ, ◌≤◌}
use native.Mathlib.Omega.{arith}
use lib.ListN.{length, take, drop, replicate, length-replicate}
use lib.Seq.{take-append_seam}
use borrow.Author.Tests.{le-leb}
use Rattle.rules.specs.Places.{pick}
use Rattle.texts.specs.Buffer.{over}
use Rattle.files.specs.declared.input.Path.{Path}
use Rattle.files.specs.Reads.{path}

over_front : (p o : List ℕ) → length p ≤ length o → take (length p) (over p o) ≡ p
unfolding over pick
over_front p o h = rw (le-leb (length p) (length o) h) (take-append_seam p (drop (length p) o))

pub path_bytes : (p : List ℕ) → length p ≤ 4096 → take (path p).size (path p).bytes ≡ p
unfolding path
path_bytes p h = over_front p (replicate 4096 0) (rw length-replicate h)

path_size : (p : List ℕ) → (path p).size ≡ length p
unfolding path
path_size p = refl

pub same_path : (p q : List ℕ) → length p ≤ 4096 → path p ≡ path q → p ≡ q
same_path p q h e =
    let s : length p ≡ length q = sym (path_size p) ∙ ap (λ (a : Path). a.size) e ∙ path_size q in
    sym (path_bytes p h) ∙ ap (λ (a : Path). take a.size a.bytes) e ∙ path_bytes q (omega arith)
