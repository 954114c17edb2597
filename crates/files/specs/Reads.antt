-- "A file that is missing", "one above the buffer": what the calls of read tell of a file: none where the call
-- fails, 0 at the end of the file, and else how many bytes came.
--   size_of i           = how many bytes of a file were read
--   rest_of i b         = the bytes of its buffer that are not its own, where it was read
--   next g room        = what follows on the answer g of a call, where there is room for so many bytes more
--   came t             = how many bytes came
--   path p             = a path by value, of the bytes p
--   Follows room t     = t is what follows on some answer
--   Tells o o' t r c   = t is right of a file with the bytes o left, and o' after the call: none is left; more are left than there is
--                        room for; or those of the chunk c come first. Nothing, where they are not known or the call failed
--   IsRead i xs b      = i is right of a file of the bytes xs: they are longer than the buffer b, or all of them stand at its start
--   Found p l b b'     = l was found of the file at p; its bytes stand at the start of b', and b' is b after them
use Rattle.std.specs.Prelude.{ℕ, zero, suc, ◌≤◌, ◌≡◌, List, [], leb, Option, None, Some, IfSome, Result, Ok, Err, ⊤, ◌<◌, length, take, drop, replicate}
use Rattle.std.specs.Io.KnownBytes.{Consumes, IsAtEnd}
use Rattle.rules.specs.Places.{pick}
use Rattle.texts.specs.Buffer.{over}
use Rattle.files.specs.declared.input.Path.{Path}
use Rattle.files.specs.declared.input.Unusable.{Unusable}
use Rattle.files.specs.declared.input.Unusable.TheVariants.{Missing, Longer}
use Rattle.files.specs.declared.input.Loaded.{Loaded}

abbrev pub Input : Type 0
Input = Result ℕ Unusable

abbrev pub Step : Type 0
Step = Result (Option ℕ) Unusable

abbrev pub size_of : Input → ℕ
size_of (Err e) = 0
size_of (Ok n) = n

abbrev pub rest_of : Input → List ℕ → List ℕ
rest_of (Err e) b = []
rest_of (Ok n) b = drop n b

unfoldable pub next : Option ℕ → ℕ → Step
next None room = Err Missing
next (Some zero) room = Ok None
next (Some (suc m)) room = pick (leb (suc m) room) (Ok (Some (suc m))) (Err Longer)

abbrev pub came : Step → ℕ
came (Err e) = 0
came (Ok None) = 0
came (Ok (Some m)) = m

pub record Follows (room : ℕ) (t : Step) : Type 0 where
  pub answer : Option ℕ
  pub value : t ≡ next answer room

unfoldable pub path : List ℕ → Path
path p = record { bytes = over p (replicate 4096 0); size = length p }

unfoldable pub Tells : Option (List ℕ) → Option (List ℕ) → Step → ℕ → List ℕ → Type 0
Tells o o' (Err Missing) r c = ⊤
Tells o o' (Err Longer) r c = IfSome o (λ xs. r < length xs)
Tells o o' (Ok None) r c = IsAtEnd o
Tells o o' (Ok (Some m)) r c = Consumes o o' (take m c)

unfoldable pub IsRead : Input → List ℕ → List ℕ → Type 0
IsRead (Err Missing) xs b = ⊤
IsRead (Err Longer) xs b = length b < length xs
IsRead (Ok n) xs b = take n b ≡ xs

pub record Found (p : List ℕ) (l : Loaded) (b b' : List ℕ) : Type 0 where
  pub from : l.path ≡ path p
  pub fits : size_of l.input ≤ length b
  pub rest : rest_of l.input b' ≡ rest_of l.input b
