-- The contracts of this crate leave one outcome: any two answers, and contents of the lent buffer, that meet one are the same.
use mathlib.Core.Path.{◌≡◌, refl, ap, sym, ◌∙◌}
use mathlib.Core.List.{List}
use Prim.Native.Nat.{ℕ}
use lib.ListN.{take, drop, take-append-drop}
use Rattle.outcome.specs.One.{One, both}
use Rattle.texts.specs.Buffer.{Adds}
use Rattle.texts.specs.contracts.byte as byte
use Rattle.texts.proofs.byte.Reads as byte_Reads
use Rattle.texts.specs.contracts.fill as fill
use Rattle.texts.proofs.fill.Reads as fill_reads
use Rattle.texts.specs.contracts.add as add
use Rattle.texts.proofs.add.Reads as add_reads
use Rattle.texts.specs.contracts.digits as digits
use Rattle.texts.proofs.digits.Reads as digits_reads
use Rattle.texts.specs.contracts.number as number
use Rattle.texts.proofs.number.Reads as number_reads
use Rattle.texts.specs.contracts.place as place
use Rattle.texts.proofs.place.Reads as place_reads

adds_ends : {a t b b' : List ℕ} {n m m' : ℕ} → Adds a n t b m → Adds a n t b' m' → m ≡ m'
adds_ends p q = p.ends ∙ sym q.ends

adds_one : {a t b b' : List ℕ} {n m m' : ℕ} → Adds a n t b m → Adds a n t b' m' → b ≡ b'
adds_one {a} {t} {b} {b'} {n} {m} {m'} p q =
    let e : m ≡ m' = adds_ends p q in
    let f : take m b ≡ take m' b' = p.front ∙ sym q.front in
    let r : drop m b ≡ drop m' b' = p.rest ∙ ap (λ (i : ℕ). drop i a) e ∙ sym q.rest in
    sym (take-append-drop m b) ∙ (rw (f, r)) ∙ take-append-drop m' b'

pub byte_one : One byte.ended byte_Reads.Post
byte_one κs a v v' w w' p p' = (adds_ends p p', both refl (both (adds_one p p') refl))

pub fill_one : One fill.ended fill_reads.Post
fill_one κs a v v' w w' p p' = (adds_ends p p', both refl (both refl (both (adds_one p p') refl)))

pub add_one : One add.ended add_reads.Post
add_one κs a v v' w w' p p' = (adds_ends p p', both refl (both (adds_one p p') refl))

pub digits_one : One digits.ended digits_reads.Post
digits_one κs a v v' w w' p p' = (adds_ends p p', both refl (both (adds_one p p') refl))

pub number_one : One number.ended number_reads.Post
number_one κs a v v' w w' p p' = (adds_ends p.0 p'.0, both refl (both (adds_one p.0 p'.0) refl))

pub place_one : One place.ended place_reads.Post
place_one κs a v v' w w' p p' = (refl, both refl (both (p ∙ sym p') refl))
