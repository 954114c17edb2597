-- Numbers of keys that fit in 64 bits.
--   figures_small = the number in at most 8 columns, read without a test
--   key_small     = the second and third number of every key, of a line of the file or beyond it
--   asked_small   = and of the key by which a relation line asks for a receiver
use Prim.Native.Nat.{ℕ, zero, suc, ◌+◌, ◌-◌, ◌*◌, ◌%◌, ◌<◌}
use native.Mathlib.Omega.{arith}
use mathlib.Core.Path.{◌≡◌, refl, sym, subst}
use mathlib.Core.Bool.{Bool, true, false}
use mathlib.Core.List.{List, [], ◌∷◌}
use lib.Dec.{eqb, ltb, lit≤}
use lib.ListN.{length, get_or, drop, replicate}
use borrow.Author.Tests.{ltb-true}
use Rattle.rules.specs.Places.{pick}
use Rattle.rules.specs.Text.{col, cols}
use Rattle.rules.specs.Layout.{Layout, Span, at}
use Rattle.rules.specs.Sheet.{Sheet}
use Rattle.rules.proofs.Columns.{cols_length}
use Rattle.fields.specs.Packed.{packed}
use Rattle.fields.specs.Texts.{Small, Long}
use Rattle.fields.specs.Figures.{figures_after, figures, low_index}
use Rattle.fields.proofs.Packed.{name_lo}
use Rattle.fields.proofs.Texts.{cols_long, packed_below}
use Rattle.fields.proofs.LowHalves.{Room, room_none, room_more, room_eight}
use Rattle.form.specs.Known.{Columns, AtMost, Shape, owned, Known}
use Rattle.form.proofs.Known.{long_at}
use Rattle.keys.specs.Keys.{no_line, line_at, key_of, receiver_key}
use Rattle.keys.specs.Keyed.{key_at}
use Rattle.keys.proofs.Owned.{own_small}
use Rattle.keys.specs.declared.By.{By}
use Rattle.keys.specs.declared.By.TheVariants.{Points, Receivers, Records}

figures_room : (v c : ℕ) (bs : List ℕ) (m : ℕ) → m ≡ c + length bs → Room v 0 c → Room (figures_after v bs) 0 m
unfolding figures_after
figures_room v c [] m e r = let z : m ≡ c = omega arith in rw z r
figures_room v c (b ∷ bs) m e r =
    figures_room (10 * v + b % 16) (c + 1) bs m (omega arith) (room_more v (b % 16) 0 c (omega arith) r (omega arith))

pub figures_small : (l : List ℕ) (p : Span) → AtMost 8 p → figures (at l p) < 200000000
unfolding at
figures_small l p w =
    let bs = cols l p.first p.last in
    let e = cols_length l p.first w.0 p.last in
    room_eight (figures bs) 0 (length bs) (figures_room 0 0 bs (length bs) (omega arith) (room_none 0)) (omega arith)

last_small : (l : List ℕ) → Small l → (p : Span) → Columns 16 p → packed (drop 8 (at l p)) < 18446744073709551616
unfolding at
last_small l s p w =
    let a = p.first in
    let e : p.last ≡ a + 15 = omega arith in
    let z : a + 8 + 8 - 1 ≡ a + 15 = omega arith in
    rw (e, name_lo l a w.0)
    (packed_below 8 0 0 (cols l (a + 8) (a + 15)) (subst (λ (b : ℕ). Long 8 (cols l (a + 8) b)) z (cols_long l s 8 (a + 8) (omega arith))) (lit≤ tt))

tape_small : (l : List ℕ) → Small l → (p : Span) → Columns 6 p → packed (at l p) < 18446744073709551616
tape_small l s p w = let b = packed_below 6 0 0 (at l p) (long_at l s p 6 w) (lit≤ tt) in omega arith

zeros : (n c : ℕ) → ◌≡◌ {A = ℕ} (get_or (replicate n 0) c 0) 0
zeros zero c = refl
zeros (suc n) zero = refl
zeros (suc n) (suc c) = zeros n c

picked_small : (t : Bool) (l : List ℕ) → (t ≡ true → Small l) → Small (pick t l no_line)
unfolding pick
picked_small true l g = g refl
picked_small false l g = λ c. subst (λ (n : ℕ). n < 256) (sym (zeros 80 c)) (lit≤ tt)

abbrev Fits : ℕ → Type 0
Fits n = n < 18446744073709551616

index_low : (bs : List ℕ) → low_index bs < 16
unfolding low_index pick
index_low bs = go (eqb (col bs 1 % 16) 0) (col bs 1)
  where
    go : (t : Bool) (b : ℕ) → pick t 1 (b % 16) < 16
    go true b = lit≤ tt
    go false b = omega arith

line_fits_lem : (L : Layout) → Shape L → (l : List ℕ) → Small l → (t : By) → Fits (key_of t L l).second × Fits (key_of t L l).third
unfolding key_of
line_fits_lem L w l s Points =
    let a = figures_small l L.point w.point in
    let b = index_low (at l L.index) in
    (last_small l s L.name w.name, omega arith)
line_fits_lem L w l s Receivers =
    let a = figures_small l L.point w.point in
    let b = index_low (at l L.index) in
    (last_small l s L.name w.name, omega arith)
line_fits_lem L w l s Records = (lit≤ tt, tape_small l s L.tape w.tape)

module _ (i : ℕ) (f : Sheet) (w : Known i f) (k : ℕ) where
  line_small : Small (line_at f k)
  unfolding line_at
  line_small = picked_small (ltb k f.count) (owned f k) (λ t. own_small i f w k (ltb-true k f.count t))

  pub key_small : (t : By) → ((key_at t f k).second < 18446744073709551616) × ((key_at t f k).third < 18446744073709551616)
  unfolding key_at
  key_small t = line_fits_lem f.layout w.shape (line_at f k) line_small t

  pub asked_small : k < f.count → (n : ℕ) → n < 4294967296
      → ((receiver_key f.layout (owned f k) n).second < 18446744073709551616)
      × ((receiver_key f.layout (owned f k) n).third < 18446744073709551616)
  unfolding receiver_key
  asked_small h n l =
      let b = index_low (at (owned f k) f.layout.receiver_index) in
      (last_small (owned f k) (own_small i f w k h) f.layout.receiver w.shape.receiver, omega arith)
