-- What the tape takes, in words: 3 of a line on tape.
--   taken_is     = a byte is taken exactly where its character is listed
--   all_taken    = and each listed character has its byte
--   tape_takes   = 3 of line k says that each of its bytes is such
use Prim.Native.Nat.{ℕ, ◌+◌, ◌-◌, ◌*◌, ◌<◌}
use Prim.Native.String.{String, [] as empty, ◌∷◌ as ◌∷ₛ◌}
use Prim.Native.Char.{code}
use native.Mathlib.Omega.{arith}
use mathlib.Core.Path.{◌≡◌, refl, sym, ap, subst, ◌∙◌}
use mathlib.Core.Logic.{◌↔◌}
use mathlib.Core.Bool.{Bool, true, false, not, ◌&&◌, ◌||◌}
use mathlib.Core.List.{List}
use lib.Dec.{eqb, ltb}
use lib.ListN.{get_or}
use borrow.Author.Tests.{eqb-true, ltb-true, lt-ltb, eq-eqb}
use Rattle.rules.specs.Places.{pick, every}
use Rattle.rules.specs.Text.{bytes, one_of}
use Rattle.rules.specs.Layout.{Layout}
use Rattle.rules.specs.Medium.{sheet}
use Rattle.rules.specs.Tape.{page, char_in, place_of, byte_in, tape}
use Rattle.rules.specs.MeetsForm.{Rule3}
use Rattle.rules.specs.MeetsTape.{characters, CleanTape}
use Rattle.rules.proofs.Tests.{says, clash, and_is, every_is, yes_no}
use Rattle.rules.proofs.Raw.{clean_stray}
use Rattle.rules.proofs.Medium.{clean_is}
use Rattle.rules.proofs.Media.{page_small, tape_lawful}

-- computed for each byte, and for each character
abbrev listed : ℕ → Bool
listed b = not (ltb 0 (char_in page b)) || one_of characters (char_in page b)

all_listed : every 256 listed ≡ true
unfolding every pick page char_in one_of bytes
all_listed = refl

abbrev stands : ℕ → Bool
stands c = not (one_of characters c) || eqb (char_in page (byte_in page c)) c

all_stand : every 256 stands ≡ true
unfolding every pick page char_in place_of byte_in one_of bytes
all_stand = refl

none_listed : one_of characters 0 ≡ false
unfolding one_of
none_listed = refl

pub taken_is : (b : ℕ) → (ltb 0 (char_in page b) ≡ true) ↔ (one_of characters (char_in page b) ≡ true)
taken_is b = (
  λ t. (simp says at ((every_is 256 listed).0 all_listed b (page_small b t))) (ltb-true 0 (char_in page b) t),
  λ t. lt-ltb 0 (char_in page b) (some (char_in page b) t),
)
  where
    some : (c : ℕ) → one_of characters c ≡ true → 0 < c
    some c t =
        yes_no (eqb c 0) (λ e. clash (sym none_listed ∙ ap (one_of characters) (sym (eqb-true c 0 e)) ∙ t))
        (λ n. let m : c ≡ 0 → ⊥ = λ z. n (eq-eqb c 0 z) in omega arith)

-- the characters are bytes
abbrev below : String → Bool
below empty = true
below (◌∷ₛ◌ c s) = ltb (code c) 256 && below s

one_below : (s : String) (c : ℕ) → below s ≡ true → one_of s c ≡ true → c < 256
unfolding one_of
one_below empty c e t = clash t
one_below (◌∷ₛ◌ d s) c e t =
    let w = (and_is (ltb (code d) 256) (below s)).0 e in
    let l = ltb-true (code d) 256 w.0 in
    yes_no (eqb c (code d)) (λ y. let z = eqb-true c (code d) y in omega arith)
    (λ n. one_below s c w.1 (later (eqb c (code d)) (one_of s c) n t))
  where
    later : (a b : Bool) → (a ≡ true → ⊥) → (a || b) ≡ true → b ≡ true
    later true b n y = absurd (n refl)
    later false b n y = y

all_below : below characters ≡ true
all_below = refl

pub all_taken : (c : ℕ) → one_of characters c ≡ true → char_in page (byte_in page c) ≡ c
all_taken c t = (simp says at ((every_is 256 stands).0 all_stand c (one_below characters c all_below t))) t

module _ (L : Layout) (f : List ℕ) (k : ℕ) (h : k < (sheet tape L f).count) where
  pub tape_takes : Rule3 (sheet tape L f) k ↔ CleanTape f k
  unfolding tape
  tape_takes =
      let b = clean_is tape tape_lawful L f k h in
      let d = clean_stray (sheet tape L f) k in (
        λ g c o l. (taken_is _).0 (b.0 (d.1 g) (c - 1) (omega arith)),
        λ g.
            d.0
            (b.1
            (λ c l.
            let z : c + 1 - 1 ≡ c = omega arith in
            (taken_is _).1 (subst (λ (m : ℕ). one_of characters (char_in page (get_or f (80 * k + m) 0)) ≡ true) z (g (c + 1) (omega arith) (omega arith))))),
      )
