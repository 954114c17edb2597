-- The disc and the tape are lawful media.
--   chosen_lawful          = and so is the one that a number chooses
--   disc_is, tape_is, none_is = which number chooses which
use Prim.Native.Nat.{ℕ, ◌+◌, ◌-◌, ◌%◌, ◌≤◌, ◌<◌}
use native.Mathlib.Omega.{arith}
use mathlib.Core.Path.{◌≡◌, refl, sym, subst, ap, ◌∙◌}
use mathlib.Core.Logic.{◌↔◌}
use mathlib.Core.Bool.{Bool, true, false, ◌&&◌, ◌||◌, not}
use mathlib.Core.List.{List, [], ◌∷◌}
use lib.Dec.{eqb, leb, ltb, lit≤}
use lib.ListN.{length, get_or}
use borrow.Author.Tests.{eqb-true, leb-true, ltb-true, lt-ltb, le-ltb, ne_eqb}
use Rattle.rules.specs.Places.{pick, every}
use Rattle.rules.specs.Text.{bytes}
use Rattle.rules.specs.MeetsFields.{Digit}
use Rattle.rules.specs.Medium.{Medium}
use Rattle.rules.specs.Disc.{printable, byte_fits, disc}
use Rattle.rules.specs.Calls.{on, none, choice}
use Rattle.rules.specs.Tape.{Run, page, char_in, place_of, byte_in, tape}
use Rattle.rules.proofs.Tests.{says, and_is, every_is, yes_no}
use Rattle.rules.proofs.Medium.{Lawful}

pub disc_lawful : Lawful disc
unfolding disc byte_fits printable
disc_lawful =
    record {
      narrow = lit≤ tt;
      wide = lit≤ tt;
      once = lit≤ tt;
      prints = λ c b h t. let w = simp says at t in w.0 h;
      none = refl;
      null = refl;
      told = λ c b h t. refl;
      small = λ c b h t. let w = ((simp says at t).0 h).1 in omega arith;
      some = λ c b h t z. let w = ((simp says at t).0 h).0 in omega arith;
      fits = λ c h. h;
      apart = λ c d h g n e. e;
      blanks = refl;
      digits = λ c h. refl;
    }

-- what is to hold of a byte of a tape, as one test
abbrev told : ℕ → Bool
told b = not (ltb 0 (char_in page b)) || (printable (char_in page b) && eqb (byte_in page (char_in page b)) b)

-- computed for each byte there is
all_told : every 256 told ≡ true
unfolding every pick page char_in place_of byte_in printable bytes
all_told = refl

-- and no other number is taken: every run ends before it
abbrev ended : List Run → Bool
ended [] = true
ended (r ∷ rs) = leb (r.start + length r.chars) 256 && ended rs

beyond : (rs : List Run) (b : ℕ) → ended rs ≡ true → 256 ≤ b → char_in rs b ≡ 0
unfolding char_in pick
beyond [] b e h = refl
beyond (r ∷ rs) b e h =
    let w = (and_is (leb (r.start + length r.chars) 256) (ended rs)).0 e in
    let n = leb-true (r.start + length r.chars) 256 w.0 in
    let z = le-ltb b (r.start + length r.chars) (omega arith) in
    rw z (go (leb r.start b) (beyond rs b w.1 h))
  where
    go : (t : Bool) → char_in rs b ≡ 0 → pick (t && false) (get_or r.chars (b - r.start) 0) (char_in rs b) ≡ 0
    go true f = f
    go false f = f

page_ends : ended page ≡ true
unfolding page bytes
page_ends = refl

taken : (b : ℕ) → ltb 0 (char_in page b) ≡ true → told b ≡ true
taken b t =
    yes_no (ltb b 256) (λ y. (every_is 256 told).0 all_told b (ltb-true b 256 y))
    (λ n. let z = beyond page b page_ends (let l : b < 256 → ⊥ = λ l. n (lt-ltb b 256 l) in omega arith) in absurd
    (let y = ltb-true 0 (char_in page b) t in omega arith))

pub page_small : (b : ℕ) → ltb 0 (char_in page b) ≡ true → b < 256
page_small b t =
    yes_no (ltb b 256) (λ y. ltb-true b 256 y)
    (λ n. let z = beyond page b page_ends (let l : b < 256 → ⊥ = λ l. n (lt-ltb b 256 l) in omega arith) in absurd
    (let y = ltb-true 0 (char_in page b) t in omega arith))

none_taken : byte_in page 0 ≡ 0
unfolding page byte_in place_of pick bytes
none_taken = refl

-- a character's byte, where it has one, is told by it
abbrev back : ℕ → Bool
back c = ltb (byte_in page c) 256 && (eqb (byte_in page c) 0 || eqb (char_in page (byte_in page c)) c)

all_back : every 256 back ≡ true
unfolding every pick page char_in place_of byte_in bytes
all_back = refl

back_is : (c : ℕ) → c < 256 → (byte_in page c < 256) × ((byte_in page c ≡ 0 → ⊥) → char_in page (byte_in page c) ≡ c)
back_is c h =
    let w = (and_is (ltb (byte_in page c) 256) (eqb (byte_in page c) 0 || eqb (char_in page (byte_in page c)) c)).0 ((every_is 256 back).0 all_back c h) in (
      ltb-true (byte_in page c) 256 w.0,
      λ n. eqb-true (char_in page (byte_in page c)) c (rw (ne_eqb (byte_in page c) 0 n) at w.1),
    )

-- digits keep their low half
digit_kept : every 10 (λ d. eqb (byte_in page (48 + d) % 16) ((48 + d) % 16)) ≡ true
unfolding every pick page place_of byte_in bytes
digit_kept = refl

blank_kept : byte_in page 32 % 16 ≡ 0
unfolding page place_of byte_in pick bytes
blank_kept = refl

kept : (c : ℕ) → Digit c → byte_in page c % 16 ≡ c % 16
kept c h =
    let e : 48 + (c - 48) ≡ c = omega arith in
    subst (λ (c : ℕ). byte_in page c % 16 ≡ c % 16) e
    (eqb-true _ _ ((every_is 10 (λ d. eqb (byte_in page (48 + d) % 16) ((48 + d) % 16))).0 digit_kept (c - 48) (omega arith)))

first_none : char_in page 0 ≡ 0
unfolding page char_in pick bytes
first_none = refl

pub tape_lawful : Lawful tape
unfolding tape printable
tape_lawful =
    record {
      narrow = lit≤ tt;
      wide = lit≤ tt;
      once = lit≤ tt;
      prints = λ c b h t. ((simp says at (taken b t)) (ltb-true 0 (char_in page b) t)).0;
      none = none_taken;
      null = first_none;
      told = λ c b h t. ((simp says at (taken b t)) (ltb-true 0 (char_in page b) t)).1;
      small = λ c b h t. page_small b t;
      some = λ c b h t z. absurd (let y = ltb-true 0 (char_in page b) t in let e : char_in page b ≡ 0 = ap (char_in page) z ∙ first_none in omega arith);
      fits = λ c h. (back_is c h).0;
      apart =
          λ c d h g n e.
          sym ((back_is c h).1 n) ∙ ap (char_in page) e ∙ (back_is d g).1 (λ z. n (e ∙ z));
      blanks = blank_kept;
      digits = kept;
    }

-- the media that a number chooses
pub chosen_lawful : (n : ℕ) (M : Medium) → choice n ≡ on M → Lawful M
unfolding choice pick
chosen_lawful n M e = go (eqb n 1) (eqb n 2) e
  where
    go : (a b : Bool) → pick a (on disc) (pick b (on tape) none) ≡ on M → Lawful M
    go true b z = let y : disc ≡ M = cc in subst Lawful y disc_lawful
    go false true z = let y : tape ≡ M = cc in subst Lawful y tape_lawful
    go false false z = absurd (let y : ◌≡◌ {A = ℕ} 0 1 = cc in omega arith)

pub disc_is : choice 1 ≡ on disc
unfolding choice pick
disc_is = refl

pub tape_is : choice 2 ≡ on tape
unfolding choice pick
tape_is = refl

pub none_is : (n : ℕ) → (choice n ≡ none) ↔ ((n ≡ 1 → ⊥) × (n ≡ 2 → ⊥))
unfolding choice pick
none_is n = (
  λ e. (λ z. some _ (sym disc_is ∙ ap choice (sym z) ∙ e), λ z. some _ (sym tape_is ∙ ap choice (sym z) ∙ e)),
  λ w. rw (ne_eqb n 1 w.0, ne_eqb n 2 w.1),
)
  where
    some : (M : Medium) → on M ≡ none → ⊥
    some M z = let y : ◌≡◌ {A = ℕ} 0 1 = cc in omega arith
