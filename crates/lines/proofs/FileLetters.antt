-- The letters of the files.
--   letter_r, letter_s, letter_x  = the letter of a file
--   kind_r .. kind_none           = the file of a letter
--   few_kinds                     = there are three
use Rattle.std.proofs.Common.{◌≡◌, ℕ, ◌≤◌, Bool, true, false, eqb, arith, ne_eqb}
use Rattle.rules.specs.Places.{pick}
use Rattle.rules.specs.Plan.{file_r, file_s, file_x}
use Rattle.rules.specs.Lines.{letter, kind_of}

-- the letter of a file
pub letter_r : (i : ℕ) → i ≡ file_r → 82 ≡ letter i
unfolding letter pick
letter_r i e = rw e

pub letter_s : (i : ℕ) → i ≡ file_s → 83 ≡ letter i
unfolding letter pick
letter_s i e = rw e

pub letter_x : (i : ℕ) → (i ≡ file_r → ⊥) → (i ≡ file_s → ⊥) → 88 ≡ letter i
unfolding letter pick
letter_x i n m = rw (ne_eqb _ _ n, ne_eqb _ _ m)

-- the file of a letter
module _ (b : ℕ) where
  pub kind_r : b ≡ 82 → 1 ≡ kind_of b
  unfolding kind_of pick
  kind_r e = rw e

  pub kind_s : b ≡ 83 → 2 ≡ kind_of b
  unfolding kind_of pick
  kind_s e = rw e

  pub kind_x : b ≡ 88 → 3 ≡ kind_of b
  unfolding kind_of pick
  kind_x e = rw e

  pub kind_none : (b ≡ 82 → ⊥) → (b ≡ 83 → ⊥) → (b ≡ 88 → ⊥) → 0 ≡ kind_of b
  unfolding kind_of pick
  kind_none n m o = rw (ne_eqb b 82 n, ne_eqb b 83 m, ne_eqb b 88 o)

  pub few_kinds : (i : ℕ) → i ≡ kind_of b → i ≤ 3
  unfolding kind_of pick
  few_kinds i e = go (eqb b 82) (eqb b 83) (eqb b 88) i e
    where
      go : (r s x : Bool) (i : ℕ) → i ≡ pick r file_r (pick s file_s (pick x file_x 0)) → i ≤ 3
      go true s x i e = omega arith
      go false true x i e = omega arith
      go false false true i e = omega arith
      go false false false i e = omega arith
