-- The bytes of a text, taken from its numbers one by one.
use Prim.Native.Nat.{ℕ, zero, suc, ◌-◌, ◌/◌, ◌%◌, ◌^◌, ◌≤◌, ◌<◌}
use native.Mathlib.Nat.{pow-suc}
use native.Mathlib.Omega.{arith}
use mathlib.Core.Path.{◌≡◌, refl, sym, ap, ap₂, ◌∙◌}
use mathlib.Core.Bool.{Bool, true, false, not, ◌&&◌, and-true, and_assoc, and_comm}
use mathlib.Core.List.{List, [], ◌∷◌, ◌++◌}
use lib.Dec.{leb, eqb}
use lib.ListN.{length, get_or, get_or-append}
use borrow.Author.Tests.{ne_eqb, leb-true, leb-false}
use Rattle.rules.specs.Places.{pick, every}
use Rattle.rules.specs.Text.{col, same, bytes, one_of}
use Rattle.rules.specs.Disc.{printable}
use Rattle.rules.specs.Kinds.{starts_non_blank, is_code, family, digit1}
use Rattle.rules.specs.Spelled.{allows_text}
use Rattle.rules.proofs.Tests.{and_is, clash}
use Rattle.rules.specs.Carried.{bytes_of}
use Rattle.writer.specs.Coded.{text_of}
use Rattle.writer.specs.Texts.{all_printed, Narrow}
use Rattle.writer.proofs.Spelling.{bytes_one, bytes_more, bytes_long, text_short, text_long}

every_front : (n : ℕ) (p : ℕ → Bool) → every (suc n) p ≡ (p 0 && every n (λ i. p (suc i)))
unfolding every
every_front zero p = sym (and-true (p 0))
every_front (suc n) p = ap (λ (b : Bool). b && p (suc n)) (every_front n p) ∙ and_assoc (p 0) (every n (λ i. p (suc i))) (p (suc n))

printed_first : (b : ℕ) (bs : List ℕ) → all_printed (b ∷ bs) ≡ (printable b && all_printed bs)
printed_first b bs = every_front (length bs) (λ i. printable (get_or (b ∷ bs) i 0))

printed_append : (a b : List ℕ) → all_printed (a ++ b) ≡ (all_printed a && all_printed b)
unfolding every
printed_append [] b = refl
printed_append (x ∷ xs) b =
    printed_first x (xs ++ b)
    ∙ ap (λ (t : Bool). printable x && t) (printed_append xs b)
    ∙ sym (and_assoc (printable x) (all_printed xs) (all_printed b))
    ∙ ap (λ (t : Bool). t && all_printed b) (sym (printed_first x xs))

printed_one : (v : ℕ) → all_printed (v ∷ []) ≡ printable v
unfolding every
printed_one v = refl

-- one byte after the other, from the last
pub printed_more : (k r : ℕ) → 1 < k → all_printed (bytes_of k r) ≡ (all_printed (bytes_of (k - 1) (r / 256)) && printable (r % 256))
printed_more k r h =
    ap all_printed (bytes_more k r h)
    ∙ printed_append (bytes_of (k - 1) (r / 256)) (r % 256 ∷ [])
    ∙ ap (λ (t : Bool). all_printed (bytes_of (k - 1) (r / 256)) && t) (printed_one (r % 256))

pub printed_only : (k r : ℕ) → k ≡ 1 → all_printed (bytes_of k r) ≡ printable r
printed_only k r e = ap all_printed (bytes_one k r (omega arith) (omega arith)) ∙ printed_one r

pub first_more : (k r : ℕ) → 1 < k → col (bytes_of k r) 1 ≡ col (bytes_of (k - 1) (r / 256)) 1
unfolding col
first_more k r h =
    let l = bytes_long (k - 1) (r / 256) in
    ap (λ (bs : List ℕ). get_or bs 0 0) (bytes_more k r h)
    ∙ get_or-append (bytes_of (k - 1) (r / 256)) (r % 256 ∷ []) 0 0 (omega arith)

pub first_only : (k r : ℕ) → k ≡ 1 → col (bytes_of k r) 1 ≡ r
unfolding col
first_only k r e = ap (λ (bs : List ℕ). get_or bs 0 0) (bytes_one k r (omega arith) (omega arith))

pub ruleset bytes_by_one = (printed_more, printed_only, first_more, first_only)

swap : (p q n : Bool) → ((p && q) && n) ≡ ((p && n) && q)
swap true q n = and_comm q n
swap false q n = refl

two_texts : (a b : List ℕ) → 1 ≤ length a → allows_text starts_non_blank (a ++ b) ≡ (allows_text starts_non_blank a && all_printed b)
unfolding allows_text col
two_texts a b h =
    ap₂ (λ (t : Bool) (c : ℕ). t && not (eqb c 32)) (printed_append a b) (get_or-append a b 0 0 h)
    ∙ swap (all_printed a) (all_printed b) (not (eqb (get_or a 0 0) 32))

pub name_short : (w hi lo : ℕ) → w ≤ 8 → allows_text starts_non_blank (text_of w hi lo) ≡ allows_text starts_non_blank (bytes_of w lo)
name_short w hi lo h = ap (allows_text starts_non_blank) (text_short w hi lo h)

pub name_long : (w hi lo : ℕ) → 8 < w → allows_text starts_non_blank (text_of w hi lo)
    ≡ (allows_text starts_non_blank (bytes_of (w - 8) hi) && all_printed (bytes_of 8 lo))
name_long w hi lo h =
    let l = bytes_long (w - 8) hi in
    ap (allows_text starts_non_blank) (text_long w hi lo h) ∙ two_texts (bytes_of (w - 8) hi) (bytes_of 8 lo) (omega arith)

pub ruleset names = (name_short, name_long)

-- a code whose first byte is none
never : (t d : Bool) → false ≡ (pick t false false && d)
unfolding pick
never true d = refl
never false d = refl

code_not : (i b d : ℕ) → 255 < b → false ≡ is_code i (b ∷ d ∷ [])
unfolding is_code family same bytes one_of col
code_not i b d h =
    rw (
      other 80 (omega arith),
      other 75 (omega arith),
      other 71 (omega arith),
      other 72 (omega arith),
      other 82 (omega arith),
      other 86 (omega arith),
      other 69 (omega arith),
      other 65 (omega arith),
      other 87 (omega arith),
      other 83 (omega arith),
    )
    (never (eqb i 1) (digit1 d))
  where
    other : (c : ℕ) → c < 255 → eqb b c ≡ false
    other c g = ne_eqb b c (λ e. omega arith)

pub code_wide : (i v : ℕ) → 65535 < v → is_code i (bytes_of 2 v) ≡ false
unfolding bytes_of
code_wide i v h = sym (code_not i (v / 256) (v % 256) (omega arith))

pub code_two : (v : ℕ) → bytes_of 2 v ≡ v / 256 ∷ v % 256 ∷ []
unfolding bytes_of
code_two v = refl

-- so the numbers of a text that is allowed have no more bytes than it
printed_small : (n v : ℕ) → all_printed (bytes_of (suc n) v) ≡ true → v < 256 ^ suc n
unfolding printable
printed_small zero v e =
    let p = (and_is (leb 32 v) (leb v 126)).0 (sym (printed_only 1 v refl) ∙ e) in
    omega (arith, leb-true v 126 p.1)
printed_small (suc n) v e =
    let k : suc (suc n) - 1 ≡ suc n = omega arith in
    let p = (and_is (all_printed (bytes_of (suc (suc n) - 1) (v / 256))) (printable (v % 256))).0 (sym (printed_more (suc (suc n)) v (omega arith)) ∙ e) in
    let q : v / 256 < 256 ^ suc n = printed_small n (v / 256) (ap (λ (m : ℕ). all_printed (bytes_of m (v / 256))) (sym k) ∙ p.0) in
    omega (arith, pow-suc 256 (suc n))

printed_narrow : (n v : ℕ) → 1 ≤ n → all_printed (bytes_of n v) ≡ true → v < 256 ^ n
printed_narrow zero v h e = absurd (omega arith)
printed_narrow (suc n) v h e = printed_small n v e

pub name_narrow : (w hi lo : ℕ) → 1 ≤ w → allows_text starts_non_blank (text_of w hi lo) ≡ true → Narrow w hi lo
unfolding allows_text
name_narrow w hi lo o e =
    let p = ((and_is (all_printed (text_of w hi lo)) (not (eqb (col (text_of w hi lo) 1) 32))).0 e).0 in
    record {
      short = λ h. printed_narrow w lo o (ap all_printed (sym (text_short w hi lo h)) ∙ p);
      long = λ h.
          printed_narrow (w - 8) hi (omega arith)
          ((and_is (all_printed (bytes_of (w - 8) hi)) (all_printed (bytes_of 8 lo))).0
          (sym (printed_append (bytes_of (w - 8) hi) (bytes_of 8 lo)) ∙ ap all_printed (sym (text_long w hi lo h)) ∙ p)).0;
    }

pub code_narrow : (i w hi lo : ℕ) → w ≡ 2 → is_code i (text_of w hi lo) ≡ true → Narrow w hi lo
code_narrow i w hi lo o e =
    record {
      short = λ h. rw o (small (leb lo 65535) refl);
      long = λ h. absurd (omega arith);
    }
  where
    two : is_code i (bytes_of 2 lo) ≡ true
    two = ap (is_code i) (sym (text_short w hi lo (omega arith) ∙ ap (λ (n : ℕ). bytes_of n lo) o)) ∙ e

    small : (t : Bool) → leb lo 65535 ≡ t → lo < 256 ^ 2
    small true q = omega (arith, leb-true lo 65535 q)
    small false q = clash (sym (code_wide i lo (omega (arith, leb-false lo 65535 q))) ∙ two)
