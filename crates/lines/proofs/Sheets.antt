-- What the sheet of a file is, for those who read it.
--   lawful      = each medium is lawful
--   layout_is   = files are read by the text of 1993
--   row_length  = a line has 80 columns
--   row_small   = they hold bytes, where 3 is met
--   row_own, own_is, row_told = a line and its own bytes; rank_is, rank_same = the bytes of characters are the medium's
--   count_by, left_by, all_by = how many lines the code counts, by the stride that it has at hand
--   place, row_from, stray_from_lem, clean_from = a line begins at its stride times its number
use Rattle.std.proofs.Common.{◌≡◌, ℕ, zero, suc, ◌+◌, ◌-◌, ◌*◌, ◌/◌, ◌%◌, ◌<◌, ◌≤◌, true, ltb, List, [], ◌∷◌, length, get_or, take, drop, sym, refl, ap, ◌∙◌}
use Rattle.std.proofs.Common.{suc-mul, arith, lit≤, length-drop, length-take, get_or-drop, get_or-take, take-take, ltb-true, lt-ltb}
use Rattle.rules.specs.Layout.{sps93}
use Rattle.rules.specs.Names.{ranked}
use Rattle.rules.specs.Medium.{sheet}
use Rattle.rules.specs.Sheet.{all_lines}
use Rattle.rules.specs.Disc.{disc}
use Rattle.rules.specs.MeetsDisc.{Proper}
use Rattle.rules.specs.Tape.{page, char_in, tape}
use Rattle.rules.specs.Places.{least}
use Rattle.rules.specs.Form.{stray_from, stray, ending}
use Rattle.rules.proofs.Tests.{yes_no, clash}
use Rattle.rules.proofs.Least.{least_none}
use Rattle.rules.proofs.Medium.{own_all, ranked_at, ranked_back}
use Rattle.rules.proofs.Medium.{Lawful, room as medium_room, row_length as medium_length, clean_is, prints_at}
use Rattle.rules.proofs.Media.{disc_lawful, tape_lawful}
use Rattle.rules.proofs.Disc.{proper_is}
use Rattle.lines.specs.Reading.{medium_on, medium_of, sheet_of, columns_at}
use Rattle.lines.specs.declared.Medium.{Medium}
use Rattle.lines.specs.declared.Medium.TheVariants.{Disc, Tape}
use Rattle.lines.specs.declared.Reading.{Reading}

on_lawful : (m : Medium) → Lawful (medium_on m)
on_lawful Disc = disc_lawful
on_lawful Tape = tape_lawful

pub lawful : (how : Reading) → Lawful (medium_of how)
lawful how = on_lawful how.medium

pub layout_is : (how : Reading) (f : List ℕ) → (sheet_of how f).layout ≡ sps93
unfolding sheet_of sheet
layout_is how f = refl

beyond : (l : List ℕ) (c : ℕ) → length l ≤ c → get_or l c 0 ≡ 0
beyond [] c h = refl
beyond (x ∷ xs) zero h = absurd (omega arith)
beyond (x ∷ xs) (suc c) h = beyond xs c (omega arith)

module _ (how : Reading) (f : List ℕ) (k : ℕ) (h : k < (sheet_of how f).count) where
  pub row_length : length ((sheet_of how f).row k) ≡ 80
  unfolding sheet_of
  row_length = medium_length (medium_of how) (lawful how) sps93 f k h

  pub row_small : stray (sheet_of how f) k ≡ 0 → (c : ℕ) → get_or ((sheet_of how f).row k) c 0 < 256
  unfolding sheet_of
  row_small s c =
      yes_no (ltb c 80)
      (λ t. let p = (prints_at (medium_of how) (lawful how) sps93 f k h s c (ltb-true c 80 t)).1 in omega arith)
      (λ t.
      let n = row_length in
      let m : c < 80 → ⊥ = λ l. t (lt-ltb c 80 l) in
      rw (beyond ((sheet_of how f).row k) c (omega arith)) (lit≤ tt))

-- the same of a stride that the code has at hand
module _ (how : Reading) (w : ℕ) (e : w ≡ (medium_of how).stride) where
  pub width : (80 ≤ w) × (w ≤ 82)
  width = let l = lawful how in (rw e l.narrow, rw e l.wide)

  module _ (f : List ℕ) where
    pub count_by : (c : ℕ) → c ≡ (medium_of how).closing → length f / w - c ≡ (sheet_of how f).count
    unfolding sheet_of sheet
    count_by c q = rw (e, q)

    pub all_by : length f / w ≡ all_lines (sheet_of how f)
    unfolding sheet_of sheet
    all_by = rw e (omega arith)

    pub closing_by : (c : ℕ) → c ≡ (medium_of how).closing → c ≡ (sheet_of how f).closing
    unfolding sheet_of sheet
    closing_by c p = p

    pub left_by : length f % w ≡ (sheet_of how f).left
    unfolding sheet_of sheet
    left_by = rw e

    module _ (k : ℕ) where
      pub row_from : ranked (medium_of how).char_of (take 80 (drop (w * k) f)) ≡ (sheet_of how f).row k
      unfolding sheet_of sheet
      row_from = rw e

      pub stray_from_lem : stray_from (medium_of how).takes 1 (take w (drop (w * k) f)) ≡ stray (sheet_of how f) k
      unfolding stray sheet_of sheet
      stray_from_lem = rw e

      module _ (h : k < (sheet_of how f).count) where
        pub place : ((80 ≤ w) × (w ≤ 82)) × (w * k + w ≤ length f)
        unfolding sheet_of
        place = (width, rw e (medium_room (medium_of how) (lawful how) sps93 f k h))

        pub clean_from : ((c : ℕ) → c < w → (medium_of how).takes (c + 1) (get_or f (w * k + c) 0) ≡ true) → stray (sheet_of how f) k ≡ 0
        unfolding sheet_of
        clean_from g = (clean_is (medium_of how) (lawful how) sps93 f k h).1 (rw e at g)

-- no more lines than bytes
fewer : (w k : ℕ) → 1 ≤ w → k ≤ w * k
fewer zero k h = absurd (omega arith)
fewer (suc w) k h = let e = suc-mul w k in omega arith

pub within : (how : Reading) (f : List ℕ) (k : ℕ) → k < (sheet_of how f).count → k < length f
within how f k h =
    let w = (medium_of how).stride in
    let p = place how w refl f k h in
    let q = fewer w k (omega arith) in
    omega arith

-- how many lines of the set there are, by the medium
pub disc_count : (how : Reading) → how.medium ≡ Disc → (f : List ℕ) → length f / 82 ≡ (sheet_of how f).count
unfolding sheet_of sheet disc
disc_count how e f = rw e (omega arith)

pub tape_count : (how : Reading) → how.medium ≡ Tape → (f : List ℕ) (n : ℕ) → n ≡ length f / 80 - 1 → n ≡ (sheet_of how f).count
unfolding sheet_of sheet tape
tape_count how e f n p = p ∙ (rw e)

-- a line of the tape form: 80 bytes, each of which has a character
module _ (how : Reading) (e : how.medium ≡ Tape) (f : List ℕ) (k : ℕ) (h : k < (sheet_of how f).count) where
  pub tape_place : 80 * k + 80 ≤ length f
  unfolding tape
  tape_place = rw e at (place how (medium_of how).stride refl f k h).1

  pub tape_clean : (l : List ℕ) → l ≡ columns_at f (80 * k) → ((c : ℕ) → c < 80 → ltb 0 (char_in page (get_or l c 0)) ≡ true) → stray (sheet_of how f) k ≡ 0
  unfolding tape
  tape_clean l q g =
      clean_from how 80 (rw e) f k h
      (λ c d.
      rw e
      (ap (λ (b : ℕ). ltb 0 (char_in page b)) (sym (get_or-take 80 (drop (80 * k) f) c 0 d ∙ get_or-drop (80 * k) f c 0))
      ∙ ap (λ (m : List ℕ). ltb 0 (char_in page (get_or m c 0))) (sym q) ∙ g c d))

-- a line of the disc form: 82 bytes, each of which may stand in its column
module _ (how : Reading) (e : how.medium ≡ Disc) (f : List ℕ) (k : ℕ) (h : k < (sheet_of how f).count) where
  pub disc_place : 82 * k + 82 ≤ length f
  unfolding disc
  disc_place = rw e at (place how (medium_of how).stride refl f k h).1

  pub disc_clean : ((c : ℕ) → c < 82 → Proper (c + 1) (get_or f (82 * k + c) 0)) → stray (sheet_of how f) k ≡ 0
  unfolding disc
  disc_clean g = clean_from how 82 (rw e) f k h (λ c l. rw e ((proper_is (c + 1) _).1 (g c l)))

pub ranked_own : (xs : List ℕ) → ranked (λ b. b) xs ≡ xs
unfolding ranked
ranked_own [] = refl
ranked_own (x ∷ xs) = ap (λ (l : List ℕ). x ∷ l) (ranked_own xs)

-- what the code has of a line and of the end, by the medium
module _ (how : Reading) (w : ℕ) (q : w ≡ (medium_of how).stride) (f : List ℕ) where
  pub disc_row : how.medium ≡ Disc → (k : ℕ) (l : List ℕ) → l ≡ columns_at f (w * k) → l ≡ (sheet_of how f).row k
  unfolding disc
  disc_row e k l p =
      p ∙ sym (ranked_own (columns_at f (w * k))) ∙ ap (λ (m : Medium). ranked (medium_on m).char_of (columns_at f (w * k))) (sym e)
      ∙ row_from how w q f k

  pub tape_row : how.medium ≡ Tape → (k : ℕ) (l t : List ℕ) → l ≡ columns_at f (w * k) → t ≡ ranked (char_in page) l → t ≡ (sheet_of how f).row k
  unfolding tape
  tape_row e k l t p r =
      r ∙ ap (ranked (char_in page)) p ∙ ap (λ (m : Medium). ranked (medium_on m).char_of (columns_at f (w * k))) (sym e)
      ∙ row_from how w q f k

  pub disc_end : how.medium ≡ Disc → length f / w ≡ ending (sheet_of how f)
  unfolding ending sheet_of sheet disc
  disc_end e = all_by how w q f ∙ sym (rw e (least_none _ _ (λ k h t. clash t)))

  pub tape_end : how.medium ≡ Tape → (e : ℕ) → e ≡ least (length f / w) (λ k. tape.ends (take 80 (drop (80 * k) f))) → e ≡ ending (sheet_of how f)
  unfolding ending sheet_of sheet tape
  tape_end m e p = p ∙ ap (λ (n : ℕ). least n (λ k. tape.ends (take 80 (drop (80 * k) f)))) (all_by how w q f) ∙ rw m

  pub tape_room : how.medium ≡ Tape → 80 * (length f / w) ≤ length f
  unfolding tape
  tape_room m = let z : w ≡ 80 = q ∙ rw m in rw z (omega arith)

  pub own_row : (k : ℕ) (l : List ℕ) → l ≡ columns_at f (w * k) → l ≡ take 80 ((sheet_of how f).raw k)
  unfolding sheet_of sheet
  own_row k l p = p ∙ sym (take-take 80 (medium_of how).stride _ (lawful how).narrow ∙ ap (λ (n : ℕ). columns_at f (n * k)) (sym q))

-- a line is the characters of its own bytes
pub row_own : (how : Reading) (f : List ℕ) (k : ℕ) → (sheet_of how f).row k ≡ ranked (medium_of how).char_of (take 80 ((sheet_of how f).raw k))
unfolding sheet_of sheet
row_own how f k = ap (ranked (medium_of how).char_of) (sym (take-take 80 (medium_of how).stride _ (lawful how).narrow))

pub rank_is : (how : Reading) (f : List ℕ) → (sheet_of how f).rank ≡ (medium_of how).byte_of
unfolding sheet_of sheet
rank_is how f = refl

pub rank_same : (how : Reading) (f g : List ℕ) → (sheet_of how f).rank ≡ (sheet_of how g).rank
rank_same how f g = rank_is how f ∙ sym (rank_is how g)

-- the medium's own bytes of a line that 3 has passed: they are its characters' bytes
module _ (how : Reading) (f : List ℕ) (k : ℕ) (h : k < (sheet_of how f).count) (s : stray (sheet_of how f) k ≡ 0) where
  abbrev line : List ℕ
  line = columns_at f ((medium_of how).stride * k)

  line_length : length line ≡ 80
  line_length = let p = place how (medium_of how).stride refl f k h in simp (length-take, length-drop) (omega arith)

  taken_at : (i : ℕ) → i < 80 → (medium_of how).takes (i + 1) (get_or line i 0) ≡ true
  unfolding sheet_of
  taken_at i l =
      let w = (lawful how).narrow in
      rw (get_or-take 80 (drop ((medium_of how).stride * k) f) i 0 l, get_or-drop ((medium_of how).stride * k) f i 0)
      ((clean_is (medium_of how) (lawful how) sps93 f k h).0 s i (omega arith))

  pub own_is : take 80 ((sheet_of how f).raw k) ≡ ranked (sheet_of how f).rank ((sheet_of how f).row k)
  unfolding sheet_of sheet
  own_is =
      take-take 80 (medium_of how).stride _ (lawful how).narrow
      ∙ sym
      (ranked_back (medium_of how).char_of (medium_of how).byte_of line
      (own_all (medium_of how).char_of (medium_of how).byte_of line
      (λ i l. let n = line_length in (lawful how).told (i + 1) _ (omega arith) (taken_at i (omega arith)))))

  -- each of its characters has a byte
  char_at : (i : ℕ) → i < 80 → get_or ((sheet_of how f).row k) i 0 ≡ (medium_of how).char_of (get_or line i 0)
  unfolding sheet_of sheet
  char_at i l = ranked_at (medium_of how).char_of line i (let n = line_length in omega arith)

  pub row_told : (i : ℕ) → (sheet_of how f).rank (get_or ((sheet_of how f).row k) i 0) ≡ 0 → get_or ((sheet_of how f).row k) i 0 ≡ 0
  row_told i e =
      yes_no (ltb i 80)
      (λ t.
      let l = ltb-true i 80 t in
      let b = (lawful how).told (i + 1) _ (omega arith) (taken_at i l) in
      let z : (medium_of how).byte_of ((medium_of how).char_of (get_or line i 0)) ≡ 0 =
      sym (ap (λ (g : ℕ → ℕ). g ((medium_of how).char_of (get_or line i 0))) (rank_is how f)) ∙ sym (ap (sheet_of how f).rank (char_at i l)) ∙ e in
      absurd ((lawful how).some (i + 1) _ (omega arith) (taken_at i l) (sym b ∙ z)))
      (λ t.
      let n = row_length how f k h in
      let m : i < 80 → ⊥ = λ l. t (lt-ltb i 80 l) in
      beyond ((sheet_of how f).row k) i (omega arith))
