-- Sixteen numbers as values.
--   place_signed                          = a signed number of 64 bits
--   narrow                                = the numbers that go into a relation's fields have 32 bits
--   takes_is, text_is                     = 22 of a relation, and its line
--   point_takes_is, point_text_is         = 22 of a point, and its line
use Prim.Native.Nat.{ℕ, zero, suc, ◌-◌, ◌^◌, ◌≤◌, ◌<◌}
use native.Mathlib.Omega.{arith}
use mathlib.Core.Path.{◌≡◌, refl, sym, ap, ◌∙◌}
use mathlib.Core.Bool.{Bool, true, false, ◌&&◌}
use mathlib.Core.List.{List, [], ◌∷◌}
use lib.Dec.{leb, ltb}
use lib.IntN.{pos, negsuc}
use lib.ListN.{length, get_or}
use borrow.Author.Tests.{ltb-true, ltb-false, leb-true}
use mir.Syntax.{w64}
use mir.Val.{to_z, of_z}
use mir.ValLaws.{to_z-of_z, to_z_pos}
use Rattle.rules.specs.Places.{pick}
use Rattle.rules.specs.Layout.{sps93}
use Rattle.rules.specs.Kinds.{whole_number, index}
use Rattle.rules.specs.Relations.{Reach as PaperReach}
use Rattle.rules.specs.Lines.{letter, kind_of}
use Rattle.rules.specs.Rows.{Row, point_rows, relation_rows}
use Rattle.rules.specs.Values.{Value as PaperValue, nothing}
use Rattle.rules.specs.Spelled.{up_from, allows_number, allows, goes_into}
use Rattle.rules.specs.Writer.{width_of, writable, point_goes, line_of, counted}
use Rattle.rules.specs.Carried.{of_place, state_given, count_given, point_given, relation_given, reach_given}
use Rattle.rules.proofs.Tests.{and_is, clash}
use Rattle.records.specs.Coded.{no_row}
use Rattle.writer.specs.Coded.{text_of}
use Rattle.writer.specs.Given.{Narrow, point_takes, point_text, relation_takes, relation_text}

-- a signed number of 64 bits
pub place_signed : (v : ℕ) → v < 2 ^ 64 → to_z w64 v ≡ of_place v
unfolding of_place pick
place_signed v g = go (ltb v (2 ^ 63)) refl
  where
    go : (t : Bool) → ltb v (2 ^ 63) ≡ t → to_z w64 v ≡ pick t (pos v) (negsuc (2 ^ 64 - 1 - v))
    go true e = to_z_pos w64 v (omega (arith, ltb-true v (2 ^ 63) e))
    go false e =
        let h = ltb-false v (2 ^ 63) e in
        let b : of_z w64 (negsuc (2 ^ 64 - 1 - v)) ≡ v = omega arith in
        ap (to_z w64) (sym b) ∙ to_z-of_z w64 (negsuc (2 ^ 64 - 1 - v)) (record { sfits = omega arith })

pub ruleset signed = (place_signed, to_z-of_z)

-- a number that a field takes
up_few : (a b v : ℕ) → up_from a b (of_place v) ≡ true → v ≤ b
unfolding up_from of_place pick
up_few a b v = go (ltb v (2 ^ 63))
  where
    go : (t : Bool) → up_from a b (pick t (pos v) (negsuc (2 ^ 64 - 1 - v))) ≡ true → v ≤ b
    go true e = leb-true v b ((and_is (leb a v) (leb v b)).0 e).1
    go false e = clash e

whole_few : (a b w v : ℕ) → goes_into (whole_number a b) w (count_given v) ≡ true → v ≤ b
unfolding goes_into allows allows_number
whole_few a b w v e = up_few a b v ((and_is _ _).0 e).0

index_few : (w v : ℕ) → goes_into index w (count_given v) ≡ true → v ≤ 9
unfolding goes_into allows allows_number
index_few w v e = up_few 1 9 v ((and_is _ _).0 e).0

-- a value that goes into its field with all others
goes_at : (j : ℕ) (ws : List Row) (xs : List PaperValue) → j < length ws → writable ws xs ≡ true
    → goes_into (get_or ws j no_row).kind (width_of (get_or ws j no_row).columns) (get_or xs j nothing) ≡ true
unfolding writable
goes_at j [] xs h e = absurd (omega arith)
goes_at j (w ∷ ws) [] h e = clash e
goes_at zero (w ∷ ws) (x ∷ xs) h e = ((and_is (goes_into w.kind (width_of w.columns) x) (writable ws xs)).0 e).0
goes_at (suc j) (w ∷ ws) (x ∷ xs) h e =
    goes_at j ws xs (omega arith) ((and_is (goes_into w.kind (width_of w.columns) x) (writable ws xs)).0 e).1

pub narrow : (v : ℕ → ℕ) → writable (relation_rows sps93) (relation_given v) ≡ true → Narrow v
unfolding relation_rows sps93 relation_given
narrow v e =
    record {
      number = let z = whole_few 0 9999 4 (v 1) (goes_at 1 (relation_rows sps93) (relation_given v) (omega arith) e) in omega arith;
      from = let z = whole_few 1 9999 4 (v 8) (goes_at 7 (relation_rows sps93) (relation_given v) (omega arith) e) in omega arith;
      upto = let z = whole_few 1 9999 4 (v 9) (goes_at 8 (relation_rows sps93) (relation_given v) (omega arith) e) in omega arith;
      step = let z = index_few 1 (v 10) (goes_at 9 (relation_rows sps93) (relation_given v) (omega arith) e) in omega arith;
      from_receiver = let z = whole_few 0 99999999 8 (v 13) (goes_at 11 (relation_rows sps93) (relation_given v) (omega arith) e) in omega arith;
      to_receiver = let z = whole_few 0 99999999 8 (v 14) (goes_at 12 (relation_rows sps93) (relation_given v) (omega arith) e) in omega arith;
      receiver_index = let z = index_few 1 (v 15) (goes_at 13 (relation_rows sps93) (relation_given v) (omega arith) e) in omega arith;
    }

-- 22 of a relation, and its line
pub takes_is : (v : ℕ → ℕ) (r : PaperReach) → (Narrow v → r ≡ reach_given v)
    → relation_takes v ≡ (writable (relation_rows sps93) (relation_given v) && counted r)
unfolding relation_takes
takes_is v r f = go (writable (relation_rows sps93) (relation_given v)) refl
  where
    go : (t : Bool) → writable (relation_rows sps93) (relation_given v) ≡ t → (t && counted (reach_given v)) ≡ (t && counted r)
    go true e = ap counted (sym (f (narrow v e)))
    go false e = refl

pub text_is : (v : ℕ → ℕ) → relation_text v ≡ line_of 88 (relation_rows sps93) (relation_given v)
unfolding relation_text letter pick
text_is v = refl

-- those of a point
pub point_takes_is : (b : ℕ) (v : ℕ → ℕ) → point_takes b v ≡ point_goes b (text_of 2 0 (v 4)) (state_given (v 5)) (point_given v)
unfolding point_takes text_of pick
point_takes_is b v = refl

pub point_text_is : (b : ℕ) (v : ℕ → ℕ) → point_text b v ≡ line_of (letter (kind_of b)) (point_rows sps93 (kind_of b)) (point_given v)
unfolding point_text
point_text_is b v = refl

pub ruleset points = (point_takes_is, point_text_is)
