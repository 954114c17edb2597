-- The letter of a line, and 5 of a line that has it.
--   letter_printed, no_header, kind_letter = it is printed, it is no H, and it tells the file of a point
--   point_5, relation_5 = 5 asks the fields of the table that the letter tells
use Prim.Native.Nat.{ℕ, zero, suc, ◌≤◌}
use native.Mathlib.Omega.{arith}
use mathlib.Core.Path.{◌≡◌, refl, sym, ◌∙◌}
use mathlib.Core.Logic.{◌↔◌}
use mathlib.Core.Bool.{true, false, not}
use mathlib.Core.List.{List}
use lib.Dec.{eqb}
use borrow.Author.Tests.{eqb-true}
use Rattle.rules.specs.Places.{pick}
use Rattle.rules.specs.Plan.{file_x}
use Rattle.rules.specs.Text.{col}
use Rattle.rules.specs.Disc.{printable}
use Rattle.rules.specs.Layout.{sps93, letter_column}
use Rattle.rules.specs.Lines.{letter, kind_of, is_header, is_marker}
use Rattle.rules.specs.Rows.{point_rows, relation_rows}
use Rattle.rules.specs.Form.{fields_fit, rule5}
use Rattle.rules.proofs.Tests.{clash, and_is, not_is}
use Rattle.rules.proofs.Breach.{Met}
use Rattle.rules.proofs.Padded.{either}

pub letter_printed : (i : ℕ) → printable (letter i) ≡ true
unfolding letter printable
letter_printed i = either (λ (b : ℕ). printable b ≡ true) _ 82 _ refl (either (λ (b : ℕ). printable b ≡ true) _ 83 88 refl refl)

letter_no_head : (i : ℕ) → letter i ≡ 72 → ⊥
unfolding letter
letter_no_head i =
    either (λ (b : ℕ). b ≡ 72 → ⊥) _ 82 _ (λ e. omega arith) (either (λ (b : ℕ). b ≡ 72 → ⊥) _ 83 88 (λ e. omega arith) (λ e. omega arith))

pub no_header : (i : ℕ) (l : List ℕ) → col l letter_column ≡ letter i → not (is_header l) ≡ true
unfolding is_header
no_header i l e = (not_is _).1 (λ t. letter_no_head i (sym e ∙ eqb-true (col l letter_column) 72 t))

pub kind_letter : (i : ℕ) → 1 ≤ i → i ≤ 2 → kind_of (letter i) ≡ i
unfolding letter kind_of pick
kind_letter zero g h = absurd (omega arith)
kind_letter (suc zero) g h = refl
kind_letter (suc (suc zero)) g h = refl
kind_letter (suc (suc (suc i))) g h = absurd (omega arith)

-- 5 of a line that is no header
module _ (i k : ℕ) (l : List ℕ) (n : not (is_header l) ≡ true) where
  header_off : is_header l ≡ true → ⊥
  header_off = (not_is (is_header l)).0 n

  pub point_5 : (i ≡ file_x → ⊥) → Met (rule5 i sps93 k l) ↔ Met (fields_fit i k (is_marker sps93 l) l (point_rows sps93 i))
  unfolding rule5
  point_5 h =
      let x : eqb i file_x ≡ true → ⊥ = λ t. h (eqb-true i file_x t) in (
        λ g. g.1.0 ((and_is _ _).1 (n, (not_is _).1 x)),
        λ f. ((λ t. absurd (header_off t)), ((λ t. f), λ t. absurd (x ((and_is (not (is_header l)) (eqb i file_x)).0 t).1))),
      )

pub relation_5 : (k : ℕ) (l : List ℕ) → not (is_header l) ≡ true → Met (rule5 file_x sps93 k l) ↔ Met (fields_fit file_x k false l (relation_rows sps93))
unfolding rule5
relation_5 k l n = (
  λ g. g.1.1 ((and_is (not (is_header l)) _).1 (n, refl)),
  λ f. ((λ t. absurd (header_off file_x k l n t)), ((λ t. clash ((and_is (not (is_header l)) false).0 t).1), λ t. f)),
)
