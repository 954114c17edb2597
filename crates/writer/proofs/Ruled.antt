-- A field's rule, by what the code holds of it.
use Prim.Native.Nat.{ℕ, ◌+◌, ◌≤◌}
use native.Mathlib.Omega.{arith}
use mathlib.Core.Path.{◌≡◌, refl, sym, ap, ◌∙◌, subst}
use mathlib.Core.Bool.{Bool, true, false, not, ◌&&◌}
use mathlib.Core.List.{List, []}
use borrow.Author.Tests.{eqb-true}
use lib.IntN.{ℤ}
use Rattle.rules.specs.Kinds.{Kind as PaperKind}
use Rattle.rules.specs.Spelled.{allows_text, allows_number, allows_nothing, allows, spelled_as}
use Rattle.rules.specs.Writer.{width_of}
use Rattle.rules.proofs.Tests.{clash}
use Rattle.fields.specs.Paper.{kind, wide, sized}
use Rattle.fields.specs.declared.Kind.{Kind}
use Rattle.fields.specs.declared.Kind.TheVariants.{StartsNonBlank, DigitsOnly, Coordinate, Index, WaterDepth, Time}
use Rattle.fields.specs.declared.Kind.TheVariants.{WholeNumber, SignedNumber, SignedDecimal, DecimalNumber, Code}
use Rattle.fields.proofs.Widths.{sized_is}
use Rattle.records.specs.Coded.{or_blank, row_of}
use Rattle.records.specs.declared.table.Row.{Row}
use Rattle.rules.specs.Carried.{bytes_of}
use Rattle.writer.specs.Coded.{text_of, value_of}
use Rattle.writer.specs.Texts.{Starts, Narrow}
use Rattle.writer.specs.declared.values.Value.{Value}
use Rattle.writer.specs.declared.values.Value.TheVariants.{Text}
use Rattle.std.specs.Prelude.{Option, Some}
use Rattle.fields.specs.declared.Name.{Name}
use mir.ValLaws.{to_z-of_z}
use Rattle.writer.proofs.Spelling.{started, text_short}
use Rattle.writer.proofs.Printed.{name_narrow, code_narrow}

module _ (w : Row) (s : sized w.kind w.first w.last ≡ true) where
  pub width_any : 1 ≤ width_of (row_of w).columns
  width_any = let h = sized_is w.kind w.first w.last s in omega arith

  pub width_most : width_of (row_of w).columns ≤ 16
  width_most = let h = sized_is w.kind w.first w.last s in omega arith

  pub width_two : (i : ℕ) → w.kind ≡ Code i → width_of (row_of w).columns ≡ 2
  width_two i e =
      let h = sized_is w.kind w.first w.last s in
      let q = eqb-true w.last (w.first + 1) (subst (λ (k : Kind). wide k w.first w.last ≡ true) e h.1.1.1.1) in
      omega arith

pub two_text : (w hi lo : ℕ) → w ≡ 2 → text_of w hi lo ≡ bytes_of 2 lo
two_text w hi lo e = text_short w hi lo (omega arith) ∙ ap (λ (n : ℕ). bytes_of n lo) e

-- a field that may be blank
pub text_allowed : (b : Bool) (k : PaperKind) (bs : List ℕ) → allows_text (or_blank b k) bs ≡ (not b && allows_text k bs)
unfolding allows_text
text_allowed true k bs = refl
text_allowed false k bs = refl

pub number_allowed : (b : Bool) (k : PaperKind) (z : ℤ) → allows_number (or_blank b k) z ≡ allows_number k z
unfolding allows_number
number_allowed true k z = refl
number_allowed false k z = refl

pub spelled_kept : (b : Bool) (k : PaperKind) (w : ℕ) (z : ℤ) → spelled_as (or_blank b k) w z ≡ spelled_as k w z
unfolding spelled_as
spelled_kept true k w z = refl
spelled_kept false k w z = refl

pub nothing_allowed : (b : Bool) (k : Kind) → allows_nothing (or_blank b (kind k)) ≡ b
unfolding allows_nothing
nothing_allowed true k = refl
nothing_allowed false StartsNonBlank = refl
nothing_allowed false DigitsOnly = refl
nothing_allowed false Coordinate = refl
nothing_allowed false Index = refl
nothing_allowed false WaterDepth = refl
nothing_allowed false Time = refl
nothing_allowed false (WholeNumber m n) = refl
nothing_allowed false (SignedNumber m n) = refl
nothing_allowed false (SignedDecimal m n) = refl
nothing_allowed false (DecimalNumber n) = refl
nothing_allowed false (Code i) = refl

pub ruleset fields = (to_z-of_z, text_allowed, number_allowed, nothing_allowed)

-- a text that is allowed has no more bytes than its columns
narrow : (b : Bool) (k : Kind) (w hi lo : ℕ) → 1 ≤ w → ((i : ℕ) → k ≡ Code i → w ≡ 2) → allows_text (or_blank b (kind k)) (text_of w hi lo) ≡ true
    → Narrow w hi lo
unfolding allows_text
narrow true k w hi lo o c e = clash e
narrow false StartsNonBlank w hi lo o c e = name_narrow w hi lo o e
narrow false DigitsOnly w hi lo o c e = clash e
narrow false Coordinate w hi lo o c e = clash e
narrow false Index w hi lo o c e = clash e
narrow false WaterDepth w hi lo o c e = clash e
narrow false Time w hi lo o c e = clash e
narrow false (WholeNumber m n) w hi lo o c e = clash e
narrow false (SignedNumber m n) w hi lo o c e = clash e
narrow false (SignedDecimal m n) w hi lo o c e = clash e
narrow false (DecimalNumber n) w hi lo o c e = clash e
narrow false (Code i) w hi lo o c e = code_narrow i w hi lo (c i refl) e

pub text_narrow : (w : Row) → sized w.kind w.first w.last ≡ true → (v : Option Value) (m : Name) → v ≡ Some (Text m)
    → allows (row_of w).kind (value_of (width_of (row_of w).columns) v) ≡ true → Narrow (width_of (row_of w).columns) m.hi m.lo
unfolding allows
text_narrow w s v m e a =
    let width = width_of (row_of w).columns in
    narrow w.blank w.kind width m.hi m.lo (width_any w s) (width_two w s)
    (sym (ap (λ (u : Option Value). allows (row_of w).kind (value_of width u)) e) ∙ a)

-- the text of a value
pub no_text : (b : List ℕ) → Starts b [] 0
no_text b = record { ends = refl; front = refl }

pub ruleset texts = (to_z-of_z, started, spelled_kept, no_text)
