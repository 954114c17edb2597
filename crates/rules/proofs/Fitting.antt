-- Which kinds of fields the writer has, and in how many columns each can stand.
--   Numeric k w = a field of kind k has a number in w columns
--   Fitting k w = a field of kind k can stand in w columns: a number, one that may be blank, a name or a code
--   Printed bs  = each byte is printed
--   no_text, not_absent, name_says = what a number's field and a name's take
use Prim.Native.Nat.{ℕ, ◌≤◌, ◌<◌}
use mathlib.Core.Path.{◌≡◌, refl, sym, ◌∙◌}
use mathlib.Core.Logic.Iff
use mathlib.Core.Logic.{◌↔◌}
use mathlib.Core.Bool.{true, false}
use mathlib.Core.List.{List}
use lib.ListN.{length, get_or}
use Rattle.rules.specs.Kinds.{Kind, starts_non_blank, coordinate, index, water_depth, time, whole_number, signed_number, signed_decimal}
use Rattle.rules.specs.Kinds.{decimal_number, code, may_be_blank, fits}
use Rattle.rules.specs.Disc.{printable}
use Rattle.rules.specs.Spelled.{with_point, allows_text, allows_nothing}
use Rattle.rules.proofs.Tests.{clash, every_is, and_is}

-- a number's kind in that many columns; the ends of a decimal's range go into them with a point
pub data Numeric : Kind → ℕ → Type 0 where
  one_digit : Numeric index 1
  six_digits : Numeric time 6
  coordinates : {w : ℕ} → Numeric coordinate w
  depths : {w : ℕ} → 4 ≤ w → Numeric water_depth w
  wholes : {m n w : ℕ} → Numeric (whole_number m n) w
  integers : {m n w : ℕ} → Numeric (signed_number m n) w
  decimals : {n w : ℕ} → length (with_point n) ≤ w → Numeric (decimal_number n) w
  either_sign : {m n w : ℕ} → length (with_point m) < w → length (with_point n) ≤ w → Numeric (signed_decimal m n) w

pub data Fitting : Kind → ℕ → Type 0 where
  names : {w : ℕ} → Fitting starts_non_blank w
  codes : {i : ℕ} → Fitting (code i) 2
  given : {k : Kind} {w : ℕ} → Numeric k w → Fitting k w
  if_any : {k : Kind} {w : ℕ} → Numeric k w → Fitting (may_be_blank k) w

-- a number's field takes numbers alone
numbers_only : {k : Kind} {w : ℕ} → Numeric k w → ((bs : List ℕ) → allows_text k bs ≡ false) × (allows_nothing k ≡ false)
unfolding allows_text allows_nothing
numbers_only one_digit = ((λ bs. refl), refl)
numbers_only six_digits = ((λ bs. refl), refl)
numbers_only coordinates = ((λ bs. refl), refl)
numbers_only (depths f) = ((λ bs. refl), refl)
numbers_only wholes = ((λ bs. refl), refl)
numbers_only integers = ((λ bs. refl), refl)
numbers_only (decimals f) = ((λ bs. refl), refl)
numbers_only (either_sign f g) = ((λ bs. refl), refl)

pub no_text : {k : Kind} {w : ℕ} → Numeric k w → (bs : List ℕ) → allows_text k bs ≡ true → ⊥
no_text f bs e = clash (sym ((numbers_only f).0 bs) ∙ e)

pub not_absent : {k : Kind} {w : ℕ} → Numeric k w → allows_nothing k ≡ true → ⊥
not_absent f e = clash (sym (numbers_only f).1 ∙ e)

-- every byte of a name is printed, and its first column is not blank
abbrev pub Printed : List ℕ → Type 0
Printed bs = (i : ℕ) → i < length bs → printable (get_or bs i 0) ≡ true

pub name_says : (bs : List ℕ) → (allows_text starts_non_blank bs ≡ true) ↔ (Printed bs × (fits starts_non_blank bs ≡ true))
unfolding allows_text fits
name_says bs = simp (and_is, every_is) Iff.rfl
