-- What is written is printed: every byte of a field, of whatever kind.
--   Prints bs       = each byte is printed, said byte by byte; Printed has it by places
--   spelled_prints  = each byte of a written field is
use Prim.Native.Nat.{ℕ, zero, suc, ◌-◌, ◌/◌, ◌%◌, ◌≤◌}
use Prim.Native.String.{String, [] as empty, ◌∷◌ as ◌∷ₛ◌}
use Prim.Native.Char.{code as ascii}
use native.Mathlib.Nat.{not-suc-le-zero, le_of_suc-le-suc}
use native.Mathlib.Omega.{arith}
use mathlib.Core.Path.{◌≡◌, refl, sym, subst}
use mathlib.Core.Logic.{⊎_elim}
use mathlib.Core.Bool.{true}
use mathlib.Core.List.{List, [], ◌∷◌, ◌++◌}
use lib.IntN.{ℤ}
use lib.ListN.{length, replicate}
use borrow.Author.Tests.{eqb-true, eq-eqb}
use lib.Dec.{eqb}
use Rattle.rules.specs.Text.{col, bytes}
use Rattle.rules.specs.Kinds.{Kind}
use Rattle.rules.specs.MeetsFields.{Digits, OneOf, Family, Code}
use Rattle.rules.specs.Disc.{printable}
use Rattle.rules.specs.Figures.{figure, decimal_of}
use Rattle.rules.specs.Values.{Value, text, number, nothing}
use Rattle.rules.specs.Spelled.{padded, with_point, spelled_as, spelled, spell, allows, allows_text, columns_hold, goes_into}
use Rattle.rules.proofs.Tests.{says, clash, and_is, yes_no}
use Rattle.rules.proofs.Columns.{one_column, no_column}
use Rattle.rules.proofs.Fields.{code_is}
use Rattle.rules.proofs.Figures.{decimal_figures}
use Rattle.rules.proofs.Padded.{every_spelling}
use Rattle.rules.proofs.Fitting.{Fitting, names, codes, given, if_any, Printed, name_says, no_text}

abbrev pub Prints : List ℕ → Type 0
Prints [] = Unit {0}
Prints (b ∷ bs) = (printable b ≡ true) × Prints bs

pub prints_at : (bs : List ℕ) → Prints bs → Printed bs
prints_at [] p i h = absurd (not-suc-le-zero h)
prints_at (b ∷ bs) p zero h = p.0
prints_at (b ∷ bs) p (suc i) h = prints_at bs p.1 i (le_of_suc-le-suc h)

pub prints_all : (bs : List ℕ) → Printed bs → Prints bs
prints_all [] p = tt
prints_all (b ∷ bs) p = (p 0 (omega arith), prints_all bs (λ i h. p (suc i) (omega arith)))

pub prints_both : (xs ys : List ℕ) → Prints xs → Prints ys → Prints (xs ++ ys)
prints_both [] ys p q = q
prints_both (x ∷ xs) ys p q = (p.0, prints_both xs ys p.1 q)

in_range : (b : ℕ) → 32 ≤ b → b ≤ 126 → printable b ≡ true
unfolding printable
in_range b g h = simp says (g, h)

prints_same : (n b : ℕ) → printable b ≡ true → Prints (replicate n b)
prints_same zero b p = tt
prints_same (suc n) b p = (p, prints_same n b p)

padded_prints : (b : ℕ) → printable b ≡ true → (w : ℕ) (bs : List ℕ) → Prints bs → Prints (padded b w bs)
unfolding padded
padded_prints b p w bs q = prints_both (replicate (w - length bs) b) bs (prints_same (w - length bs) b p) q

-- a number
digits_print : (ds : List ℕ) → Digits ds → Prints ds
digits_print [] h = tt
digits_print (d ∷ ds) h = let g = h.0 in (in_range d (omega arith) (omega arith), digits_print ds h.1)

decimal_prints : (n : ℕ) → Prints (decimal_of n)
decimal_prints n = digits_print (decimal_of n) (decimal_figures n).1

point_prints : (n : ℕ) → Prints (with_point n)
unfolding with_point
point_prints n =
    prints_both (decimal_of (n / 10)) _ (decimal_prints (n / 10))
    (in_range 46 (omega arith) (omega arith), (in_range (figure (n % 10)) (omega arith) (omega arith), tt))

number_prints : (k : Kind) (w : ℕ) (z : ℤ) → Prints (spelled_as k w z)
number_prints =
    every_spelling Prints decimal_prints point_prints (λ bs p. (in_range 45 (omega arith) (omega arith), p))
    (padded_prints 48 (in_range 48 (omega arith) (omega arith)))

-- a code
abbrev Each : (ℕ → Type 0) → String → Type 0
Each P empty = Unit {0}
Each P (◌∷ₛ◌ c s) = P (ascii c) × Each P s

one_of_each : (P : ℕ → Type 0) (s : String) (b : ℕ) → Each P s → OneOf s b → P b
one_of_each P empty b h w = absurd w
one_of_each P (◌∷ₛ◌ c s) b h w = ⊎_elim (λ e. subst P (sym e) h.0) (one_of_each P s b h.1) w

family_prints : (i b : ℕ) → Family i b → printable b ≡ true
unfolding printable
family_prints i b w =
    let P : ℕ → Type 0 = λ c. printable c ≡ true in
    yes_no (eqb i 1) (λ t. one_of_each P "GHR" b (refl, (refl, (refl, tt))) (w.0 (eqb-true i 1 t)))
    (λ t. one_of_each P "VEAWS" b (refl, (refl, (refl, (refl, (refl, tt))))) (w.1 (λ e. t (eq-eqb i 1 e))))

code_prints : (i : ℕ) (bs : List ℕ) → length bs ≡ 2 → Code i bs → Prints bs
unfolding bytes col printable
code_prints i =
    one_column (λ l. Code i l → Prints l) 1
    (λ a. one_column (λ l. Code i (a ∷ l) → Prints (a ∷ l)) 0
    (λ b. no_column (λ l. Code i (a ∷ b ∷ l) → Prints (a ∷ b ∷ l))
    (λ w.
    ⊎_elim (λ e. subst Prints (sym e) (refl, (refl, tt)))
    (λ w.
    ⊎_elim (λ e. subst Prints (sym e) (refl, (refl, tt)))
    (λ d. let g = d.1 in (family_prints i a d.0, (in_range b (omega arith) (omega arith), tt))) w)
    w)))

text_prints : {k : Kind} {w : ℕ} → Fitting k w → (bs : List ℕ) → allows_text k bs ≡ true → length bs ≡ w → Prints bs
unfolding allows_text
text_prints names bs a h = prints_all bs ((name_says bs).0 a).0
text_prints (codes {i = i}) bs a h = code_prints i bs h ((code_is i bs).0 a)
text_prints (given f) bs a h = absurd (no_text f bs a)
text_prints (if_any f) bs a h = clash a

pub spelled_prints : {k : Kind} {w : ℕ} → Fitting k w → (v : Value) → goes_into k w v ≡ true → Prints (spell k w v)
unfolding spell goes_into allows columns_hold spelled
spelled_prints {k = k} {w = w} f v e = padded_prints 32 (in_range 32 (omega arith) (omega arith)) w (spelled k w v) (bare v e)
  where
    bare : (v : Value) → goes_into k w v ≡ true → Prints (spelled k w v)
    bare (text bs) e = let b = (and_is (allows_text k bs) _).0 e in text_prints f bs b.0 (eqb-true (length bs) w b.1)
    bare (number n) e = number_prints k w n
    bare nothing e = tt
