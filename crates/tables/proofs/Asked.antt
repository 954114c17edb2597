-- What the code finds of a question on the code tables.
--   not_asked .. asked_point        = a code of the kind, or none
--   naming_instrument, naming_point = the line that names it
--   out_of_range, set_refuses, told = what is answered
use Prim.Native.Nat.{ℕ, suc, ◌≤◌}
use native.Mathlib.Omega.{arith}
use mathlib.Core.Path.{◌≡◌, refl, sym, ap, ◌∙◌}
use mathlib.Core.Bool.{Bool, true, false}
use mathlib.Core.List.{List, [], ◌∷◌, ◌++◌}
use lib.Dec.{eqb, ltb}
use lib.ListN.{length, get_or}
use borrow.Author.Tests.{eqb-true, ne_eqb, lt-ltb, ltb-true}
use Rattle.rules.specs.Places.{pick}
use Rattle.rules.specs.Plan.{Refusal, refused, fine, №}
use Rattle.rules.specs.Sheet.{Sheet, most_lines}
use Rattle.rules.specs.Codes.{tables_of, line_naming}
use Rattle.rules.specs.Check.{refusal, header_line, verdict}
use Rattle.rules.specs.Lines.{kind_of}
use Rattle.rules.specs.Tables.{written, code_asked, table_line}
use Rattle.rules.proofs.Tests.{and_is}
use Rattle.rules.proofs.Meets.{verdict_meets}
use Rattle.lines.specs.Reading.{sheet_of}
use Rattle.lines.specs.declared.Reading.{Reading}
use Rattle.sets.proofs.Verdicts.{asked_not, own_refusal, asked_fine}

-- an accepted set has few lines
pub few_lines : (how : Reading) (r s x : List ℕ) → verdict (sheet_of how r) (sheet_of how s) (sheet_of how x) ≡ fine → (sheet_of how r).count ≤ most_lines
few_lines how r s x ok = let n = ((verdict_meets _ _ _).0 ok).form_r.rule2 in omega arith

-- one byte, and two
one_byte : (c : List ℕ) → length c ≡ 1 → c ≡ get_or c 0 0 ∷ []
one_byte [] e = absurd (omega arith)
one_byte (b ∷ []) e = refl
one_byte (b ∷ d ∷ c) e = absurd (omega arith)

two_bytes : (c : List ℕ) → length c ≡ 2 → c ≡ get_or c 0 0 ∷ get_or c 1 0 ∷ []
two_bytes [] e = absurd (omega arith)
two_bytes (b ∷ []) e = absurd (omega arith)
two_bytes (b ∷ d ∷ []) e = refl
two_bytes (b ∷ d ∷ x ∷ c) e = absurd (omega arith)

more_by_one : (c : List ℕ) (b : ℕ) → length (c ++ (b ∷ [])) ≡ suc (length c)
more_by_one [] b = refl
more_by_one (x ∷ c) b = ap suc (more_by_one c b)

module _ (i : ℕ) (c : List ℕ) where
  pub no_kind : i ≡ 0 → false ≡ code_asked i c
  unfolding code_asked
  no_kind e = rw e

  -- an instrument
  module _ (z : i ≡ 3) where
    with_comma : written i c ≡ c ++ (44 ∷ [])
    unfolding written pick
    with_comma = rw z

    pub not_one : (length c ≡ 1 → ⊥) → false ≡ code_asked i c
    unfolding code_asked
    not_one n =
        let e = more_by_one c 44 in
        rw (with_comma, ne_eqb (length (c ++ (44 ∷ []))) 2 (λ y. n (omega arith)), lt-ltb 0 i (omega arith))

    module _ (e : length c ≡ 1) where
      instrument : written i c ≡ get_or c 0 0 ∷ 44 ∷ []
      instrument = with_comma ∙ ap (λ (d : List ℕ). d ++ (44 ∷ [])) (one_byte c e)

      pub asked_instrument : (t : Bool) → t ≡ (tables_of 3).is_code (get_or c 0 0 ∷ 44 ∷ []) → t ≡ code_asked i c
      unfolding code_asked
      asked_instrument t q = q ∙ sym (rw (instrument, z))

      pub naming_instrument : (r : Sheet) (n : ℕ) → n ≡ line_naming r 3 (get_or c 0 0 ∷ 44 ∷ []) → n ≡ line_naming r i (written i c)
      naming_instrument r n q = q ∙ sym (rw (instrument, z))

  -- a point
  module _ (z : i ≡ 3 → ⊥) where
    as_it_is : written i c ≡ c
    unfolding written pick
    as_it_is = rw (ne_eqb i 3 z)

    pub not_two : (i ≡ 0 → ⊥) → (length c ≡ 2 → ⊥) → false ≡ code_asked i c
    unfolding code_asked
    not_two m n = rw (as_it_is, ne_eqb (length c) 2 n, lt-ltb 0 i (omega arith))

    module _ (e : length c ≡ 2) where
      point : written i c ≡ get_or c 0 0 ∷ get_or c 1 0 ∷ []
      point = as_it_is ∙ two_bytes c e

      pub asked_point : (i ≡ 0 → ⊥) → (t : Bool) → t ≡ (tables_of i).is_code (get_or c 0 0 ∷ get_or c 1 0 ∷ []) → t ≡ code_asked i c
      unfolding code_asked
      asked_point m t q = q ∙ sym (rw (point, lt-ltb 0 i (omega arith)))

      pub naming_point : (r : Sheet) (n : ℕ) → n ≡ line_naming r i (get_or c 0 0 ∷ get_or c 1 0 ∷ []) → n ≡ line_naming r i (written i c)
      naming_point r n q = q ∙ sym (rw point)

  -- what a question in range says
  module _ (t : code_asked i c ≡ true) where
    parts : (ltb 0 i ≡ true) × ((eqb (length (written i c)) 2 ≡ true) × ((tables_of i).is_code (written i c) ≡ true))
    unfolding code_asked
    parts =
        let v = (and_is (ltb 0 i) _).0 t in
        let w = (and_is (eqb (length (written i c)) 2) ((tables_of i).is_code (written i c))).0 v.1 in
        (v.0, (w.0, w.1))

    pub is_kind : 1 ≤ i
    is_kind = ltb-true 0 i parts.0

    width : length (written i c) ≡ 2
    width = eqb-true _ 2 parts.1.0

    pub one_long : i ≡ 3 → length c ≡ 1
    one_long z =
        let e = more_by_one c 44 in
        let w : length (c ++ (44 ∷ [])) ≡ 2 = ap length (sym (with_comma z)) ∙ width in
        omega arith

    pub two_long : (i ≡ 3 → ⊥) → length c ≡ 2
    two_long z = ap length (sym (as_it_is z)) ∙ width

    pub of_instruments : i ≡ 3 → (tables_of 3).is_code (get_or c 0 0 ∷ 44 ∷ []) ≡ true
    of_instruments z =
        ap (λ (d : List ℕ). (tables_of 3).is_code d) (sym (instrument z (one_long z))) ∙ ap (λ (j : ℕ). (tables_of j).is_code (written i c)) (sym z) ∙ parts.1.1

    pub of_points_lem : (i ≡ 3 → ⊥) → (tables_of i).is_code (get_or c 0 0 ∷ get_or c 1 0 ∷ []) ≡ true
    of_points_lem z = ap (λ (d : List ℕ). (tables_of i).is_code d) (sym (point z (two_long z))) ∙ parts.1.1

-- what is answered
module _ (r s x : Sheet) (b : ℕ) (c : List ℕ) (i : ℕ) (e : i ≡ kind_of b) (t : Bool) (q : t ≡ code_asked i c) where
  asked : code_asked (kind_of b) c ≡ t
  asked = sym (q ∙ ap (λ (i : ℕ). code_asked i c) e)

  pub out_of_range : t ≡ false → refusal (№ 20 0 0 0) ≡ table_line r s x b c
  unfolding table_line
  out_of_range n = asked_not r s x _ _ (asked ∙ n)

  module _ (y : t ≡ true) where
    pub set_refuses : (w : Refusal) → verdict r s x ≡ refused w → refusal w ≡ table_line r s x b c
    unfolding table_line
    set_refuses = own_refusal r s x _ _ (asked ∙ y)

    pub told : verdict r s x ≡ fine → (n : ℕ) → n ≡ line_naming r i (written i c) → header_line n ≡ table_line r s x b c
    unfolding table_line
    told z n p = ap header_line (p ∙ ap (λ (j : ℕ). line_naming r j (written j c)) e) ∙ asked_fine r s x _ _ (asked ∙ y) z
