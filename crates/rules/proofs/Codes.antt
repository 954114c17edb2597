-- The tests of refusals 24 and 25 say what `MeetsCodes` has in words, and fail where its breaches are.
use Prim.Native.Nat.{ℕ, suc, ◌+◌, ◌*◌, ◌≤◌, ◌<◌}
use native.Mathlib.Omega.{arith}
use mathlib.Core.Path.{◌≡◌, refl, sym, subst}
use mathlib.Core.Logic.Iff
use mathlib.Core.Logic.{◌↔◌}
use mathlib.Core.Bool.{Bool, true, false, not, ◌&&◌}
use mathlib.Core.List.{List}
use lib.Dec.{eqb}
use Rattle.rules.specs.Places.{pick, every, some}
use Rattle.rules.specs.Plan.{Refusal, №, file_r, file_x, up_to}
use Rattle.rules.specs.Kinds.{digit1, of_family}
use Rattle.rules.specs.Layout.{Layout, at}
use Rattle.rules.specs.Sheet.{Sheet}
use Rattle.rules.specs.Lines.{is_data, heads}
use Rattle.rules.specs.Text.{same}
use Rattle.rules.specs.Codes.{Tables, row, many, three_digits, is_instrument, tables_of, opens, names, named, named_before}
use Rattle.rules.specs.Codes.{rule24, used_code, code_span, rule25}
use Rattle.rules.specs.MeetsCodes.{CodeOf, Opens, FirstRecord, NamesCode, Rule24, Breach24, Named, Uses, Rule25, Breach25}
use Rattle.rules.specs.Refuses.{look, line_by_line, By, used_order}
use Rattle.rules.proofs.Tests.{says, and_is, eqb_is, pick_is, same_is, some_is}
use Rattle.rules.proofs.Contrary.{contrary, not_every, not_not}
use Rattle.rules.proofs.Breach.{Met, Broken}
use Rattle.rules.proofs.Fields.{family_is}
use Rattle.rules.proofs.Form.{data_is, need_breaks, when_breaks}
use Rattle.rules.proofs.Headers.{in_header, heads_few}
use Rattle.rules.proofs.Same.{Same, same_fewer, same_lines_lem, same_look}

-- what a code of a kind is
pub is_code_lem : (i : ℕ) (c : List ℕ) → (tables_of i).is_code c ≡ pick (eqb i file_x) (is_instrument c) (of_family i c)
unfolding tables_of pick
is_code_lem i c = go (eqb i file_x) (eqb i file_r)
  where
    go : (x r : Bool) → (pick {A = Tables} x (row 400 20 560 is_instrument) (pick r (row 600 10 690 (of_family i)) (row 700 20 880 (of_family i)))).is_code c
        ≡ pick x (is_instrument c) (of_family i c)
    go true r = refl
    go false true = refl
    go false false = refl

pub code_of : (i : ℕ) (c : List ℕ) → ((tables_of i).is_code c ≡ true) ↔ CodeOf i c
unfolding digit1
code_of i c = rw (is_code_lem i c) (simp (says, family_is) Iff.rfl)

-- the numbers of first records
module _ (s : List ℕ) where
  abbrev numbered : ℕ → ℕ → ℕ → Bool
  numbered m a d = some m (λ n. same s (three_digits (a + d * n)))

  open_at : (i : ℕ) → some (many (tables_of i)) (λ n. same s (three_digits ((tables_of i).first + (tables_of i).step * n)))
      ≡ pick (eqb i file_x) (numbered 9 400 20) (pick (eqb i file_r) (numbered 10 600 10) (numbered 10 700 20))
  unfolding tables_of pick
  open_at i = go (eqb i file_x) (eqb i file_r)
    where
      of : Bool → Bool → Tables
      of x r = pick x (row 400 20 560 is_instrument) (pick r (row 600 10 690 (of_family i)) (row 700 20 880 (of_family i)))

      go : (x r : Bool) → some (many (of x r)) (λ n. same s (three_digits ((of x r).first + (of x r).step * n)))
          ≡ pick x (numbered 9 400 20) (pick r (numbered 10 600 10) (numbered 10 700 20))
      go true r = refl
      go false true = refl
      go false false = refl

  from : (m a d b : ℕ) → ((n : ℕ) → n < m → a + d * n ≤ b) → ((n : ℕ) → a + d * n ≤ b → n < m) → (numbered m a d ≡ true) ↔ Opens a d b s
  from m a d b f g =
      let e = some_is m (λ n. same s (three_digits (a + d * n))) in (
        λ t. let w = e.0 t in (w.0, f w.0 w.1, (same_is s _).0 w.2),
        λ w. e.1 (w.0, g w.0 w.1, (same_is s _).1 w.2),
      )

  from_400 : (numbered 9 400 20 ≡ true) ↔ Opens 400 20 560 s
  from_400 = from 9 400 20 560 (λ n h. omega arith) (λ n h. omega arith)

  from_600 : (numbered 10 600 10 ≡ true) ↔ Opens 600 10 690 s
  from_600 = from 10 600 10 690 (λ n h. omega arith) (λ n h. omega arith)

  from_700 : (numbered 10 700 20 ≡ true) ↔ Opens 700 20 880 s
  from_700 = from 10 700 20 880 (λ n h. omega arith) (λ n h. omega arith)

opens_is : (L : Layout) (i : ℕ) (l : List ℕ) → (opens L i l ≡ true) ↔ FirstRecord L i l
unfolding opens
opens_is L i l =
    let s = at l L.header_number in
    rw (open_at s i) (simp (pick_is, eqb_is, from_400 s, from_600 s, from_700 s) Iff.rfl)

pub names_is : (L : Layout) (i : ℕ) (c l : List ℕ) → (names L i c l ≡ true) ↔ NamesCode L i c l
unfolding names
names_is L i c l = simp (says, code_of, opens_is) Iff.rfl

pub named_is : (r : Sheet) (i : ℕ) (c : List ℕ) → (named r i c ≡ true) ↔ Named r i c
unfolding named
named_is r i c = simp (says, names_is, in_header) Iff.rfl

-- 24
module _ (r : Sheet) (k : ℕ) where
  abbrev Twice : ℕ → Type 0
  Twice i =
      (c : List ℕ) × NamesCode r.layout i c (r.row k) × ((j : ℕ) × (j < k) × NamesCode r.layout i c (r.row j))

  before_is : (i : ℕ) → (named_before r k i ≡ true) ↔ Twice i
  unfolding named_before
  before_is i =
      let c = at (r.row k) r.layout.header_code in
      let b = and_is (names r.layout i c (r.row k)) (some k (λ j. names r.layout i c (r.row j))) in
      let s = some_is k (λ j. names r.layout i c (r.row j)) in (
        λ e.
            let w = s.0 (b.0 e).1 in
            (c, (names_is _ i c _).0 (b.0 e).0, (w.0, w.1, (names_is _ i c _).0 w.2)),
        λ w.
            let q : w.0 ≡ c = sym w.1.1.0 in
            let y = w.2 in
            b.1 (
              subst (λ (c : List ℕ). names r.layout i c (r.row k) ≡ true) q ((names_is _ i _ _).1 w.1),
              s.1 (y.0, y.1, subst (λ (c : List ℕ). names r.layout i c (r.row y.0) ≡ true) q ((names_is _ i _ _).1 y.2)),
            ),
      )

  module _ (h : k < heads r) where
    rule24_is : Met (rule24 r k) ↔ Rule24 r k
    unfolding rule24
    rule24_is =
        let e : (every 3 (λ i. not (named_before r k (suc i))) ≡ true) ↔ ((i : ℕ) → i < 3 → Twice (suc i) → ⊥) = simp (says, before_is) Iff.rfl in
        (λ m _ i l c n j g o. e.0 m i l (c, n, (j, g, o)), λ f. e.1 (λ i l w. f ((in_header r k).0 h) i l w.0 w.1 w.2.0 w.2.1 w.2.2))

    rule24_breaks : (w : Refusal) → Broken w (rule24 r k) ↔ By (Breach24 r k) (№ 24 file_r (k + 1) r.layout.header_code.first) w
    unfolding rule24
    rule24_breaks =
        let e = not_every 3 (λ i. not (named_before r k (suc i))) in
        need_breaks _ _ (
          λ n. let v = e.0 n in ((in_header r k).0 h, (v.0, v.1, (before_is _).0 ((not_not _).0 v.2))),
          λ b. let v = b.1 in e.1 (v.0, v.1, (not_not _).1 ((before_is _).1 v.2)),
        )

pub tables_same : (r : Sheet)
    → Same (up_to (heads r) (rule24 r))
    (line_by_line r.count (λ k. look (Rule24 r k) (By (Breach24 r k) (№ 24 file_r (k + 1) r.layout.header_code.first))))
tables_same r =
    same_fewer (heads r) r.count _ _ (heads_few r) (λ k h. same_look (rule24_is r k h) (rule24_breaks r k h))
    (λ k l i. absurd (let h = (in_header r k).1 i in omega arith)) (λ k w b. (in_header r k).1 b.0.0)

-- 25
module _ (i : ℕ) (r f : Sheet) where
  uses_is : (k : ℕ) → (is_data f k && (tables_of i).is_code (used_code i f k) ≡ true) ↔ Uses i f k
  uses_is k = simp (says, data_is, code_of) Iff.rfl

  rule25_is : (k : ℕ) → Met (rule25 i r f k) ↔ Rule25 i r f k
  unfolding rule25
  rule25_is k = let u = uses_is k in let n = named_is r i (used_code i f k) in (λ m w. n.0 (m (u.1 w)), λ g e. n.1 (g (u.0 e)))

  rule25_breaks : (k : ℕ) (w : Refusal) → Broken w (rule25 i r f k) ↔ By (Breach25 i r f k) (№ 25 i (k + 1) (code_span f.layout i).first) w
  unfolding rule25
  rule25_breaks k = when_breaks _ _ _ (uses_is k) (contrary (named_is r i (used_code i f k)))

  pub used_same : Same (up_to f.count (rule25 i r f)) (used_order i r f)
  used_same = same_lines_lem f.count (rule25 i r f) _ (λ k _ _. same_look (rule25_is k) (rule25_breaks k))
