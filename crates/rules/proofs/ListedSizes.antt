-- What the published list says of the sizes of a number, file, line and column, by one computed test of the list.
use Prim.Native.Nat.{ℕ, ◌≤◌}
use native.Mathlib.Omega.{arith}
use mathlib.Core.Path.{◌≡◌, refl}
use mathlib.Core.Logic.{⊎_elim}
use mathlib.Core.Bool.{Bool, true, ◌&&◌}
use mathlib.Core.List.{List, [], ◌∷◌}
use lib.Dec.{leb}
use borrow.Author.Tests.{eqb-true}
use Rattle.rules.specs.Plan.{№}
use Rattle.rules.specs.Layout.{Span, sps93}
use Rattle.rules.specs.Rows.{header_rows, point_rows, relation_rows}
use Rattle.rules.specs.Listed.{Entry, begins, published, one_of_files, in_span, in_spans, stands_in, is_listed, Listed}
use Rattle.rules.proofs.Tests.{clash, and_is, or_is, leb_is}

-- the sizes of what is listed, by one computed test of the list
abbrev files_within : List ℕ → Bool
files_within [] = true
files_within (f ∷ fs) = leb f 3 && files_within fs

abbrev columns_within : List Span → Bool
columns_within [] = true
columns_within (s ∷ ss) = leb s.last 82 && columns_within ss

abbrev within : List Entry → Bool
within [] = true
within (e ∷ es) =
    (leb 1 e.number && leb e.number 29) && (files_within e.files && (leb e.lines.last 10000 && (columns_within e.columns && within es)))

abbrev pub Sizes : ℕ → ℕ → ℕ → ℕ → Type 0
Sizes n f l c = ((1 ≤ n) × (n ≤ 29)) × ((f ≤ 3) × ((l ≤ 10000) × (c ≤ 82)))

file_within : (f : ℕ) (fs : List ℕ) → files_within fs ≡ true → one_of_files f fs ≡ true → f ≤ 3
unfolding one_of_files
file_within f [] w e = clash e
file_within f (g ∷ gs) w e =
    let y = (and_is _ _).0 w in
    ⊎_elim (λ t. let q = eqb-true g f t in let l = (leb_is g 3).0 y.0 in omega arith) (λ t. file_within f gs y.1 t) ((or_is _ _).0 e)

column_within : (c : ℕ) (ss : List Span) → columns_within ss ≡ true → in_spans c ss ≡ true → c ≤ 82
unfolding in_spans in_span
column_within c [] w e = clash e
column_within c (s ∷ ss) w e =
    let y = (and_is _ _).0 w in
    ⊎_elim
    (λ t.
    let z = (leb_is c s.last).0 ((and_is (leb s.first c) (leb c s.last)).0 t).1 in
    let l = (leb_is s.last 82).0 y.0 in
    omega arith)
    (λ t. column_within c ss y.1 t) ((or_is (in_span c s) (in_spans c ss)).0 e)

entry_within : (es : List Entry) (n f l c : ℕ) → within es ≡ true → is_listed es n f l c ≡ true → Sizes n f l c
unfolding is_listed stands_in in_span
entry_within [] n f l c w e = clash e
entry_within (d ∷ es) n f l c w e =
    let y = (and_is _ _).0 w in
    let z = (and_is _ _).0 y.0 in
    let v = (and_is _ _).0 y.1 in
    let p = (and_is _ _).0 v.1 in
    let q = (and_is _ _).0 p.1 in
    ⊎_elim
    (λ t.
    let a = (and_is _ _).0 t in
    let b = (and_is _ _).0 a.1 in
    let k = (and_is _ _).0 b.1 in
    let no = eqb-true d.number n a.0 in
    let low = (leb_is 1 d.number).0 z.0 in
    let high = (leb_is d.number 29).0 z.1 in
    let last = (leb_is d.lines.last 10000).0 p.0 in
    let line = (leb_is l d.lines.last).0 ((and_is (leb d.lines.first l) (leb l d.lines.last)).0 k.0).1 in (
      (omega arith, omega arith),
      (file_within f d.files v.0 b.0, (omega arith, column_within c d.columns q.0 k.1)),
    ))
    (λ t. entry_within es n f l c q.1 t)
    ((or_is (stands_in d n f l c) (is_listed es n f l c)).0 e)

pub listed_within : (n f l c : ℕ) → Listed (№ n f l c) → Sizes n f l c
unfolding published begins header_rows point_rows relation_rows sps93
listed_within n f l c e = entry_within published n f l c refl e
