-- Every refusal of a set is from the published list, whatever its medium.
--   Only P p       = each refusal that the plan can give is such, where what is looked for before it is met
--   rules_listed   = the refusals of the cross-check are listed
--   kind_listed    = those of the form of one file
--   line_listed    = those of one line
--   written_listed = those of a line that is written
use Prim.Native.Nat.{ℕ, zero, suc, ◌+◌, ◌*◌, ◌≤◌, ◌<◌, min}
use native.Mathlib.Omega.{arith}
use mathlib.Core.Path.{◌≡◌, refl, sym, ap, ◌∙◌, subst}
use mathlib.Core.Logic.{◌⊎◌, inl, inr, ⊎_elim}
use mathlib.Core.Bool.{Bool, true, false, not, ◌&&◌}
use mathlib.Core.List.{List, [], ◌∷◌}
use lib.Dec.{eqb}
use lib.ListN.{length, take, drop, length-take}
use borrow.Author.Tests.{le-leb, eq-eqb}
use Rattle.rules.specs.Places.{pick}
use Rattle.rules.specs.Plan.{Refusal, №, refused, Plan, file_r, file_s, file_x, pass, need, ◌before◌, up_to, when, run}
use Rattle.rules.specs.Layout.{Span, ◌to◌, letter_column, sps93}
use Rattle.rules.specs.Sheet.{Sheet, most_lines, all_lines}
use Rattle.rules.specs.Medium.{Medium, sheet}
use Rattle.rules.specs.Lines.{is_header, heads as head_count}
use Rattle.rules.specs.Rows.{Row, header_rows, point_rows, relation_rows}
use Rattle.rules.specs.Form.{stray_from, stray, ending, rule1, rule2, rule29, rule3, rule4, fields_fit, rule5, rule6, line_fits, form}
use Rattle.rules.specs.Headers.{rule7, rule8, same_columns, rule9}
use Rattle.rules.specs.Codes.{rule24, rule25, codes_fit}
use Rattle.rules.specs.Order.{rule10, rule11, rule12, rule13, rule14, rule15, rule16, rule17, rule18, rule19}
use Rattle.rules.specs.Check.{relation_fits, rules}
use Rattle.rules.specs.Writer.{writes}
use Rattle.rules.specs.Listed.{Entry, row, begins, published, one_of_files, in_span, in_spans, stands_in, is_listed, Listed}
use Rattle.rules.proofs.Tests.{clash, and_is, or_is, leb_is}
use Rattle.rules.proofs.Breach.{Met, Broken, run_broken}
use Rattle.rules.proofs.Headers.{heads_few}
use Rattle.rules.proofs.Medium.{Lawful, ranked_length}

abbrev pub Only : (Refusal → Type 0) → Plan → Type 0
Only P pass = Unit {0}
Only P (need t w) = (t ≡ true → ⊥) → P w
Only P (p before q) = Only P p × (Met p → Only P q)
Only P (up_to n p) = (k : ℕ) → k < n → Only P (p k)
Only P (when t p) = t ≡ true → Only P p

broken_only : (P : Refusal → Type 0) (p : Plan) (w : Refusal) → Only P p → Broken w p → P w
unfolding Broken
broken_only P pass w o b = absurd b
broken_only P (need t v) w o b = subst P b.1 (o b.0)
broken_only P (p before q) w o b =
    ⊎_elim (λ h. broken_only P p w o.0 h) (λ h. broken_only P q w (o.1 h.0) h.1) b
broken_only P (up_to n p) w o b = broken_only P (p b.0) w (o b.0 b.1) b.3
broken_only P (when t p) w o b = broken_only P p w (o b.0) b.1

pub run_only : (P : Refusal → Type 0) (p : Plan) (w : Refusal) → Only P p → run p ≡ refused w → P w
run_only P p w o e = broken_only P p w o ((run_broken p w).0 e)

-- what stands in a row of the list is listed
abbrev none : Entry
none = row 0 [] (0 to 0) []

abbrev entry : List Entry → ℕ → Entry
entry [] k = none
entry (e ∷ es) zero = e
entry (e ∷ es) (suc k) = entry es k

span_is : (c : ℕ) (s : Span) → s.first ≤ c → c ≤ s.last → in_span c s ≡ true
unfolding in_span
span_is c s a b = (and_is _ _).1 (le-leb _ _ a, le-leb _ _ b)

module _ (f l c : ℕ) where
  entry_listed : (es : List Entry) (k : ℕ) → one_of_files f (entry es k).files ≡ true → (entry es k).lines.first ≤ l
      → l ≤ (entry es k).lines.last → in_spans c (entry es k).columns ≡ true → is_listed es (entry es k).number f l c ≡ true
  unfolding is_listed stands_in one_of_files
  entry_listed [] k a b d e = clash a
  entry_listed (e ∷ es) zero a b d g =
      let rest = (and_is _ _).1 (a, (and_is _ _).1 (span_is l e.lines b d, g)) in
      (or_is (stands_in e e.number f l c) _).1 (inl ((and_is _ _).1 (eq-eqb e.number _ refl, rest)))
  entry_listed (e ∷ es) (suc k) a b d g = (or_is (stands_in e (entry es k).number f l c) _).1 (inr (entry_listed es k a b d g))

  -- row k, counted from 0
  pub listed_at : (k : ℕ) → one_of_files f (entry published k).files ≡ true → (entry published k).lines.first ≤ l
      → l ≤ (entry published k).lines.last → in_spans c (entry published k).columns ≡ true → Listed (№ (entry published k).number f l c)
  listed_at k = entry_listed published k

abbrev begins_in : List Span → List Row → Bool
begins_in cs [] = true
begins_in cs (w ∷ ws) = in_spans w.columns.first cs && begins_in cs ws

-- the column of a stray byte
stray_few : (t : ℕ → ℕ → Bool) (c : ℕ) (bs : List ℕ) → 1 ≤ c → stray_from t c bs < c + length bs
unfolding stray_from pick
stray_few t c [] h = omega arith
stray_few t c (b ∷ bs) h = go (t c b) (stray_from t (suc c) bs) (stray_few t (suc c) bs (omega arith))
  where
    go : (t : Bool) (m : ℕ) → m < suc c + length bs → pick t m c < c + suc (length bs)
    go true m l = omega arith
    go false m l = omega arith

-- file i, with the columns of its tables
record Kind (i : ℕ) : Type 0 where
  columns : List Span
  own : one_of_files i (file_r ∷ file_s ∷ file_x ∷ []) ≡ true
  five : (l c : ℕ) → 1 ≤ l → l ≤ 9999 → in_spans c columns ≡ true → Listed (№ 5 i l c)
  heads : begins_in columns (header_rows sps93) ≡ true
  points : (eqb i file_x ≡ true → ⊥) → begins_in columns (point_rows sps93 i) ≡ true
  relations : eqb i file_x ≡ true → begins_in columns (relation_rows sps93) ≡ true

of_points_lem : (i : ℕ) → (i ≡ file_r) ⊎ (i ≡ file_s) → Kind i
unfolding published begins header_rows point_rows sps93 one_of_files in_spans in_span
of_points_lem i (inl e) =
    rw e
    (record {
      columns = (entry published 4).columns;
      own = refl;
      five = λ l c a b d. listed_at file_r l c 4 refl a b d;
      heads = refl;
      points = λ _. refl;
      relations = λ t. clash t;
    })
of_points_lem i (inr e) =
    rw e
    (record {
      columns = (entry published 4).columns;
      own = refl;
      five = λ l c a b d. listed_at file_s l c 4 refl a b d;
      heads = refl;
      points = λ _. refl;
      relations = λ t. clash t;
    })

of_relations : Kind file_x
unfolding published begins header_rows relation_rows sps93 one_of_files in_spans in_span
of_relations =
    record {
      columns = (entry published 5).columns;
      own = refl;
      five = λ l c a b d. listed_at file_x l c 5 refl a b d;
      heads = refl;
      points = λ n. absurd (n refl);
      relations = λ _. refl;
    }

kind : (i : ℕ) → (i ≡ file_r) ⊎ ((i ≡ file_s) ⊎ (i ≡ file_x)) → Kind i
kind i (inl e) = of_points_lem i (inl e)
kind i (inr (inl e)) = of_points_lem i (inr e)
kind i (inr (inr e)) = rw e of_relations

module _ (M : Medium) (g : Lawful M) where
  abbrev file : List ℕ → Sheet
  file = sheet M sps93

  -- the form of file i
  module _ (i : ℕ) (of : Kind i) where
    abbrev cs : List Span
    cs = of.columns

    abbrev own : one_of_files i (file_r ∷ file_s ∷ file_x ∷ []) ≡ true
    own = of.own

    module _ (k : ℕ) (line : k + 1 ≤ 9999) where
      fields_listed : (marker : Bool) (l : List ℕ) (ws : List Row) → begins_in cs ws ≡ true → Only Listed (fields_fit i k marker l ws)
      unfolding fields_fit
      fields_listed marker l [] e = tt
      fields_listed marker l (w ∷ ws) e =
          let b = (and_is (in_spans w.columns.first cs) (begins_in cs ws)).0 e in
          ((λ _ _. of.five (k + 1) w.columns.first (omega arith) line b.0), λ _. fields_listed marker l ws b.1)

      rule5_listed : (l : List ℕ) → Only Listed (rule5 i sps93 k l)
      unfolding rule5
      rule5_listed l = (
        (λ _. fields_listed false l _ of.heads),
        λ _. (
          (λ t. fields_listed _ l _ (of.points (λ e. clash (sym (ap not e) ∙ ((and_is (not (is_header l)) (not (eqb i file_x))).0 t).1)))),
          λ _ t. fields_listed false l _ (of.relations ((and_is (not (is_header l)) (eqb i file_x)).0 t).1),
        ),
      )

      fits_listed : (f : List ℕ) → Only Listed (line_fits i (file f) k)
      unfolding line_fits rule3 rule4 rule6 stray sheet sps93 published one_of_files in_spans in_span
      fits_listed f =
          let n = length-take M.stride (drop (M.stride * k) f) in
          let wide = g.wide in
          let c = stray_from M.takes 1 (take M.stride (drop (M.stride * k) f)) in
          let few = stray_few M.takes 1 (take M.stride (drop (M.stride * k) f)) (omega arith) in (
            λ z.
                let nz : c ≡ 0 → ⊥ = λ e. z (eq-eqb c 0 e) in
                listed_at i (k + 1) c 2 own (omega arith) line ((or_is (in_span c (1 to 82)) false).1 (inl (span_is c (1 to 82) (omega arith) (omega arith)))),
            λ _. (
              (λ _. listed_at i (k + 1) letter_column 3 own (omega arith) line refl),
              λ _. (
                rule5_listed _,
                λ _ _. (
                  (λ _. listed_at 3 (k + 1) 39 6 refl (omega arith) line refl),
                  λ _. ((λ _. listed_at 3 (k + 1) 47 6 refl (omega arith) line refl), λ _ _. listed_at 3 (k + 1) 72 6 refl (omega arith) line refl),
                ),
              ),
            ),
          )

    form_listed : (f : List ℕ) → Only Listed (form i (file f))
    unfolding form rule1 rule2 rule29 most_lines published in_spans in_span
    form_listed f = (
      (λ _. listed_at i (min (all_lines (file f) + 1) (9999 + 1)) 0 0 own (omega arith) (omega arith) refl),
      λ _. (
        (λ _. listed_at i (9999 + 1) 0 1 own (omega arith) (omega arith) refl),
        λ m.
            let n = (leb_is (all_lines (file f)) 9999).0 m in (
              (λ _. listed_at i (min (ending (file f) + 2) (all_lines (file f) + 1)) 0 25 own (omega arith) (omega arith) refl),
              λ _ k o. fits_listed k (omega arith) f,
            ),
      ),
    )

  lines_few : (i : ℕ) (f : List ℕ) → Met (form i (file f)) → (file f).count ≤ 9999
  unfolding form rule2 most_lines
  lines_few i f m = let n = (leb_is (all_lines (file f)) 9999).0 m.1.0 in omega arith

  nine : (i k c : ℕ) → one_of_files i (file_s ∷ file_x ∷ []) ≡ true → k + 1 ≤ 10000 → c ≤ 80 → Listed (№ 9 i (k + 1) c)
  unfolding published in_spans
  nine i k c o h l = listed_at i (k + 1) c 9 o (omega arith) h ((or_is (in_span c (0 to 80)) false).1 (inl (span_is c (0 to 80) (omega arith) l)))

  -- the columns of 9
  columns_listed : (i k c : ℕ) (bs ds : List ℕ) → one_of_files i (file_s ∷ file_x ∷ []) ≡ true → k + 1 ≤ 9999 → c + length bs ≤ 81 → c + length ds ≤ 81
      → Only Listed (same_columns i k c bs ds)
  unfolding same_columns
  columns_listed i k c [] [] o h g e = tt
  columns_listed i k c [] (d ∷ ds) o h g e = λ _. nine i k c o (omega arith) (omega arith)
  columns_listed i k c (b ∷ bs) [] o h g e = λ _. nine i k c o (omega arith) (omega arith)
  columns_listed i k c (b ∷ bs) (d ∷ ds) o h g e =
      ((λ _. nine i k c o (omega arith) (omega arith)), λ _. columns_listed i k (suc c) bs ds o h (omega arith) (omega arith))

  rule9_listed : (i : ℕ) → one_of_files i (file_s ∷ file_x ∷ []) ≡ true → (r f : List ℕ) → (file r).count ≤ 9999 → Only Listed (rule9 i (file r) (file f))
  unfolding rule9 sheet
  rule9_listed i o r f n =
      let a = heads_few (file r) in (
        λ k h.
            let u = ranked_length M.char_of (take 80 (drop (M.stride * k) r)) ∙ length-take 80 (drop (M.stride * k) r) in
            let v = ranked_length M.char_of (take 80 (drop (M.stride * k) f)) ∙ length-take 80 (drop (M.stride * k) f) in
            columns_listed i k 1 _ _ o (omega arith) (omega arith) (omega arith),
        λ _ _. nine i (min (head_count (file r)) (head_count (file f))) 0 o (omega arith) (omega arith),
      )

  -- the rules of a relation line
  relation_listed : (r s x : List ℕ) (k : ℕ) → k + 1 ≤ 9999 → Only Listed (relation_fits (file r) (file s) (file x) k)
  unfolding relation_fits rule13 rule14 rule16 rule17 rule18 rule19 sheet sps93 published one_of_files in_spans in_span
  relation_listed r s x k h _ = (
    (λ _. listed_at 3 (k + 1) 14 13 refl (omega arith) h refl),
    λ _. (
      (λ _. listed_at 3 (k + 1) 14 14 refl (omega arith) h refl),
      λ _. (
        (λ _. listed_at 3 (k + 1) 2 16 refl (omega arith) h refl),
        λ _. (
          (λ _. listed_at 3 (k + 1) 39 17 refl (omega arith) h refl),
          λ _. ((λ _. listed_at 3 (k + 1) 64 18 refl (omega arith) h refl), λ _ _. listed_at 3 (k + 1) 64 19 refl (omega arith) h refl),
        ),
      ),
    ),
  )

  -- the form of each file, and one line of it
  pub kind_listed : (f : List ℕ) (i : ℕ) → (i ≡ file_r) ⊎ ((i ≡ file_s) ⊎ (i ≡ file_x)) → Only Listed (form i (file f))
  kind_listed f i w = form_listed i (kind i w) f

  pub line_listed : (f : List ℕ) (i : ℕ) → (i ≡ file_r) ⊎ ((i ≡ file_s) ⊎ (i ≡ file_x)) → (k : ℕ) → k + 1 ≤ 9999 → Only Listed (line_fits i (file f) k)
  line_listed f i w k h = fits_listed i (kind i w) k h f

  -- the code tables
  codes_listed : (r s x : List ℕ) → (file r).count ≤ 9999 → (file s).count ≤ 9999 → (file x).count ≤ 9999
      → Only Listed (codes_fit (file r) (file s) (file x))
  unfolding codes_fit rule24 rule25 pick sheet sps93 published one_of_files in_spans in_span
  codes_listed r s x a b c =
      let d = heads_few (file r) in (
        (λ k o _. listed_at 1 (k + 1) 33 22 refl (omega arith) (omega arith) refl),
        λ _. (
          (λ k o _ _. listed_at 1 (k + 1) 27 23 refl (omega arith) (omega arith) refl),
          λ _. (
            (λ k o _ _. listed_at 2 (k + 1) 27 23 refl (omega arith) (omega arith) refl),
            λ _ k o _ _. listed_at 3 (k + 1) 13 24 refl (omega arith) (omega arith) refl,
          ),
        ),
      )

  pub rules_listed : (r s x : List ℕ) → Only Listed (rules (file r) (file s) (file x))
  unfolding rules rule7 rule8 rule10 rule11 rule12 rule15 sheet sps93 published one_of_files in_spans in_span
  rules_listed r s x = (
    kind_listed r file_r (inl refl),
    λ mr. (
      kind_listed s file_s (inr (inl refl)),
      λ ms. (
        kind_listed x file_x (inr (inr refl)),
        λ mx.
            let a = lines_few 1 r mr in
            let b = lines_few 2 s ms in
            let c = lines_few 3 x mx in
            let d = heads_few (file r) in (
              (λ _. listed_at 1 (head_count (file r) + 1) 0 7 refl (omega arith) (omega arith) refl),
              λ _. (
                (λ k o _ _. listed_at 1 (k + 1) 33 8 refl (omega arith) (omega arith) refl),
                λ _. (
                  rule9_listed 2 refl r s a,
                  λ _. (
                    rule9_listed 3 refl r x a,
                    λ _. (
                      codes_listed r s x a b c,
                      λ _. (
                        (λ k o _ _. listed_at 1 (k + 1) 2 10 refl (omega arith) (omega arith) refl),
                        λ _. (
                          (λ k o. (
                            (λ _ _. listed_at 2 (k + 1) 72 11 refl (omega arith) (omega arith) refl),
                            λ _ _ _. listed_at 2 (k + 1) 2 12 refl (omega arith) (omega arith) refl,
                          )),
                          λ _. (
                            (λ k o. relation_listed r s x k (omega arith)),
                            λ _ k o _ _. listed_at 2 (k + 1) 1 15 refl (omega arith) (omega arith) refl,
                          ),
                        ),
                      ),
                    ),
                  ),
                ),
              ),
            ),
      ),
    ),
  )

-- 20 and 21
pub asked_listed : Listed (№ 20 0 0 0)
unfolding published one_of_files in_spans in_span
asked_listed = listed_at 0 0 0 20 refl (omega arith) (omega arith) refl

pub room_listed : Listed (№ 21 0 0 0)
unfolding published one_of_files in_spans in_span
room_listed = listed_at 0 0 0 21 refl (omega arith) (omega arith) refl

-- 22 and 23
pub written_listed : (ok : Bool) (n : ℕ) → Only Listed (writes ok n)
unfolding writes published one_of_files in_spans in_span
written_listed ok n = (
  (λ _. listed_at 0 0 0 26 refl (omega arith) (omega arith) refl),
  λ _ _. listed_at 0 0 0 27 refl (omega arith) (omega arith) refl,
)
