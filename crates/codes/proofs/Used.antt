-- What the code finds when it notes, looks and reads a line, in the definitions' words.
--   allowed_here, refused_here, allowed_none       = what is noted of a place, or of none
--   used_none, used_instrument, used_point         = the place of the code that a line uses
--   all_used                                       = 25 of a file, by what is noted
use Prim.Native.Nat.{ℕ, ◌+◌, ◌<◌}
use mathlib.Core.Path.{◌≡◌, sym, ap, ap₂, subst, fun_ext, ◌∙◌}
use mathlib.Core.Bool.{Bool, true, false, not, or-true}
use native.Mathlib.Omega.{arith}
use mathlib.Core.List.{List, [], ◌∷◌}
use lib.Dec.{eqb, ltb, lit≤}
use lib.ListN.{length, get_or}
use borrow.Author.Tests.{eq-eqb, ne_eqb, lt-ltb, le-ltb}
use Rattle.rules.specs.Places.{pick}
use Rattle.rules.specs.Plan.{refused, №, first_of, up_to, run}
use Rattle.rules.specs.Names.{ranked}
use Rattle.rules.specs.Layout.{Layout, sps93, at}
use Rattle.rules.specs.Sheet.{Sheet}
use Rattle.rules.specs.Lines.{is_header, is_data, heads}
use Rattle.rules.specs.Points.{point_at, point}
use Rattle.rules.specs.Text.{cols}
use Rattle.rules.specs.Codes.{used_code, code_span, rule25}
use Rattle.rules.proofs.Medium.{ranked_column}
use Rattle.rules.proofs.Steps.{need_met, need_broken, none_yet, one_more, stops_here}
use Rattle.lines.specs.declared.Reading.{Reading}
use Rattle.lines.specs.Reading.{medium_of, sheet_of}
use Rattle.lines.proofs.Sheets.{lawful, layout_is, row_own}
use Rattle.fields.specs.Figures.{low_index}
use Rattle.fields.proofs.Codes.{two_columns}
use Rattle.form.specs.Known.{owned, Known}
use Rattle.keys.proofs.Letters.{header_own}
use Rattle.keys.proofs.Read.{instrument_at}
use Rattle.codes.specs.Named.{Kind, place_for, place_used, allowed, note_fits, all_noted, Noted}
use Rattle.codes.proofs.Naming.{used_is}

-- a place of the array
module _ (a : List Bool) (p : ℕ) where
  pub allowed_here : get_or a p false ≡ true → allowed a p ≡ true
  allowed_here e = rw (e, or-true (not (ltb p (length a))))

  pub refused_here : p < length a → get_or a p false ≡ false → allowed a p ≡ false
  refused_here h e = rw (e, lt-ltb p (length a) h)

pub allowed_none : (a : List Bool) → length a ≡ 243 → allowed a 243 ≡ true
allowed_none a s = rw (le-ltb 243 (length a) (omega arith))

-- a line in the medium's own bytes
module _ (how : Reading) (f : List ℕ) (k : ℕ) (l : List ℕ) (e : l ≡ owned (sheet_of how f) k) where
  abbrev file : Sheet
  file = sheet_of how f

  row_is : ranked (medium_of how).char_of l ≡ file.row k
  row_is = ap (ranked (medium_of how).char_of) e ∙ sym (row_own how f k)

  char_is : (c b : ℕ) → b ≡ (medium_of how).char_of (get_or l c 0) → b ≡ get_or (file.row k) c 0
  char_is c b q = q ∙ sym (ranked_column (medium_of how).char_of (lawful how).null l c) ∙ ap (λ (l : List ℕ). get_or l c 0) row_is

  module _ (t : Bool) (q : t ≡ eqb ((medium_of how).char_of (get_or l 0 0)) 72) where
    data_is : not t ≡ is_data file k
    unfolding is_data
    data_is = ap not (q ∙ header_own _ (lawful how).null l ∙ ap is_header row_is)

    pub used_none : (i : ℕ) → t ≡ true → 243 ≡ place_used i file k
    unfolding place_used pick
    used_none i y = let d : is_data file k ≡ false = sym data_is ∙ ap not y in rw d

    module _ (n : t ≡ false) (i : ℕ) (h : k < file.count) where
      here : (c : List ℕ) (p : ℕ) → c ≡ used_code i file k → p ≡ place_for i c → p ≡ place_used i file k
      unfolding place_used pick
      here c p z y = let d : is_data file k ≡ true = sym data_is ∙ ap not n in y ∙ ap (place_for i) z ∙ sym (rw d)

      pub used_instrument : i ≡ 3 → Known i file → (m : ℕ) → m ≡ low_index (cols l 13 13) → (p : ℕ) → p ≡ place_for 3 ((48 + m) ∷ 44 ∷ [])
          → p ≡ place_used i file k
      unfolding used_code pick
      used_instrument z w m q p y =
          let d : is_data file k ≡ true = sym data_is ∙ ap not n in
          let v = q ∙ instrument_at how f (subst (λ (i : ℕ). Known i file) z w) k (h, d) l e in
          here ((48 + m) ∷ 44 ∷ []) p (ap (λ (m : ℕ). (48 + m) ∷ 44 ∷ []) v ∙ sym (rw (eq-eqb i 3 z)))
          (y ∙ ap (λ (i : ℕ). place_for i ((48 + m) ∷ 44 ∷ [])) (sym z))

      pub used_point : (i ≡ 3 → ⊥) → (b d : ℕ) → b ≡ (medium_of how).char_of (get_or l 26 0) → d ≡ (medium_of how).char_of (get_or l 27 0)
          → (p : ℕ) → p ≡ place_for i (b ∷ d ∷ []) → p ≡ place_used i file k
      unfolding used_code pick point_at point at sps93
      used_point z b d u v p y =
          here (b ∷ d ∷ []) p
          (ap₂ (λ (b d : ℕ). b ∷ d ∷ []) (char_is 26 b u) (char_is 27 d v) ∙ sym (two_columns (file.row k) 27 (lit≤ tt))
          ∙ ap (λ (L : Layout). at (file.row k) L.code) (sym (layout_is how f)) ∙ sym (rw (ne_eqb i 3 z))) y

-- 25 of a line whose code is not noted, at the column that the code has
pub note_broken : (a : List Bool) (i : ℕ) (f : Sheet) (k c : ℕ) → f.layout ≡ sps93 → c ≡ (code_span sps93 i).first → allowed a (place_used i f k) ≡ false
    → refused (№ 25 i (k + 1) c) ≡ run (note_fits a i f k)
note_broken a i f k c y e n =
    ap (λ (c : ℕ). refused (№ 25 i (k + 1) c)) (e ∙ ap (λ (L : Layout). (code_span L i).first) (sym y)) ∙ need_broken _ _ n

-- 25 of a file, by what is noted of the header
pub all_used : (how : Reading) (f g : List ℕ) (a : List Bool) → Noted (sheet_of how f) (heads (sheet_of how f)) a → (i : ℕ) → Kind i
    → run (all_noted a i (sheet_of how g)) ≡ run (up_to (sheet_of how g).count (rule25 i (sheet_of how f) (sheet_of how g)))
unfolding rule25 run
all_used how f g a w i m =
    let s = sheet_of how g in
    ap (first_of s.count)
    (fun_ext (λ k. used_is (sheet_of how f) (layout_is how f) a w i m s (layout_is how g) k (№ 25 i (k + 1) (code_span s.layout i).first)))

-- what the check goes by in each function
pub ruleset used = (used_none, used_instrument, used_point)

pub ruleset used_walk = (layout_is, need_met, note_broken, allowed_here, allowed_none, refused_here, none_yet, one_more, stops_here)
