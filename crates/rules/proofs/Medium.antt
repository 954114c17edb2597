-- A file's lines in the paper's words, whatever its medium: the columns of a line as bytes of the file, and what 3 says of them.
--   Lawful M     = a medium whose lines have 80 columns, and whose characters are printable and told by their bytes; blanks and digits have
--                  the same low half in both
--   room         = a line of the set stands in the file whole
--   row_at       = column c + 1 of line k is the character of a byte of the file
--   clean_is     = 3 of line k says that each of its bytes is taken
--   askable      = the tapes and records of an accepted set can be asked for
use Prim.Native.Nat.{ℕ, zero, suc, ◌+◌, ◌-◌, ◌*◌, ◌/◌, ◌%◌, ◌≤◌, ◌<◌}
use native.Mathlib.Nat.{not-suc-le-zero, div-add-mod', mul-le-mul_right, suc-mul, mul_comm}
use native.Mathlib.Omega.{arith}
use mathlib.Core.Path.{◌≡◌, refl, sym, ap, ap₂, ◌∙◌, subst}
use mathlib.Core.Logic.{◌↔◌}
use mathlib.Core.Bool.{true}
use mathlib.Core.List.{List, [], ◌∷◌}
use lib.Dec.{lit≤}
use lib.ListN.{length, get_or, take, drop, length-take, length-drop}
use lib.Seq.{get_or-take, get_or-drop}
use Rattle.rules.specs.Text.{front, col, cols}
use Rattle.rules.specs.Names.{ranked}
use Rattle.rules.specs.Layout.{Layout, sps93, at}
use Rattle.rules.specs.Sheet.{Sheet}
use Rattle.rules.specs.Medium.{Medium, sheet}
use Rattle.rules.specs.Form.{stray}
use Rattle.rules.specs.Points.{number_of}
use Rattle.rules.specs.Relations.{reach, reach_at}
use Rattle.rules.specs.Rows.{relation_rows}
use Rattle.rules.specs.MeetsFields.{Digit}
use Rattle.rules.specs.MeetsDisc.{Printable}
use Rattle.rules.specs.Meets.{Meets}
use Rattle.rules.proofs.Columns.{cols_length, cols_at}
use Rattle.rules.proofs.Fields.{whole_size}
use Rattle.rules.proofs.Raw.{stray_none, clean_stray}
use Rattle.rules.proofs.Accepted.{fields}
use Rattle.rules.proofs.Demand3.{Askable}

pub record Lawful (M : Medium) : Type 0 where
  pub narrow : 80 ≤ M.stride
  pub wide : M.stride ≤ 82
  pub once : M.closing ≤ 1
  pub prints : (c b : ℕ) → c ≤ 80 → M.takes c b ≡ true → Printable (M.char_of b)
  pub none : M.byte_of 0 ≡ 0
  pub null : M.char_of 0 ≡ 0
  pub told : (c b : ℕ) → c ≤ 80 → M.takes c b ≡ true → M.byte_of (M.char_of b) ≡ b
  pub small : (c b : ℕ) → c ≤ 80 → M.takes c b ≡ true → b < 256
  pub some : (c b : ℕ) → c ≤ 80 → M.takes c b ≡ true → b ≡ 0 → ⊥
  pub fits : (c : ℕ) → c < 256 → M.byte_of c < 256
  pub apart : (c d : ℕ) → c < 256 → d < 256 → (M.byte_of c ≡ 0 → ⊥) → M.byte_of c ≡ M.byte_of d → c ≡ d
  pub blanks : M.byte_of 32 % 16 ≡ 0
  pub digits : (c : ℕ) → Digit c → M.byte_of c % 16 ≡ c % 16

pub ranked_length : (g : ℕ → ℕ) (xs : List ℕ) → length (ranked g xs) ≡ length xs
unfolding ranked
ranked_length g [] = refl
ranked_length g (x ∷ xs) = ap suc (ranked_length g xs)

pub ranked_at : (g : ℕ → ℕ) (xs : List ℕ) (i : ℕ) → i < length xs → get_or (ranked g xs) i 0 ≡ g (get_or xs i 0)
unfolding ranked
ranked_at g [] i h = absurd (not-suc-le-zero h)
ranked_at g (x ∷ xs) zero h = refl
ranked_at g (x ∷ xs) (suc i) h = ranked_at g xs i (omega arith)

-- so many lines of d bytes stand in n bytes
pub lines_fit : (n d k : ℕ) → k < n / d → d * k + d ≤ n
lines_fit n d k h =
    let e = div-add-mod' n d in
    let l : suc k * d ≤ n / d * d = mul-le-mul_right d h in
    let s = suc-mul k d in
    let c = mul_comm d k in
    omega arith

module _ (M : Medium) (w : Lawful M) (L : Layout) (f : List ℕ) (k : ℕ) (h : k < (sheet M L f).count) where
  pub room : M.stride * k + M.stride ≤ length f
  unfolding sheet
  room = lines_fit (length f) M.stride k (omega arith)

  cut : length (take 80 (drop (M.stride * k) f)) ≡ 80
  cut = let r = room in let n = w.narrow in simp (length-take, length-drop) (omega arith)

  pub row_length : length ((sheet M L f).row k) ≡ 80
  unfolding sheet
  row_length = ranked_length M.char_of (take 80 (drop (M.stride * k) f)) ∙ cut

  pub row_at : (c : ℕ) → c < 80 → get_or ((sheet M L f).row k) c 0 ≡ M.char_of (get_or f (M.stride * k + c) 0)
  unfolding sheet
  row_at c l =
      let n = cut in
      ranked_at M.char_of (take 80 (drop (M.stride * k) f)) c (omega arith)
      ∙ ap M.char_of (get_or-take 80 (drop (M.stride * k) f) c 0 l ∙ get_or-drop (M.stride * k) f c 0)

  pub clean_is : (stray (sheet M L f) k ≡ 0) ↔ ((c : ℕ) → c < M.stride → M.takes (c + 1) (get_or f (M.stride * k + c) 0) ≡ true)
  unfolding stray sheet
  clean_is =
      let r = room in
      let n : length (take M.stride (drop (M.stride * k) f)) ≡ M.stride = simp (length-take, length-drop) (omega arith) in
      let b = stray_none M.takes 1 (take M.stride (drop (M.stride * k) f)) (lit≤ tt) in
      let q : (c : ℕ) → c < M.stride → get_or (take M.stride (drop (M.stride * k) f)) c 0 ≡ get_or f (M.stride * k + c) 0 =
      λ c l. get_or-take M.stride (drop (M.stride * k) f) c 0 l ∙ get_or-drop (M.stride * k) f c 0 in (
        λ e c l.
            subst (λ (m : ℕ). M.takes m (get_or f (M.stride * k + c) 0) ≡ true) (let z : 1 + c ≡ c + 1 = omega arith in z)
            (subst (λ (v : ℕ). M.takes (1 + c) v ≡ true) (q c l) (b.0 e c (omega arith))),
        λ g.
            b.1
            (λ c l.
            let l' : c < M.stride = omega arith in
            subst (λ (v : ℕ). M.takes (1 + c) v ≡ true) (sym (q c l'))
            (subst (λ (m : ℕ). M.takes m (get_or f (M.stride * k + c) 0) ≡ true) (let z : c + 1 ≡ 1 + c = omega arith in z) (g c l'))),
      )

  -- 3 leaves printable characters in all columns
  pub prints_at : stray (sheet M L f) k ≡ 0 → (c : ℕ) → c < 80 → Printable (get_or ((sheet M L f).row k) c 0)
  prints_at e c l =
      let n = w.narrow in
      subst Printable (sym (row_at c l)) (w.prints (c + 1) _ (omega arith) (clean_is.0 e c (omega arith)))

pub askable : (M : Medium) → Lawful M → (r s : Sheet) (x : List ℕ) → Meets r s (sheet M sps93 x) → Askable (sheet M sps93 x)
unfolding sheet sps93 reach_at reach number_of at relation_rows col
askable M g r s x ok k h z =
    let l = (sheet M sps93 x).row k in
    let w = fields r s (sheet M sps93 x) ok k h z in
    let m = cols_length l 2 (lit≤ tt) 7 in
    let v = w.1.0 (λ e. e.1) in (
      m,
      (
        (λ i o.
            let i6 : i < 6 = omega arith in
            let p = prints_at M g sps93 x k h ((clean_stray (sheet M sps93 x) k).1 (ok.form_x.rule3 k h)) (2 + i - 1) (omega arith) in
            rw (cols_at l 2 (lit≤ tt) 7 i i6) p),
        (w.0 (λ e. e.1), rw (whole_size _ v.0 v.1) v.3),
      ),
    )

-- characters that come back from their bytes
abbrev pub Own : (ℕ → ℕ) → (ℕ → ℕ) → List ℕ → Type 0
Own g h [] = Unit {0}
Own g h (x ∷ xs) = (h (g x) ≡ x) × Own g h xs

-- so they come back, each by itself and all of a line
pub own_all : (g h : ℕ → ℕ) (xs : List ℕ) → ((i : ℕ) → i < length xs → h (g (get_or xs i 0)) ≡ get_or xs i 0) → Own g h xs
own_all g h [] f = tt
own_all g h (x ∷ xs) f = (f 0 (omega arith), own_all g h xs (λ i l. f (suc i) (omega arith)))

pub ranked_back : (g h : ℕ → ℕ) (xs : List ℕ) → Own g h xs → ranked h (ranked g xs) ≡ xs
unfolding ranked
ranked_back g h [] o = refl
ranked_back g h (x ∷ xs) o = ap₂ ◌∷◌ o.0 (ranked_back g h xs o.1)

-- columns of a ranked line are ranked columns
module _ (g : ℕ → ℕ) (z : g 0 ≡ 0) where
  pub ranked_column : (l : List ℕ) (i : ℕ) → get_or (ranked g l) i 0 ≡ g (get_or l i 0)
  unfolding ranked
  ranked_column [] i = sym z
  ranked_column (x ∷ xs) zero = refl
  ranked_column (x ∷ xs) (suc i) = ranked_column xs i

  front_ranked : (n : ℕ) (l : List ℕ) → front n (ranked g l) ≡ ranked g (front n l)
  unfolding front ranked
  front_ranked zero l = refl
  front_ranked (suc n) [] = ap₂ ◌∷◌ (sym z) (front_ranked n [])
  front_ranked (suc n) (x ∷ xs) = ap (λ (r : List ℕ). g x ∷ r) (front_ranked n xs)

  drop_ranked : (n : ℕ) (l : List ℕ) → drop n (ranked g l) ≡ ranked g (drop n l)
  unfolding ranked
  drop_ranked zero l = refl
  drop_ranked (suc n) [] = refl
  drop_ranked (suc n) (x ∷ xs) = drop_ranked n xs

  pub cols_ranked : (l : List ℕ) (a b : ℕ) → cols (ranked g l) a b ≡ ranked g (cols l a b)
  unfolding cols
  cols_ranked l a b = ap (front (b + 1 - a)) (drop_ranked (a - 1) l) ∙ front_ranked (b + 1 - a) (drop (a - 1) l)
