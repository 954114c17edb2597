-- The increment and the receivers of a relation line as the code reads them from its own bytes, by the text of 1993.
use Prim.Native.Nat.{ℕ, ◌+◌}
use native.Mathlib.Omega.{arith}
use mathlib.Core.Path.{◌≡◌, refl, ap, ◌∙◌}
use mathlib.Core.List.{List}
use Rattle.rules.specs.Text.{cols}
use Rattle.rules.specs.Plan.{file_x}
use Rattle.rules.specs.Layout.{sps93, at}
use Rattle.rules.specs.Sheet.{Sheet}
use Rattle.rules.specs.Rows.{relation_rows}
use Rattle.rules.specs.Relations.{reach, reach_at}
use Rattle.rules.proofs.Form.{data_is}
use Rattle.std.specs.Int.{abs_diff}
use Rattle.rules.specs.Cover.{receivers}
use Rattle.lines.specs.Reading.{sheet_of}
use Rattle.lines.specs.declared.Reading.{Reading}
use Rattle.lines.proofs.Sheets.{layout_is}
use Rattle.fields.specs.Figures.{figures, low_index}
use Rattle.form.specs.Known.{owned, Known}
use Rattle.form.proofs.Known.{formed}
use Rattle.keys.specs.Held.{RelationLine}
use Rattle.keys.proofs.Owned.{index_own}
use Rattle.keys.proofs.Read.{from_receiver_at, to_receiver_at}

step_read : (x : Sheet) → Known file_x x → (k : ℕ) → RelationLine x k → low_index (at (owned x k) x.layout.step) ≡ (reach_at x k).step
unfolding reach_at reach relation_rows
step_read x w k h =
    let f = ((formed file_x x w).rule5 k h.0).1.1 ((data_is x k).0 h.1, refl) in
    index_own file_x x w k h.0 x.layout.step (f.1.1.1.1.1.1.1.1.1.0 (λ m. m.1))

module _ (how : Reading) (f : List ℕ) (w : Known file_x (sheet_of how f)) (k : ℕ) (h : RelationLine (sheet_of how f) k) (l : List ℕ)
    (e : l ≡ owned (sheet_of how f) k) where
  -- by the span of the text of 1993
  spanned : (n : ℕ) → low_index (at (owned (sheet_of how f) k) (sheet_of how f).layout.step) ≡ n → low_index (at l sps93.step) ≡ n
  spanned n r = ap (λ (m : List ℕ). low_index (at m sps93.step)) e ∙ (rw (← layout_is how f) r)

  pub step_at : low_index (cols l 47 47) ≡ (reach_at (sheet_of how f) k).step
  unfolding at sps93
  step_at = spanned _ (step_read (sheet_of how f) w k h)

  pub span_at : (m n d : ℕ) → m ≡ figures (cols l 64 71) → n ≡ figures (cols l 72 79) → d ≡ abs_diff m n → d + 1 ≡ receivers (reach_at (sheet_of how f) k)
  unfolding receivers
  span_at m n d em en ed =
      let a = em ∙ from_receiver_at how f w k h l e in
      let b = en ∙ to_receiver_at how f w k h l e in
      omega arith
