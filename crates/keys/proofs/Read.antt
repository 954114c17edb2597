-- The numbers of a relation line as the code reads them from its own bytes, by the text of 1993.
use Prim.Native.Nat.{ℕ}
use mathlib.Core.Path.{◌≡◌, ap, ◌∙◌}
use mathlib.Core.List.{List}
use Rattle.rules.specs.Text.{cols}
use Rattle.rules.specs.Layout.{Layout, Span, sps93, at}
use Rattle.rules.specs.Sheet.{Sheet}
use Rattle.rules.specs.Relations.{reach_at, relation_at}
use Rattle.lines.specs.Reading.{sheet_of}
use Rattle.lines.specs.declared.Reading.{Reading}
use Rattle.lines.proofs.Sheets.{layout_is}
use Rattle.fields.specs.Figures.{figures, low_index}
use Rattle.form.specs.Known.{owned, Known}
use Rattle.keys.specs.Held.{RelationLine}
use Rattle.keys.proofs.Passed.{increment_read, instrument_read, from_read, upto_read, from_receiver_read, to_receiver_read}

module _ (how : Reading) (f : List ℕ) (w : Known 3 (sheet_of how f)) (k : ℕ) (h : RelationLine (sheet_of how f) k) (l : List ℕ)
    (e : l ≡ owned (sheet_of how f) k) where
  abbrev x : Sheet
  x = sheet_of how f

  -- what is read of a span of the text of 1993
  field : (read : List ℕ → ℕ) (p : Layout → Span) (n : ℕ) → read (at (owned x k) (p x.layout)) ≡ n → read (at l (p sps93)) ≡ n
  field read p n r = ap (λ (m : List ℕ). read (at m (p sps93))) e ∙ (rw (← layout_is how f) r)

  pub increment_at : low_index (cols l 12 12) ≡ (relation_at x k).increment
  unfolding at sps93
  increment_at = field low_index (λ L. L.increment) _ (increment_read x w k h.0 h.1)

  pub instrument_at : low_index (cols l 13 13) ≡ (relation_at x k).instrument
  unfolding at sps93
  instrument_at = field low_index (λ L. L.instrument) _ (instrument_read x w k h.0 h.1)

  pub from_at : figures (cols l 39 42) ≡ (reach_at x k).from
  unfolding at sps93
  from_at = field figures (λ L. L.from) _ (from_read x w k h.0 h.1)

  pub upto_at : figures (cols l 43 46) ≡ (reach_at x k).upto
  unfolding at sps93
  upto_at = field figures (λ L. L.upto) _ (upto_read x w k h.0 h.1)

  pub from_receiver_at : figures (cols l 64 71) ≡ (reach_at x k).from_receiver
  unfolding at sps93
  from_receiver_at = field figures (λ L. L.from_receiver) _ (from_receiver_read x w k h.0 h.1)

  pub to_receiver_at : figures (cols l 72 79) ≡ (reach_at x k).to_receiver
  unfolding at sps93
  to_receiver_at = field figures (λ L. L.to_receiver) _ (to_receiver_read x w k h.0 h.1)
