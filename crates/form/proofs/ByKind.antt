-- The form check by the kind of a file.
--   answered_is    = a verdict as an answer
--   unknown_kind   = what is answered of no kind
--   known_kind     = what is answered of a kind: the form of that file
use Prim.Native.Nat.{ℕ}
use native.Mathlib.Omega.{arith}
use mathlib.Core.Path.{◌≡◌, refl, sym, ap, ◌∙◌}
use borrow.Author.Tests.{lt-ltb, ltb-true}
use Rattle.rules.specs.Plan.{№, Verdict as PaperVerdict, run}
use Rattle.rules.specs.Sheet.{Sheet}
use Rattle.rules.specs.Lines.{kind_of}
use Rattle.rules.specs.Form.{form}
use Rattle.rules.specs.Check.{refusal, formed, answer}
use Rattle.rules.specs.OneFile.{kind_asked, file_form}
use Rattle.rules.proofs.OneFile.{form_kind, no_kind}
use Rattle.std.specs.Prelude.{Ok, Err}
use Rattle.lines.specs.Paper.{Verdict, paper}
use Rattle.form.specs.Paper.{answered}

pub answered_is : (v : Verdict) → answered v ≡ answer (paper v) formed
unfolding answer
answered_is (Ok u) = refl
answered_is (Err d) = refl

module _ (b i : ℕ) (f : Sheet) (e : i ≡ kind_of b) where
  pub unknown_kind : i ≡ 0 → refusal (№ 20 0 0 0) ≡ file_form b f
  unfolding kind_asked
  unknown_kind z = sym (no_kind b f (λ t. let h = ltb-true 0 (kind_of b) t in omega arith))

  pub known_kind : (i ≡ 0 → ⊥) → (v : Verdict) → paper v ≡ run (form i f) → answered v ≡ file_form b f
  unfolding kind_asked
  known_kind n v p =
      answered_is v ∙ ap (λ (u : PaperVerdict). answer u formed) p ∙ sym (form_kind b f i (sym e) (lt-ltb 0 (kind_of b) (omega arith)))
