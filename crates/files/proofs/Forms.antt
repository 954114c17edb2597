-- The form of each of three disc files, then the cross-check, is the cross-check alone.
--   first_refused, then_refused, last_refused = a file that is not well formed
--   as_crossed                                = three that are
use Rattle.std.proofs.Common.{◌≡◌, ℕ, List, sym, ap, ◌∙◌}
use Rattle.rules.specs.Plan.{Refusal}
use Rattle.rules.specs.Disc.{file}
use Rattle.rules.specs.Check.{Answer, refusal, formed, cross}
use Rattle.rules.specs.OneFile.{file_form}
use Rattle.rules.proofs.OneFile.{first_part, second_part, third_part}
use Rattle.lines.specs.Reading.{on_disc, sheet_of}
use Rattle.lines.specs.declared.Reading.{Reading}
use Rattle.form.specs.Paper.{form_on}
use Rattle.sets.specs.Paper.{cross_on}

module _ (how : Reading) (d : how ≡ on_disc) (r s x : List ℕ) where
  -- what the form check of a file has told
  said : (b : ℕ) (f : List ℕ) (a : Answer) → a ≡ form_on how b f → file_form b (file f) ≡ a
  unfolding sheet_of
  said b f a e = sym (ap (λ (h : Reading). form_on h b f) d) ∙ sym e

  pub first_refused : (w : Refusal) → refusal w ≡ form_on how 82 r → refusal w ≡ cross (file r) (file s) (file x)
  first_refused w e = sym (first_part (file r) (file s) (file x) w (said 82 r _ e))

  module _ (g : formed ≡ form_on how 82 r) where
    pub then_refused : (w : Refusal) → refusal w ≡ form_on how 83 s → refusal w ≡ cross (file r) (file s) (file x)
    then_refused w e = sym (second_part (file r) (file s) (file x) (said 82 r _ g) w (said 83 s _ e))

    pub last_refused : formed ≡ form_on how 83 s → (w : Refusal) → refusal w ≡ form_on how 88 x → refusal w ≡ cross (file r) (file s) (file x)
    last_refused h w e = sym (third_part (file r) (file s) (file x) (said 82 r _ g) (said 83 s _ h) w (said 88 x _ e))

  pub as_crossed : cross_on how r s x ≡ cross (file r) (file s) (file x)
  unfolding sheet_of
  as_crossed = ap (λ (h : Reading). cross_on h r s x) d
