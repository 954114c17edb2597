-- What the form check tells, from its contract, whatever the medium.
use Prim.Native.Nat.{ℕ}
use mathlib.Core.Path.{◌≡◌, sym, ap, ◌∙◌}
use contract.Lifetimes.{Lfts}
use denote.Triple.Clauses.{AtExit}
use borrow.Fn.World.{ArgsD, ResD}
use Rattle.rules.specs.Plan.{№}
use Rattle.rules.specs.Sheet.{Sheet}
use Rattle.rules.specs.OneFile.{file_form}
use Rattle.rules.proofs.OneFile.{form_formed, form_refuses}
use Rattle.lines.specs.Reading.{sheet_of}
use Rattle.std.specs.Prelude.{Ok, Err}
use Rattle.lines.specs.Paper.{Verdict}
use Rattle.form.specs.Paper.{answered}
use Rattle.form.specs.Said.{Morning}
use Rattle.form.proofs.One.{answered_one}
use Rattle.form.specs.contracts.form as form
use Rattle.form.proofs.form.Reads as form_reads

pub told : (b : ℕ) (f : Sheet) (v : Verdict) → answered v ≡ file_form b f → Morning b f v
told b f v e =
    record {
      formed_when = let w = form_formed b f in (λ y. w.0 (sym e ∙ ap answered y), λ y. answered_one v (Ok tt) (e ∙ w.1 y));
      refused_when = λ n i l c.
          let w = form_refuses b f (№ n i l c) in
          (λ y. w.0 (sym e ∙ ap answered y), λ y. answered_one v (Err (record { number = n; file = i; line = l; column = c })) (e ∙ w.1 y));
    }

-- "the form of a single file of a stated kind (1 to 6; accepted without counts)"
pub morning : (κs : Lfts 1) (a : ArgsD form.signature κs) (v : ResD form.signature κs) (w : AtExit form.ended κs)
    → form_reads.Post κs a v w → Morning a.1.0 (sheet_of a.0 a.1.1.0.now) v
morning κs a v w p = told _ _ v p
