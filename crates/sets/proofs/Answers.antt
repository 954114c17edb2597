-- An answer, by the verdict of a plan: what the code answers at each step of the order.
--   refuses, accepts, counted_is        = an answer of a plan that refuses, and of one that is met
--   known_set                           = three files whose form is met are known
--   refused_forms .. judged_across      = the order is that of its parts: the forms, the headers, the code tables, then across the files
use Prim.Native.Nat.{ℕ}
use mathlib.Core.Path.{◌≡◌, refl, sym, ap, ◌∙◌}
use mathlib.Core.List.{List}
use Rattle.rules.specs.Plan.{Refusal, Verdict as PaperVerdict, fine, refused, ◌or_else◌, Plan, file_r, file_s, file_x, ◌before◌, up_to, run}
use Rattle.rules.specs.Sheet.{Sheet}
use Rattle.rules.specs.Form.{form}
use Rattle.rules.specs.Check.{Answer as PaperAnswer, accepted, refusal, answer, rules, verdict, points, relations, all_traces, dead_traces, cross}
use Rattle.rules.specs.Lines.{heads}
use Rattle.rules.specs.Headers.{rule7, rule8, rule9}
use Rattle.rules.specs.Codes.{codes_fit}
use Rattle.rules.specs.Order.{rule10}
use Rattle.rules.proofs.Breach.{run_met}
use Rattle.rules.proofs.Order.{rule10_is}
use Rattle.rules.proofs.Meets.{verdict_meets}
use Rattle.rules.proofs.Steps.{before_met, before_broken}
use Rattle.lines.specs.declared.Reading.{Reading}
use Rattle.lines.specs.Reading.{sheet_of}
use Rattle.form.proofs.Known.{known}
use Rattle.headers.specs.Steps.{headers_fit}
use Rattle.dead.specs.Dead.{Accepted}
use Rattle.sets.specs.Paper.{forms_of, across, counts, KnownSet, Met}

-- refused, and accepted
pub refuses : (P : Plan) (A : PaperAnswer) (w : Refusal) → refused w ≡ run P → refusal w ≡ answer (run P) A
unfolding answer
refuses P A w e = rw (← e)

pub accepts : (P : Plan) (A : PaperAnswer) → fine ≡ run P → A ≡ answer (run P) A
unfolding answer
accepts P A e = rw (← e)

pub counted_is : (r s x : Sheet) (n m k t y : ℕ) → n ≡ points r → m ≡ points s → k ≡ relations x → t ≡ all_traces x → y ≡ dead_traces r x
    → accepted n m k t y ≡ counts r s x
unfolding counts
counted_is r s x n m k t y a b c d e = rw (a, b, c, d, e)

-- parts of a plan that is met
pub first_met : (p q : Plan) → fine ≡ run (p before q) → fine ≡ run p
first_met p q e = sym ((run_met p).1 ((run_met (p before q)).0 (sym e)).0)

pub then_met : (p q : Plan) → fine ≡ run (p before q) → fine ≡ run q
then_met p q e = sym ((run_met q).1 ((run_met (p before q)).0 (sym e)).1)

pub known_set : (how : Reading) (r s x : List ℕ) → fine ≡ run (forms_of (sheet_of how r) (sheet_of how s) (sheet_of how x))
    → KnownSet (sheet_of how r) (sheet_of how s) (sheet_of how x)
known_set how r s x m =
    record {
      receivers = known how 1 r (first_met _ _ m);
      shots = known how 2 s (first_met _ _ (then_met _ _ m));
      relations = known how 3 x (then_met _ _ (then_met _ _ m));
    }

-- the three parts of the order are the order
regroup : (a b c d e f g z : PaperVerdict)
    → (a or_else b or_else c) or_else ((d or_else e or_else f or_else g) or_else z) ≡ a or_else b or_else c or_else d or_else e or_else f or_else g or_else z
unfolding ◌or_else◌
regroup (refused w) b c d e f g z = refl
regroup fine (refused w) c d e f g z = refl
regroup fine fine (refused w) d e f g z = refl
regroup fine fine fine (refused w) e f g z = refl
regroup fine fine fine fine (refused w) f g z = refl
regroup fine fine fine fine fine (refused w) g z = refl
regroup fine fine fine fine fine fine (refused w) z = refl
regroup fine fine fine fine fine fine fine z = refl

module _ (r s x : Sheet) where
  whole_order : answer (run (forms_of r s x before headers_fit r s x before codes_fit r s x before across r s x)) (counts r s x) ≡ cross r s x
  unfolding cross verdict rules run across counts headers_fit
  whole_order =
      ap (λ (v : PaperVerdict). answer v (counts r s x))
      (regroup (run (form file_r r)) (run (form file_s s)) (run (form file_x x)) (run (rule7 r)) (run (up_to (heads r) (rule8 r)))
      (run (rule9 file_s r s)) (run (rule9 file_x r x)) (run (codes_fit r s x before across r s x)))

  module _ (m : fine ≡ run (forms_of r s x)) where
    pub refused_heads : (w : Refusal) → refused w ≡ run (headers_fit r s x) → refusal w ≡ cross r s x
    refused_heads w e = refuses _ _ w (before_broken _ _ w e ∙ before_met _ _ m) ∙ whole_order

    module _ (n : fine ≡ run (headers_fit r s x)) where
      pub refused_codes : (w : Refusal) → refused w ≡ run (codes_fit r s x) → refusal w ≡ cross r s x
      refused_codes w e = refuses _ _ w (before_broken _ _ w e ∙ before_met _ _ n ∙ before_met _ _ m) ∙ whole_order

      pub judged_across : (a : PaperAnswer) → fine ≡ run (codes_fit r s x) → a ≡ answer (run (across r s x)) (counts r s x)
          → a ≡ cross r s x
      judged_across a o e =
          e ∙ ap (λ (v : PaperVerdict). answer v (counts r s x)) (before_met _ _ o ∙ before_met _ _ n ∙ before_met _ _ m) ∙ whole_order

  -- all parts are met
  pub all_met : fine ≡ run (forms_of r s x) → fine ≡ run (headers_fit r s x) → fine ≡ run (codes_fit r s x) → fine ≡ run (across r s x)
      → verdict r s x ≡ fine
  unfolding verdict rules run across headers_fit
  all_met m n o p =
      sym (regroup (run (form file_r r)) (run (form file_s s)) (run (form file_x x)) (run (rule7 r)) (run (up_to (heads r) (rule8 r)))
      (run (rule9 file_s r s)) (run (rule9 file_x r x)) (run (codes_fit r s x before across r s x)))
      ∙ sym (p ∙ before_met (codes_fit r s x) (across r s x) o ∙ before_met (headers_fit r s x) (codes_fit r s x before across r s x) n
      ∙ before_met (forms_of r s x) (headers_fit r s x before codes_fit r s x before across r s x) m)

  pub refused_forms : (w : Refusal) → refused w ≡ run (forms_of r s x) → refusal w ≡ cross r s x
  refused_forms w e = refuses _ _ w (before_broken _ _ w e) ∙ whole_order

  -- a set that meets the rules, for the count of its dead traces
  pub accepted_set : Met r s x → Accepted r x
  accepted_set w =
      let m = (verdict_meets r s x).0 w.fine in
      record {
        shots = s;
        met = m;
        receivers = (w.known.receivers, sym ((run_met (up_to r.count (rule10 r))).1 ((rule10_is r).1 m.rule10)));
        relations = w.known.relations;
        alike = w.alike;
      }
