-- Demands 1 and 2 of the call `cross`, from its contract, whatever the medium; and how it hangs together with the form of each file.
use Prim.Native.Nat.{ℕ, ◌<◌}
use native.Mathlib.Omega.{arith}
use mathlib.Core.Path.{◌≡◌, sym, ap, subst, ◌∙◌}
use mathlib.Core.Logic.Iff
use mathlib.Core.Logic.{◌↔◌}
use mathlib.Core.Bool.{true}
use mathlib.Core.List.{List}
use contract.Lifetimes.{Lfts}
use denote.Triple.Clauses.{AtExit}
use borrow.Fn.World.{ArgsD, ResD}
use Rattle.outcome.specs.One.{One}
use Rattle.rules.specs.Plan.{Refusal, Verdict, fine, refused, №}
use Rattle.rules.specs.Sheet.{Sheet}
use Rattle.rules.specs.Text.{one_of}
use Rattle.rules.specs.Medium.{sheet}
use Rattle.rules.specs.Disc.{file}
use Rattle.rules.specs.Tape.{page, char_in, byte_in, tape}
use Rattle.rules.specs.OneFile.{file_form}
use Rattle.rules.specs.Check.{accepted, refusal, verdict, answer, points, relations, all_traces, dead_traces, cross as cross_of}
use Rattle.rules.specs.Layout.{sps93}
use Rattle.rules.specs.MeetsForm.{Rule3}
use Rattle.rules.specs.MeetsDisc.{Clean}
use Rattle.rules.specs.MeetsTape.{characters, CleanTape}
use Rattle.rules.specs.Meets.{Meets}
use Rattle.rules.specs.Refuses.{Refuses}
use Rattle.rules.specs.Listed.{Listed}
use Rattle.rules.proofs.Meets.{verdict_meets, verdict_refuses}
use Rattle.rules.proofs.Disc.{takes_is}
use Rattle.rules.proofs.Tape.{tape_takes, all_taken}
use Rattle.rules.proofs.Counts.{accepted_is}
use Rattle.rules.proofs.Hosts.{Sized, cross_sized}
use Rattle.rules.proofs.OneFile.{parts_formed, first_part, second_part, third_part}
use Rattle.lines.specs.Reading.{medium_of, sheet_of}
use Rattle.lines.specs.declared.Reading.{Reading}
use Rattle.std.specs.Prelude.{Ok, Err}
use Rattle.lines.specs.declared.Refusal.{Refusal as FormRefusal}
use Rattle.lines.specs.Paper.{Verdict as FormVerdict, told}
use Rattle.lines.proofs.Sheets.{lawful}
use Rattle.form.specs.Paper.{answered}
use Rattle.form.proofs.One.{answered_one}
use Rattle.form.specs.contracts.form as form
use Rattle.form.proofs.form.Reads as form_reads
use Rattle.sets.specs.declared.Counts.{Counts}
use Rattle.sets.specs.Paper.{Answer, paper}
use Rattle.sets.specs.Judged.{Judged}
use Rattle.sets.specs.Parts.{Parts}
use Rattle.sets.proofs.One.{answer_one, cross_one}
use Rattle.sets.specs.contracts.cross as cross
use Rattle.sets.proofs.cross.Reads as cross_reads
use Rattle.sets.proofs.cross.Statement.{statement}
use Rattle.sets.proofs.cross.Met.{met}

-- an answer is a refusal exactly where the verdict is
refusal_is : (u : Verdict) (n m k t d : ℕ) (w : Refusal) → (answer u (accepted n m k t d) ≡ refusal w) ↔ (u ≡ refused w)
unfolding answer
refusal_is fine n m k t d w =
    (λ e. absurd (let z : ◌≡◌ {A = ℕ} 0 1 = cc in omega arith), λ e. absurd (let z : ◌≡◌ {A = ℕ} 0 1 = cc in omega arith))
refusal_is (refused u) n m k t d w = (λ e. let z : u ≡ w = cc in ap refused z, λ e. let z : u ≡ w = cc in ap refusal z)

module _ (r s x : Sheet) where
  when_met : Meets r s x → cross_of r s x ≡ accepted (points r) (points s) (relations x) (all_traces x) (dead_traces r x)
  unfolding cross_of answer
  when_met m = rw ((verdict_meets r s x).1 m)

  when_broken : (w : Refusal) → (cross_of r s x ≡ refusal w) ↔ Refuses r s x w
  unfolding cross_of
  when_broken w =
      Iff.trans (refusal_is (verdict r s x) (points r) (points s) (relations x) (all_traces x) (dead_traces r x) w) (verdict_refuses r s x w)

  abbrev counted : Counts
  counted = record { receivers = points r; shots = points s; relations = relations x; traces = all_traces x; dead_traces = dead_traces r x }

  pub judged : (v : Answer) → paper v ≡ cross_of r s x → Judged r s x v
  judged v e =
      record {
        accepted_when = (
          λ w. let c = w.0 in ((accepted_is r s x c.receivers c.shots c.relations c.traces c.dead_traces).0 (sym e ∙ ap paper w.1)).0,
          λ m. (counted, answer_one v (Ok counted) (e ∙ when_met m)),
        );
        counts_of = λ c y. ((accepted_is r s x c.receivers c.shots c.relations c.traces c.dead_traces).0 (sym e ∙ ap paper y)).1;
        refused_when = λ n f l c.
            let b = when_broken (№ n f l c) in
            (λ y. b.0 (sym e ∙ ap paper y), λ y. answer_one v (Err (record { number = n; file = f; line = l; column = c })) (e ∙ b.1 y));
      }

  module _ (u v w : FormVerdict) (a : Answer) (eu : answered u ≡ file_form 82 r) (ev : answered v ≡ file_form 83 s) (ew : answered w ≡ file_form 88 x)
      (ea : paper a ≡ cross_of r s x) where
    refused_as : (d : FormRefusal) → cross_of r s x ≡ refusal (told d) → a ≡ Err d
    refused_as d y = answer_one a (Err d) (ea ∙ y)

    pub parts : Parts u v w a
    parts =
        record {
          all_formed = λ c y.
              let f = parts_formed r s x c.receivers c.shots c.relations c.traces c.dead_traces (sym ea ∙ ap paper y) in
              (answered_one u (Ok tt) (eu ∙ f.0), (answered_one v (Ok tt) (ev ∙ f.1.0), answered_one w (Ok tt) (ew ∙ f.1.1)));
          as_r = λ d y. refused_as d (first_part r s x (told d) (sym eu ∙ ap answered y));
          as_s = λ d p y. refused_as d (second_part r s x (sym eu ∙ ap answered p) (told d) (sym ev ∙ ap answered y));
          as_x = λ d p q y.
              refused_as d (third_part r s x (sym eu ∙ ap answered p) (sym ev ∙ ap answered q) (told d) (sym ew ∙ ap answered y));
        }

-- 1: "The checker takes three byte strings of every length and content and ends with a verdict, whatever the caller did or did not look at."
pub demand_1 : {M : Type 1} → statement M
demand_1 = met

pub one_answer : One cross.ended cross_reads.Post
one_answer = cross_one

-- "A refusal is one number, file, line and column from the published order of checks, and writes nothing into lent memory." The call is lent
-- files alone, which their types keep as they are.
pub from_the_list : (κs : Lfts 3) (a : ArgsD cross.signature κs) (v : ResD cross.signature κs) (w : AtExit cross.ended κs)
    → cross_reads.Post κs a v w → (d : FormRefusal) → v ≡ Err d → Listed (told d)
unfolding sheet_of
from_the_list κs a v w p d y =
    subst Sized (sym p ∙ ap paper y) (cross_sized (medium_of a.0) (lawful a.0) a.1.0.now a.1.1.0.now a.1.1.1.0.now)

-- 2: "A set is accepted exactly when it meets the SPS text of 1993 as narrowed in document 01; otherwise the refusal is the first breach in
-- the stated order. The counts returned on acceptance are those of the set."
pub demand_2 : (κs : Lfts 3) (a : ArgsD cross.signature κs) (v : ResD cross.signature κs) (w : AtExit cross.ended κs)
    → cross_reads.Post κs a v w
    → Judged (sheet_of a.0 a.1.0.now) (sheet_of a.0 a.1.1.0.now) (sheet_of a.0 a.1.1.1.0.now) v
demand_2 κs a v w p = judged (sheet_of a.0 a.1.0.now) (sheet_of a.0 a.1.1.0.now) (sheet_of a.0 a.1.1.1.0.now) v p

asked : (v : FormVerdict) (how how' : Reading) (b b' : ℕ) (f f' : List ℕ) → answered v ≡ file_form b (sheet_of how f) → how ≡ how' → b ≡ b' → f ≡ f'
    → answered v ≡ file_form b' (sheet_of how' f')
asked v how how' b b' f f' e y z w =
    e ∙ ap (λ (h : Reading). file_form b (sheet_of h f)) y ∙ ap (λ (k : ℕ). file_form k (sheet_of how' f)) z
    ∙ ap (λ (g : List ℕ). file_form b' (sheet_of how' g)) w

-- "three files are accepted by the cross-check only if each is by the form of its kind, and if one is not, it refuses as the first of the three does"
pub tied : (κs : Lfts 3) (a : ArgsD cross.signature κs) (v : ResD cross.signature κs) (w : AtExit cross.ended κs) → cross_reads.Post κs a v w
    → (κr κs' κx : Lfts 1) (b : ArgsD form.signature κr) (c : ArgsD form.signature κs') (d : ArgsD form.signature κx)
    (f : ResD form.signature κr) (g : ResD form.signature κs') (h : ResD form.signature κx)
    (y : AtExit form.ended κr) (z : AtExit form.ended κs') (q : AtExit form.ended κx)
    → form_reads.Post κr b f y → form_reads.Post κs' c g z → form_reads.Post κx d h q
    → (b.0 ≡ a.0) × ((b.1.0 ≡ 82) × (b.1.1.0.now ≡ a.1.0.now))
    → (c.0 ≡ a.0) × ((c.1.0 ≡ 83) × (c.1.1.0.now ≡ a.1.1.0.now))
    → (d.0 ≡ a.0) × ((d.1.0 ≡ 88) × (d.1.1.0.now ≡ a.1.1.1.0.now))
    → Parts f g h v
tied κs a v w p κr κs' κx b c d f g h y z q pf pg ph eb ec ed =
    parts _ _ _ f g h v (asked f _ _ _ _ _ _ pf eb.0 eb.1.0 eb.1.1) (asked g _ _ _ _ _ _ pg ec.0 ec.1.0 ec.1.1)
    (asked h _ _ _ _ _ _ ph ed.0 ed.1.0 ed.1.1) p

-- "A line is 80 columns, then CR (13) and LF (10): 82 bytes. .. Columns 1 to 80 hold bytes 32 to 126." 3 of a file on disc says just that.
pub on_disc_lem : (f : List ℕ) (k : ℕ) → k < (file f).count → Rule3 (file f) k ↔ Clean f k
on_disc_lem f k h = takes_is sps93 f k h

-- "only blank, letters, digits and `. , ; : ( ) - + / & ' % * = ? _ < >` are taken": and 3 of a tape says that.
pub on_tape : (f : List ℕ) (k : ℕ) → k < (sheet tape sps93 f).count → Rule3 (sheet tape sps93 f) k ↔ CleanTape f k
on_tape f k h = tape_takes sps93 f k h

-- each of these has its byte
pub every_character : (c : ℕ) → one_of characters c ≡ true → char_in page (byte_in page c) ≡ c
every_character = all_taken
