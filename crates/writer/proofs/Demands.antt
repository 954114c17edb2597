-- Request 3 of the calls, from their contracts: what they say and leave, and that reading a written line gives back the values.
--   told                          = what follows from a contract of the writer, whatever the line
--   point_told, relation_told     = the same of the calls
--   point_reads, relation_reads   = "Reading a written line gives back the values"
--   point_stands, relation_stands = and the line is well formed: 3, 5 and 6 are met of it
use Prim.Native.Nat.{ℕ, ◌≤◌, ◌<◌}
use native.Mathlib.Omega.{arith}
use mathlib.Core.Path.{◌≡◌, refl, sym, ap, ◌∙◌}
use mathlib.Core.Bool.{Bool, true, false}
use mathlib.Core.List.{List, ◌++◌}
use lib.Dec.{leb}
use lib.ListN.{length, take, drop}
use lib.Seq.{take-append-le}
use borrow.Author.Tests.{leb-true, leb-false, le-leb, lt-leb}
use contract.Lifetimes.{Lfts}
use denote.Triple.Clauses.{AtExit}
use borrow.Fn.World.{ArgsD, ResD}
use Rattle.rules.specs.Places.{pick}
use Rattle.rules.specs.Plan.{№, fine, refused, ◌or_else◌, run, file_x}
use Rattle.rules.specs.Layout.{sps93}
use Rattle.rules.specs.Lines.{kind_of}
use Rattle.rules.specs.Points.{point}
use Rattle.rules.specs.Relations.{relation, reach}
use Rattle.rules.specs.Form.{rule5, rule6}
use Rattle.rules.specs.Writer.{point_writes, relation_writes, point_line, relation_line, writes, into}
use Rattle.rules.proofs.Breach.{Met}
use Rattle.rules.proofs.Written.{Formed}
use Rattle.rules.proofs.WrittenPoint.{point_row, point_formed, point_meets}
use Rattle.rules.proofs.WrittenRelation.{relation_row, relation_formed, relation_meets}
use Rattle.std.specs.Prelude.{Ok, Err}
use Rattle.lines.specs.Paper.{Verdict, paper}
use Rattle.lines.proofs.One.{verdict_one}
use Rattle.writer.specs.Coded.{point_of, relation_of}
use Rattle.writer.specs.Said.{refusal, Told}
use Rattle.writer.specs.contracts.write_point as write_point
use Rattle.writer.proofs.write_point.Reads as write_point_reads
use Rattle.writer.specs.contracts.write_relation as write_relation
use Rattle.writer.proofs.write_relation.Reads as write_relation_reads

-- the verdict, by what is tested
verdict_22 : (n : ℕ) → run (writes false n) ≡ refused (№ 22 0 0 0)
unfolding writes run ◌or_else◌ pick
verdict_22 n = refl

verdict_23 : (n : ℕ) → n < 82 → run (writes true n) ≡ refused (№ 23 0 0 0)
unfolding writes run ◌or_else◌ pick
verdict_23 n h = rw (lt-leb 82 n h)

verdict_fine : (n : ℕ) → 82 ≤ n → run (writes true n) ≡ fine
unfolding writes run ◌or_else◌ pick
verdict_fine n h = rw (le-leb 82 n h)

number_of : Verdict → ℕ
number_of (Ok _) = 0
number_of (Err e) = e.number

other_number : refusal 22 ≡ refusal 23 → ⊥
unfolding number_of
other_number e = let z : ◌≡◌ {A = ℕ} 22 23 = ap number_of e in omega arith

other : {a b : Verdict} (v : Verdict) → v ≡ a → (a ≡ b → ⊥) → v ≡ b → ⊥
other v e n f = n (sym e ∙ f)

module _ (ok : Bool) (l o e : List ℕ) (v : Verdict) (p : paper v ≡ run (writes ok (length o))) (w : e ≡ into (paper v) l o) where
  is : (u : Verdict) → run (writes ok (length o)) ≡ paper u → v ≡ u
  is u y = verdict_one v u (p ∙ y)

  left : (n : ℕ) → v ≡ refusal n → e ≡ o
  unfolding into
  left n y = w ∙ ap (λ (u : Verdict). into (paper u) l o) y

  put : v ≡ Ok tt → e ≡ l ++ drop (length l) o
  unfolding into
  put y = w ∙ ap (λ (u : Verdict). into (paper u) l o) y

told : (ok : Bool) (l o e : List ℕ) (v : Verdict) → paper v ≡ run (writes ok (length o)) → e ≡ into (paper v) l o → Told ok l o e v
told false l o e v p w =
    let y = is false l o e v p w (refusal 22) (verdict_22 (length o)) in
    record {
      fine_when = (λ f. absurd (other v y (λ q. let z : ◌≡◌ {A = ℕ} 0 1 = cc in omega arith) f), λ f. absurd (let q = f.0 in no q));
      twenty_two = (λ _ q. no q, λ _. y);
      twenty_three = (λ f. absurd (other v y (λ q. other_number q) f), λ f. absurd (no f.0));
      written = λ f. absurd (other v y (λ q. let z : ◌≡◌ {A = ℕ} 0 1 = cc in omega arith) f);
      unwritten = λ _. left false l o e v p w 22 y;
    }
  where
    no : false ≡ true → ⊥
    no q = let z : ◌≡◌ {A = ℕ} 0 1 = cc in omega arith
told true l o e v p w = go (leb 82 (length o)) refl
  where
    go : (t : Bool) → leb 82 (length o) ≡ t → Told true l o e v
    go true h =
        let g = leb-true 82 (length o) h in
        let y = is true l o e v p w (Ok tt) (verdict_fine (length o) g) in
        record {
          fine_when = (λ _. (refl, g), λ _. y);
          twenty_two = (λ f. absurd (other v y (λ q. let z : ◌≡◌ {A = ℕ} 0 1 = cc in omega arith) f), λ f. absurd (f refl));
          twenty_three = (λ f. absurd (other v y (λ q. let z : ◌≡◌ {A = ℕ} 0 1 = cc in omega arith) f), λ f. absurd (let s = f.1 in omega arith));
          written = λ f. put true l o e v p w f;
          unwritten = λ f. absurd (f y);
        }
    go false h =
        let s = leb-false 82 (length o) h in
        let y = is true l o e v p w (refusal 23) (verdict_23 (length o) s) in
        record {
          fine_when = (λ f. absurd (other v y (λ q. let z : ◌≡◌ {A = ℕ} 0 1 = cc in omega arith) f), λ f. absurd (let g = f.1 in omega arith));
          twenty_two = (λ f. absurd (other v y (λ q. other_number (sym q)) f), λ f. absurd (f refl));
          twenty_three = (λ _. (refl, s), λ _. y);
          written = λ f. absurd (other v y (λ q. let z : ◌≡◌ {A = ℕ} 0 1 = cc in omega arith) f);
          unwritten = λ _. left true l o e v p w 23 y;
        }

-- a line of 82 bytes at the start of a slice
first_80 : (l o e : List ℕ) → length l ≡ 82 → e ≡ l ++ drop (length l) o → take 80 e ≡ take 80 l
first_80 l o e h y =
    let g : 80 ≤ length l = omega arith in
    ap (take 80) y ∙ take-append-le 80 l (drop (length l) o) g

module _ (κs : Lfts 1) (a : ArgsD write_point.signature κs) (v : ResD write_point.signature κs) (w : AtExit write_point.ended κs)
    (p : write_point_reads.Post κs a v w) where
  pub point_told : Told (point_writes a.0 (point_of a.1.0)) (point_line (kind_of a.0) (point_of a.1.0)) a.1.1.0.now w.1.1.0.now v
  point_told = told _ _ _ _ v p.0 p.1

  pub point_reads : v ≡ Ok tt → point sps93 (take 80 w.1.1.0.now) ≡ point_of a.1.0
  point_reads y =
      let g = (point_told.fine_when.0 y).0 in
      ap (point sps93)
      (first_80 (point_line (kind_of a.0) (point_of a.1.0)) a.1.1.0.now w.1.1.0.now (point_formed a.0 (point_of a.1.0) g).long
      (point_told.written y))
      ∙ point_row a.0 (point_of a.1.0) g

  pub point_stands : v ≡ Ok tt → (k : ℕ)
      → Formed (point_line (kind_of a.0) (point_of a.1.0)) × Met (rule5 (kind_of a.0) sps93 k (point_line (kind_of a.0) (point_of a.1.0)))
  point_stands y k =
      let g = (point_told.fine_when.0 y).0 in
      (point_formed a.0 (point_of a.1.0) g, point_meets a.0 (point_of a.1.0) g k)

module _ (κs : Lfts 1) (a : ArgsD write_relation.signature κs) (v : ResD write_relation.signature κs) (w : AtExit write_relation.ended κs)
    (p : write_relation_reads.Post κs a v w) where
  pub relation_told : Told (relation_writes (relation_of a.0)) (relation_line (relation_of a.0)) a.1.0.now w.1.0.now v
  relation_told = told _ _ _ _ v p.0 p.1

  pub relation_reads : v ≡ Ok tt → relation sps93 (take 80 w.1.0.now) ≡ relation_of a.0
  relation_reads y =
      let g = (relation_told.fine_when.0 y).0 in
      ap (relation sps93)
      (first_80 (relation_line (relation_of a.0)) a.1.0.now w.1.0.now (relation_formed (relation_of a.0) g).long (relation_told.written y))
      ∙ relation_row (relation_of a.0) g

  pub relation_stands : v ≡ Ok tt → (k : ℕ)
      → Formed (relation_line (relation_of a.0))
      × (Met (rule5 file_x sps93 k (relation_line (relation_of a.0))) × Met (rule6 sps93 k (reach sps93 (relation_line (relation_of a.0)))))
  relation_stands y k =
      let g = (relation_told.fine_when.0 y).0 in
      (relation_formed (relation_of a.0) g, relation_meets (relation_of a.0) g k)
