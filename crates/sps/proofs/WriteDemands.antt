-- The demands of the calls for C hosts that write one line, from their contracts.
use Prim.Native.Nat.{ℕ}
use native.Mathlib.Omega.{arith}
use mathlib.Core.Path.{◌≡◌, refl, sym}
use mathlib.Core.Bool.{Bool, true, false}
use mathlib.Core.List.{List}
use lib.Dec.{leb}
use lib.ListN.{length}
use borrow.Author.Tests.{leb-true, leb-false}
use contract.Lifetimes.{Lfts}
use denote.Triple.Clauses.{AtExit}
use borrow.Fn.World.{ArgsD, ResD}
use Rattle.rules.specs.Places.{pick}
use Rattle.rules.specs.Plan.{№, Verdict, need, ◌before◌, run, ◌or_else◌}
use Rattle.rules.specs.Writer.{writes, into}
use Rattle.rules.specs.Hosts.{packed, host_verdict}
use Rattle.rules.proofs.Tests.{clash}
use Rattle.sps.specs.Values.{point_taken, point_written, relation_taken, relation_written}
use Rattle.sps.specs.Said.{TellsWritten, LineTold}
use Rattle.sps.specs.contracts.line.sps_write_point as sps_write_point
use Rattle.sps.proofs.line.sps_write_point.Reads as sps_write_point_reads
use Rattle.sps.specs.contracts.line.sps_write_relation as sps_write_relation
use Rattle.sps.proofs.line.sps_write_relation.Reads as sps_write_relation_reads

-- what is written, by the two tests
abbrev verdict : Bool → Bool → Verdict
verdict ok t = run (need ok (№ 22 0 0 0) before need t (№ 23 0 0 0))

module _ (n m : ℕ) (l o e : List ℕ) where
  by_tests : (ok t : Bool) → leb 82 m ≡ t → n ≡ host_verdict (verdict ok t) → e ≡ into (verdict ok t) l o → TellsWritten n ok m × LineTold n l o e
  unfolding run pick ◌or_else◌ host_verdict packed into
  by_tests true true h p q = (
    record {
      done = λ _ _. p;
      forbidden = λ z. clash (sym z);
      short = λ _ s. let g = leb-true 82 m h in absurd (omega arith);
    },
    record { written = λ _. q; unwritten = λ z. absurd (z p) },
  )
  by_tests true false h p q = (
    record {
      done = λ _ s. let g = leb-false 82 m h in absurd (omega arith);
      forbidden = λ z. clash (sym z);
      short = λ _ _. rw p (omega arith, (refl, (refl, (refl, refl))));
    },
    record { written = λ z. absurd (omega arith); unwritten = λ _. q },
  )
  by_tests false t h p q = (
    record {
      done = λ z. clash z;
      forbidden = λ _. rw p (omega arith, (refl, (refl, (refl, refl))));
      short = λ z. clash z;
    },
    record { written = λ z. absurd (omega arith); unwritten = λ _. q },
  )

  written_told : (ok : Bool) → n ≡ host_verdict (run (writes ok m)) → e ≡ into (run (writes ok m)) l o → TellsWritten n ok m × LineTold n l o e
  unfolding writes
  written_told ok p q = by_tests ok (leb 82 m) refl p q

-- "22 .. Then 23 .. A refusal writes nothing", of a point and of a relation
pub write_point_told : (κs : Lfts 2) (a : ArgsD sps_write_point.signature κs) (n : ResD sps_write_point.signature κs) (w : AtExit sps_write_point.ended κs)
    → sps_write_point_reads.Post κs a n w
    → TellsWritten n (point_taken a.0 a.1.0.now) (length a.1.1.0.now)
    × LineTold n (point_written a.0 a.1.0.now) a.1.1.0.now w.1.1.0.now
write_point_told κs a n w p = written_told n _ _ _ _ _ p.0 p.1

pub write_relation_told : (κs : Lfts 2) (a : ArgsD sps_write_relation.signature κs) (n : ResD sps_write_relation.signature κs)
    (w : AtExit sps_write_relation.ended κs) → sps_write_relation_reads.Post κs a n w
    → TellsWritten n (relation_taken a.0.now) (length a.1.0.now)
    × LineTold n (relation_written a.0.now) a.1.0.now w.1.0.now
write_relation_told κs a n w p = written_told n _ _ _ _ _ p.0 p.1
