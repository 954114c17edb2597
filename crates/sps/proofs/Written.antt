-- A line that is written from the places of a byte slice.
--   point_taken_lem, point_written_lem, relation_taken_lem, relation_written_lem = what goes into it, and its bytes, by the numbers in these places
--   point_short, relation_short, short_number, short_line = a slice that has not sixteen places
--   written_number, written_line = what a host gets of the writer's verdict
use Prim.Native.Nat.{ℕ, ◌<◌}
use native.Mathlib.Omega.{arith}
use mathlib.Core.Path.{◌≡◌, refl, sym, ap, ◌∙◌}
use mathlib.Core.Bool.{Bool, false}
use mathlib.Core.List.{List}
use lib.ListN.{length, get_or}
use borrow.Author.Tests.{eq-eqb, ne_eqb}
use Rattle.rules.specs.Plan.{№, Verdict as PaperVerdict, refused, run}
use Rattle.rules.specs.Writer.{writes, into}
use Rattle.rules.specs.Carried.{point_given, relation_given, reach_given}
use Rattle.rules.specs.Hosts.{packed, host_verdict}
use Rattle.rules.proofs.Steps.{need_broken, before_broken}
use Rattle.std.specs.Prelude.{Ok, Err}
use Rattle.lines.specs.Paper.{Verdict, paper}
use Rattle.writer.specs.Given.{point_takes, point_text, relation_takes, relation_text}
use Rattle.sps.specs.Number.{number_of}
use Rattle.sps.specs.Values.{given, Sixteen, point_taken, point_written, relation_taken, relation_written}

-- numbers that are those of the places
module _ (v g : ℕ → ℕ) (s : (i : ℕ) → i < 16 → v i ≡ g i) where
  same_point_lem : point_given v ≡ point_given g
  unfolding point_given
  same_point_lem =
      rw (
        s 0 (omega arith),
        s 1 (omega arith),
        s 2 (omega arith),
        s 3 (omega arith),
        s 4 (omega arith),
        s 6 (omega arith),
        s 7 (omega arith),
        s 8 (omega arith),
        s 9 (omega arith),
        s 10 (omega arith),
        s 11 (omega arith),
        s 12 (omega arith),
        s 13 (omega arith),
        s 14 (omega arith),
        s 15 (omega arith),
      )

  same_relation : relation_given v ≡ relation_given g
  unfolding relation_given
  same_relation =
      rw (
        s 0 (omega arith),
        s 1 (omega arith),
        s 2 (omega arith),
        s 3 (omega arith),
        s 4 (omega arith),
        s 5 (omega arith),
        s 6 (omega arith),
        s 7 (omega arith),
        s 8 (omega arith),
        s 9 (omega arith),
        s 10 (omega arith),
        s 11 (omega arith),
        s 12 (omega arith),
        s 13 (omega arith),
        s 14 (omega arith),
        s 15 (omega arith),
      )

  same_reach : reach_given v ≡ reach_given g
  unfolding reach_given
  same_reach =
      rw (
        s 0 (omega arith),
        s 1 (omega arith),
        s 8 (omega arith),
        s 9 (omega arith),
        s 10 (omega arith),
        s 11 (omega arith),
        s 12 (omega arith),
        s 13 (omega arith),
        s 14 (omega arith),
        s 15 (omega arith),
      )

module _ (bs : List ℕ) (n : length bs ≡ 128) (vs : List ℕ) (s : Sixteen vs bs) where
  abbrev v : ℕ → ℕ
  v k = get_or vs k 0

  pub point_taken_lem : (b : ℕ) → point_takes b v ≡ point_taken b bs
  unfolding point_takes point_taken
  point_taken_lem b = rw (same_point_lem v (given bs) s, s 4 (omega arith), s 5 (omega arith), eq-eqb (length bs) 128 n)

  pub point_written_lem : (b : ℕ) → point_text b v ≡ point_written b bs
  unfolding point_text point_written
  point_written_lem b = rw (same_point_lem v (given bs) s)

  pub relation_taken_lem : relation_takes v ≡ relation_taken bs
  unfolding relation_takes relation_taken
  relation_taken_lem = rw (same_relation v (given bs) s, same_reach v (given bs) s, eq-eqb (length bs) 128 n)

  pub relation_written_lem : relation_text v ≡ relation_written bs
  unfolding relation_text relation_written
  relation_written_lem = rw (same_relation v (given bs) s)

-- a slice that has not sixteen places
module _ (bs : List ℕ) (n : length bs ≡ 128 → ⊥) where
  pub point_short : (b : ℕ) → false ≡ point_taken b bs
  unfolding point_taken
  point_short b = rw (ne_eqb (length bs) 128 n)

  pub relation_short : false ≡ relation_taken bs
  unfolding relation_taken
  relation_short = rw (ne_eqb (length bs) 128 n)

module _ (t : Bool) (e : false ≡ t) (m : ℕ) where
  short_run : refused (№ 22 0 0 0) ≡ run (writes t m)
  unfolding writes
  short_run = before_broken _ _ _ (need_broken _ _ (sym e))

  pub short_number : (a : ℕ) → a ≡ packed (№ 22 0 0 0) → a ≡ host_verdict (run (writes t m))
  unfolding host_verdict
  short_number a p = p ∙ ap host_verdict short_run

  pub short_line : (l o : List ℕ) → o ≡ into (run (writes t m)) l o
  unfolding into
  short_line l o = ap (λ (v : PaperVerdict). into v l o) short_run

-- a verdict of the writer
verdict_number : (v : Verdict) → number_of (λ _. 0) v ≡ host_verdict (paper v)
unfolding host_verdict
verdict_number (Ok _) = refl
verdict_number (Err e) = refl

module _ (v : Verdict) (t u : Bool) (q : t ≡ u) (m : ℕ) (p : paper v ≡ run (writes t m)) where
  written_run : paper v ≡ run (writes u m)
  written_run = p ∙ ap (λ (t : Bool). run (writes t m)) q

  pub written_number : (a : ℕ) → a ≡ number_of (λ _. 0) v → a ≡ host_verdict (run (writes u m))
  written_number a e = e ∙ verdict_number v ∙ ap host_verdict written_run

  pub written_line : (l k o e : List ℕ) → l ≡ k → e ≡ into (paper v) l o → e ≡ into (run (writes u m)) k o
  written_line l k o e y w = w ∙ ap (λ (l : List ℕ). into (paper v) l o) y ∙ ap (λ (v : PaperVerdict). into v k o) written_run
