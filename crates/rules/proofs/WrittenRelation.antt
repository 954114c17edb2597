-- A written relation line: it is read as its relation, what is read from a line that meets 5 and 6 can be written, and what is written meets both.
--   counted_is                         = the writer's 6 is 6 of a line
--   relation_back, relation_row        = the line is read as the relation, with its CR and LF and without
--   relation_formed                    = the line is printed, and CR and LF end it
--   relation_meets, relation_row_meets = it meets 5 and 6, with them and without
--   relation_same                      = read and written, it comes back byte for byte
--   relation_again, relation_kept      = the relation of any line that meets 5 and 6 can be written, and is read from what is written
use Prim.Native.Nat.{ℕ}
use native.Mathlib.Omega.{arith}
use mathlib.Core.Path.{◌≡◌, refl, ap, ◌∙◌}
use mathlib.Core.Logic.Iff
use mathlib.Core.Logic.{◌↔◌}
use mathlib.Core.Bool.{true, false}
use mathlib.Core.List.{List, [], ◌∷◌}
use lib.ListN.{take}
use Rattle.rules.specs.Plan.{file_x, Verdict, fine, refused, run}
use Rattle.rules.specs.Text.{col}
use Rattle.rules.specs.Layout.{sps93, letter_column}
use Rattle.rules.specs.Lines.{letter}
use Rattle.rules.specs.Relations.{Reach, Relation, reach, relation}
use Rattle.rules.specs.Rows.{relation_rows}
use Rattle.rules.specs.Form.{rule5, rule6}
use Rattle.rules.specs.Values.{relation_values}
use Rattle.rules.specs.Writer.{writable, line_of, relation_line, counted, relation_writes}
use Rattle.rules.proofs.Tests.{clash, and_is}
use Rattle.rules.proofs.Breach.{Met, run_met}
use Rattle.rules.proofs.Form.{rule6_is}
use Rattle.rules.proofs.Tiles.{PrintedTo, rows_go, relation_tiles, relation_fittings}
use Rattle.rules.proofs.Values.{relation_values_lem, one_relation}
use Rattle.rules.proofs.Written.{Formed, begun, line_reads, line_fits_lem, line_take, line_formed}
use Rattle.rules.proofs.Letters.{letter_printed, no_header, relation_5}

-- 6, whichever line it is asked of
no_refusal : (q : Reach) (v : Verdict) → counted q ≡ true → run (rule6 sps93 0 q) ≡ v → v ≡ fine
unfolding counted
no_refusal q fine t e = refl
no_refusal q (refused w) t e = clash (rw e at t)

run_counted : (q : Reach) → (counted q ≡ true) ↔ (run (rule6 sps93 0 q) ≡ fine)
unfolding counted
run_counted q = (λ t. no_refusal q (run (rule6 sps93 0 q)) t refl, λ e. rw e)

pub counted_is : (k : ℕ) (q : Reach) → (counted q ≡ true) ↔ Met (rule6 sps93 k q)
counted_is k q =
    Iff.trans (run_counted q)
    (Iff.trans (run_met (rule6 sps93 0 q))
    ((λ m. (rule6_is sps93 k q).1 ((rule6_is sps93 0 q).0 m)), λ m. (rule6_is sps93 0 q).1 ((rule6_is sps93 k q).0 m)))

relation_says : (v : Relation)
    → (relation_writes v ≡ true) ↔ ((writable (relation_rows sps93) (relation_values v) ≡ true) × (counted v.reach ≡ true))
unfolding relation_writes
relation_says v = and_is (writable (relation_rows sps93) (relation_values v)) (counted v.reach)

module _ (v : Relation) (e : relation_writes v ≡ true) where
  goes : writable (relation_rows sps93) (relation_values v) ≡ true
  goes = ((relation_says v).0 e).0

  row_is : take 80 (relation_line v) ≡ begun (letter file_x) (relation_rows sps93) (relation_values v) []
  row_is = line_take (letter file_x) (relation_rows sps93) (relation_values v) relation_tiles relation_fittings goes

  read_from : (zs : List ℕ) → relation sps93 (begun (letter file_x) (relation_rows sps93) (relation_values v) zs) ≡ v
  unfolding relation_values relation_rows
  read_from zs =
      one_relation _ v
      (relation_values_lem sps93 _
      ∙ line_reads (letter file_x) (relation_rows sps93) (relation_values v) relation_tiles relation_fittings goes refl zs)

  met_from : (k : ℕ) (zs : List ℕ) → Met (rule5 file_x sps93 k (begun (letter file_x) (relation_rows sps93) (relation_values v) zs))
  unfolding col
  met_from k zs =
      let l = begun (letter file_x) (relation_rows sps93) (relation_values v) zs in
      (relation_5 k l (no_header file_x l refl)).1
      (line_fits_lem (letter file_x) (relation_rows sps93) (relation_values v) relation_tiles relation_fittings goes file_x k false zs)

  counted_from : (k : ℕ) (l : List ℕ) → relation sps93 l ≡ v → Met (rule6 sps93 k (reach sps93 l))
  unfolding relation
  counted_from k l h =
      let q : reach sps93 l ≡ v.reach = ap (λ (v : Relation). v.reach) h in
      rw q ((counted_is k v.reach).0 ((relation_says v).0 e).1)

  pub relation_back : relation sps93 (relation_line v) ≡ v
  unfolding line_of
  relation_back = read_from (13 ∷ 10 ∷ [])

  pub relation_row : relation sps93 (take 80 (relation_line v)) ≡ v
  relation_row = rw row_is (read_from [])

  pub relation_formed : Formed (relation_line v)
  relation_formed =
      line_formed (letter file_x) (relation_rows sps93) (relation_values v) relation_tiles relation_fittings goes (letter_printed file_x)

  pub relation_meets : (k : ℕ) → Met (rule5 file_x sps93 k (relation_line v)) × Met (rule6 sps93 k (reach sps93 (relation_line v)))
  unfolding line_of
  relation_meets k = (met_from k (13 ∷ 10 ∷ []), counted_from k (relation_line v) relation_back)

  pub relation_row_meets : (k : ℕ)
      → Met (rule5 file_x sps93 k (take 80 (relation_line v))) × Met (rule6 sps93 k (reach sps93 (take 80 (relation_line v))))
  relation_row_meets k = (rw row_is (met_from k []), counted_from k (take 80 (relation_line v)) relation_row)

  -- a line in this spelling comes back byte for byte
  pub relation_same : relation_line (relation sps93 (take 80 (relation_line v))) ≡ relation_line v
  relation_same = rw relation_row

-- a line of X that meets 5 and 6
module _ (k : ℕ) (l : List ℕ) (p : PrintedTo 81 l) (c : col l letter_column ≡ letter file_x) (g : Met (rule5 file_x sps93 k l))
    (h : Met (rule6 sps93 k (reach sps93 l))) where
  pub relation_again : relation_writes (relation sps93 l) ≡ true
  unfolding relation
  relation_again =
      let f = (relation_5 k l (no_header file_x l c)).0 g in
      let r = rows_go l file_x k false (λ e. clash e) 2 81 (relation_rows sps93) relation_tiles (omega arith) relation_fittings p f in
      (relation_says (relation sps93 l)).1 (rw (relation_values_lem sps93 l) r, (counted_is k (reach sps93 l)).1 h)

  -- it comes back in this spelling, with the same values
  pub relation_kept : relation sps93 (take 80 (relation_line (relation sps93 l))) ≡ relation sps93 l
  relation_kept = relation_row (relation sps93 l) relation_again
