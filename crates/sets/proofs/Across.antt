-- The rules across the files, part by part: what each part asks for.
--   small_keys, few_rows         = lines of a known file can be put in order, and are few
--   whole_arrays                 = the arrays of the call have a place for each line
--   in_order                     = 10 to 12 are met
--   shots_in_order               = so are 13 and 14, where the pass over X found nothing
--   whole                        = the three parts are the rules across the files
use Prim.Native.Nat.{ℕ, ◌≤◌}
use native.Mathlib.Omega.{arith}
use mathlib.Core.Path.{◌≡◌, sym}
use mathlib.Core.List.{List}
use lib.ListN.{length, take, replicate, length-replicate}
use lib.Seq.{length-take-le}
use Rattle.rules.specs.Plan.{fine, ◌before◌, up_to, run}
use Rattle.rules.specs.Sheet.{Sheet, most_lines}
use Rattle.rules.specs.Order.{rule10}
use Rattle.rules.specs.Check.{relation_fits}
use Rattle.rules.proofs.Breach.{run_met}
use Rattle.form.specs.Known.{Known}
use Rattle.form.proofs.Laws.{grouped}
use Rattle.keys.specs.Held.{shot_fits}
use Rattle.keys.specs.Keyed.{key_at}
use Rattle.keys.specs.declared.By.{By}
use Rattle.keys.proofs.Fit.{key_small}
use Rattle.order.specs.Sorted.{Small}
use Rattle.order.specs.Listed.{InOrder}
use Rattle.shots.specs.Places.{shot_order, all_named, Ordered as OrderedShots}
use Rattle.relations.specs.Walk.{all_relate}
use Rattle.sets.specs.Paper.{points_of, across, KnownSet, Ordered, Arrays}
use Rattle.sets.proofs.Answers.{first_met, then_met}

-- the arrays
module _ (i : ℕ) (f : Sheet) (w : Known i f) (t : By) where
  pub small_keys : Small (key_at t f)
  small_keys = record { second = λ k. (key_small i f w k t).0; third = λ k. (key_small i f w k t).1 }

  pub few_rows : (o : List ℕ) (m : ℕ) → InOrder t f o m → length (take m o) ≤ most_lines
  few_rows o m z = omega (arith, w.few, z.few, length-take-le m o z.room)

pub whole_arrays : Arrays (replicate 9999 0) (replicate 9999 0)
unfolding most_lines
whole_arrays = let e = length-replicate {A = ℕ} 9999 0 in (omega arith, omega arith)

module _ (r s x : Sheet) where
  pub in_order : KnownSet r s x → fine ≡ run (points_of r s) → Ordered r s x
  in_order k m =
      record {
        receivers = (k.receivers, first_met _ _ m);
        shots = (k.shots, then_met _ _ m);
        relations = k.relations;
      }

  pub shots_in_order : Ordered r s x → fine ≡ run (all_relate r s x) → OrderedShots s x
  unfolding relation_fits
  shots_in_order o m =
      record {
        shots = o.shots;
        relations = o.relations;
        met = sym (
            (run_met (up_to x.count (shot_order s x))).1
            (λ k h d. let z = (run_met (all_relate r s x)).0 (sym m) k h d in (z.0, z.1.0))
            );
      }

  pub whole : run (points_of r s before all_relate r s x before all_named s x) ≡ run (across r s x)
  unfolding across
  whole = grouped (up_to r.count (rule10 r)) (up_to s.count (shot_fits s)) (all_relate r s x before all_named s x)
