-- The rules of a relation line in three parts: its shot, its record, its receivers.
--   in_parts      = the line's plan is its parts, one after the other
--   stops_shot, stops_record, stops_reach = the first part that refuses
--   all_fine      = no part refuses
--   header_fine   = of a header line nothing is asked
use Prim.Native.Nat.{ℕ}
use mathlib.Core.Path.{◌≡◌, refl, ◌∙◌}
use mathlib.Core.Bool.{true, false}
use Rattle.rules.specs.Places.{pick}
use Rattle.rules.specs.Plan.{Refusal, Verdict, fine, refused, ◌or_else◌, Plan, ◌before◌, run}
use Rattle.rules.specs.Sheet.{Sheet}
use Rattle.rules.specs.Lines.{is_data}
use Rattle.rules.specs.Order.{rule13, rule14, rule16, rule17}
use Rattle.rules.specs.Check.{relation_fits}
use Rattle.rules.proofs.Steps.{when_off}
use Rattle.shots.specs.Places.{shot_found}
use Rattle.relations.specs.Walk.{reach_fits}

abbrev pub mate_fits : Sheet → ℕ → Plan
mate_fits x k = rule16 x k before rule17 x k

grouped : (a b c d e : Verdict) → (a or_else b) or_else ((c or_else d) or_else e) ≡ a or_else (b or_else (c or_else (d or_else e)))
unfolding ◌or_else◌
grouped fine fine fine d e = refl
grouped fine fine (refused w) d e = refl
grouped fine (refused w) c d e = refl
grouped (refused w) b c d e = refl

module _ (r s x : Sheet) (k : ℕ) where
  pub header_fine : is_data x k ≡ false → fine ≡ run (relation_fits r s x k)
  unfolding relation_fits
  header_fine e = when_off _ _ e

  module _ (d : is_data x k ≡ true) where
    pub in_parts : run (shot_found s x k) or_else (run (mate_fits x k) or_else run (reach_fits r x k)) ≡ run (relation_fits r s x k)
    unfolding relation_fits run pick
    in_parts =
        grouped (run (rule13 s x k)) (run (rule14 s x k)) (run (rule16 x k)) (run (rule17 x k)) (run (reach_fits r x k))
        ∙ (rw d)

    pub stops_shot : (w : Refusal) → refused w ≡ run (shot_found s x k) → refused w ≡ run (relation_fits r s x k)
    unfolding ◌or_else◌
    stops_shot w e = (rw (← e)) ∙ in_parts

    module _ (a : fine ≡ run (shot_found s x k)) where
      pub stops_record : (w : Refusal) → refused w ≡ run (mate_fits x k) → refused w ≡ run (relation_fits r s x k)
      unfolding ◌or_else◌
      stops_record w e = (rw (← a, ← e)) ∙ in_parts

      module _ (b : fine ≡ run (mate_fits x k)) where
        pub stops_reach : (w : Refusal) → refused w ≡ run (reach_fits r x k) → refused w ≡ run (relation_fits r s x k)
        unfolding ◌or_else◌
        stops_reach w e = (rw (← a, ← b, ← e)) ∙ in_parts

        pub all_fine : fine ≡ run (reach_fits r x k) → fine ≡ run (relation_fits r s x k)
        unfolding ◌or_else◌
        all_fine e = (rw (← a, ← b, ← e)) ∙ in_parts
