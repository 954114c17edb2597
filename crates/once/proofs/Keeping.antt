-- What is kept from one line of a record to the next.
--   few_lines     = line numbers are small
--   found         = the receivers of each line of the record up to k are rows
--   unmarked      = before line 8 of a record no row has its mark
--   kept_few, kept_now, kept_more = before that line, at it, and beyond
use Prim.Native.Nat.{ℕ, ◌+◌, ◌-◌, ◌≤◌, ◌<◌}
use native.Mathlib.Omega.{arith}
use mathlib.Core.Path.{◌≡◌}
use mathlib.Core.List.{List}
use lib.ListN.{length}
use Rattle.rules.specs.Plan.{Verdict, Refusal, fine, refused}
use Rattle.rules.specs.Sheet.{Sheet, most_lines}
use Rattle.once.specs.Covered.{Found}
use Rattle.once.specs.Marks.{pairs, Below, Put, Marked, Kept, Ready}
use Rattle.once.proofs.Marking.{marked_more}

module _ (r : Sheet) (o : List ℕ) (x : Sheet) (t : List ℕ) (a k : ℕ) (w : Ready r o x t a k) where
  pub few_lines : (a ≤ k) × (k < 10000)
  unfolding most_lines
  few_lines =
      let l = (w.lines.1 k w.lines.0 (omega arith)).0 in
      let f = w.relations.few in
      (w.lines.0, omega arith)

  pub found : (j : ℕ) → a ≤ j → j ≤ k → (u : List ℕ) → length u ≡ length t → Found r o x u j
  found j l h u e =
      record {
        receivers = w.receivers;
        rows = w.rows;
        relations = w.relations;
        alike = w.alike;
        line = w.lines.1 j l h;
        there = w.there j l h;
        room = let m = w.kept.room in omega arith;
      }

  pub unmarked : k - a < 8 → Below t (a + 1)
  unfolding pairs
  unmarked h = w.kept.few (omega (arith, w.lines.0))

  pub marked : 8 ≤ k - a → Marked r o x t a k
  unfolding pairs
  marked h = w.kept.many (omega (arith, w.lines.0))

  pub kept_few : k - a < 8 → (k + 1 - a ≡ 8 → ⊥) → Kept r o x t a (k + 1)
  unfolding pairs
  kept_few h n =
      record {
        room = w.kept.room;
        few = λ l. unmarked h;
        many = λ l. absurd (let z = w.lines.0 in n (omega arith));
      }

  pub kept_now : k + 1 - a ≡ 8 → (u : List ℕ) → length u ≡ length t → Marked r o x u a (k + 1) → Kept r o x u a (k + 1)
  unfolding pairs
  kept_now n u e m =
      record {
        room = let z = w.kept.room in omega arith;
        few = λ l. absurd (let z = w.lines.0 in omega arith);
        many = λ l. m;
      }

  pub kept_more : 8 ≤ k - a → (v : ℕ) → v ≡ a + 1 → (u : List ℕ) → Put r o x k v t u → Kept r o x u a (k + 1)
  unfolding pairs
  kept_more n v e u p =
      record {
        room = let z = w.kept.room in omega (arith, p.size);
        few = λ l. absurd (let z = w.lines.0 in omega arith);
        many = λ l. marked_more r o x a t u k v e w.lines.0 (marked n) p;
      }

-- a refusal keeps nothing
pub never_fine : {A : Type 0} (v : Verdict) (w : Refusal) → v ≡ refused w → fine ≡ v → A
never_fine v w e f = absurd (let z : ◌≡◌ {A = ℕ} 0 1 = cc in omega arith)
