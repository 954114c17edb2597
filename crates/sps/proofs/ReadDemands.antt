-- The demands of the calls for C hosts that read one line, from their contracts.
--   read_point_told, read_relation_told = what a host reads off the number, and what stands in its slice
use Prim.Native.Nat.{ℕ, ◌-◌, ◌≤◌}
use native.Mathlib.Omega.{arith}
use mathlib.Core.Path.{◌≡◌, refl, sym, ap, ◌∙◌}
use mathlib.Core.Logic.{◌↔◌}
use mathlib.Core.List.{List, []}
use lib.ListN.{length}
use contract.Lifetimes.{Lfts}
use denote.Triple.Clauses.{AtExit}
use borrow.Fn.World.{ArgsD, ResD}
use Rattle.rules.specs.Plan.{Refusal, №, Verdict, fine, refused}
use Rattle.rules.specs.Layout.{sps93}
use Rattle.rules.specs.Medium.{Medium, sheet}
use Rattle.rules.specs.Points.{State, live, killed, marker, point_at}
use Rattle.rules.specs.Relations.{relation_at}
use Rattle.rules.specs.Carried.{state_place, point_places, relation_places}
use Rattle.rules.specs.Calls.{Choice, on, none, choice, Chosen}
use Rattle.rules.specs.Refuses.{Order, Kept, First}
use Rattle.rules.specs.MeetsLine.{read_point_order, read_relation_order}
use Rattle.rules.specs.Listed.{Listed}
use Rattle.rules.proofs.Medium.{Lawful}
use Rattle.rules.proofs.Media.{chosen_lawful}
use Rattle.rules.proofs.Listed.{asked_listed}
use Rattle.rules.proofs.OneLine.{point_fine, point_refused, relation_fine, relation_refused, point_line_listed, relation_line_listed}
use Rattle.sps.specs.Counts.{placed}
use Rattle.sps.specs.Values.{read_as, carried, Told, PointTold, RelationTold}
use Rattle.sps.specs.Said.{RefusedAs, TellsRead, ValuesTold}
use Rattle.sps.proofs.Told.{refused_as}
use Rattle.sps.proofs.Placed.{placed_length}
use Rattle.sps.proofs.Counts.{placed_at, placed_beyond}
use Rattle.sps.specs.contracts.line.sps_read_point as sps_read_point
use Rattle.sps.proofs.line.sps_read_point.Reads as sps_read_point_reads
use Rattle.sps.specs.contracts.line.sps_read_relation as sps_read_relation
use Rattle.sps.proofs.line.sps_read_relation.Reads as sps_read_relation_reads

-- what is told of a line whose verdict is v, by the order that the verdict goes by
module _ (v : Verdict) (s : ℕ) (small : s ≤ 2) (ps : List ℕ) (sixteen : length ps ≡ 16) (o e : List ℕ) (a : ℕ) (t : Told v s ps o a e) (u : Order)
    (kept : (v ≡ fine) ↔ Kept u) (first : (w : Refusal) → (v ≡ refused w) ↔ First u w) (listed : (w : Refusal) → v ≡ refused w → Listed w) where
  read : v ≡ fine → a ≡ s
  unfolding read_as
  read y = t.answer ∙ ap (λ (v : Verdict). read_as v s) y

  denied : (i f l c : ℕ) → v ≡ refused (№ i f l c) → RefusedAs a i f l c
  unfolding read_as
  denied i f l c y = refused_as i f l c (listed _ y) a (t.answer ∙ ap (λ (v : Verdict). read_as v s) y)

  parts_same : (n m k d i f l c : ℕ) → RefusedAs a n m k d → RefusedAs a i f l c → № n m k d ≡ № i f l c
  parts_same n m k d i f l c p q =
      rw (
        sym p.1.0 ∙ q.1.0,
        sym p.1.1.0 ∙ q.1.1.0,
        sym p.1.1.1.0 ∙ q.1.1.1.0,
        sym p.1.1.1.1 ∙ q.1.1.1.1,
      )

  tells : TellsRead a u s
  tells = go v refl
    where
      go : (w : Verdict) → v ≡ w → TellsRead a u s
      go fine y =
          let r = read y in
          record {
            read_when = (λ _. kept.0 y, λ _. omega arith);
            state = λ _. r;
            refused_when = λ i f l c. (λ h. let z = h.0 in absurd (omega arith), λ g. denied i f l c ((first _).1 g));
          }
      go (refused (№ n m k d)) y =
          let own = denied n m k d y in
          let high = own.0 in
          record {
            read_when = (λ h. absurd (omega arith), λ g. let r = read (kept.1 g) in omega arith);
            state = λ g. read (kept.1 g);
            refused_when = λ i f l c.
                (λ h. (first _).0 (y ∙ ap refused (parts_same n m k d i f l c own h)), λ g. denied i f l c ((first _).1 g));
          }

  stands : ValuesTold a ps o e
  unfolding carried
  stands = go v refl
    where
      go : (w : Verdict) → v ≡ w → ValuesTold a ps o e
      go fine y =
          let r = read y in
          let p : e ≡ placed ps o = t.values ∙ ap (λ (v : Verdict). carried v ps o) y in
          rw p
          (record {
            size = placed_length ps o;
            written = λ _ i h l. placed_at i ps o (omega arith) l;
            others = λ i h. placed_beyond i ps o (λ l. h (omega arith));
            unwritten = λ h. absurd (omega arith);
          })
      go (refused (№ n m k d)) y =
          let high = (denied n m k d y).0 in
          let p : e ≡ o = t.values ∙ ap (λ (v : Verdict). carried v ps o) y in
          rw p
          (record {
            size = refl;
            written = λ h. absurd (omega arith);
            others = λ i h. refl;
            unwritten = λ _. refl;
          })

state_few : (s : State) → state_place s ≤ 2
state_few live = omega arith
state_few killed = omega arith
state_few marker = omega arith

-- a number that is no medium's
neither : (o e : List ℕ) (n : ℕ) → Told (refused (№ 20 0 0 0)) 0 [] o n e → RefusedAs n 20 0 0 0 × (e ≡ o)
unfolding read_as carried
neither o e n t = (refused_as 20 0 0 0 asked_listed n t.answer, t.values)

point_by : (d : Choice) → ((M : Medium) → d ≡ on M → Lawful M) → (b : ℕ) (f : List ℕ) (l : ℕ) (o : List ℕ) (n : ℕ) (e : List ℕ) → PointTold d b f l o n e
    → Chosen d
    (λ M. let p = point_at (sheet M sps93 f) (l - 1) in
    TellsRead n (read_point_order b (sheet M sps93 f) l) (state_place p.state) × ValuesTold n (point_places p) o e)
    (RefusedAs n 20 0 0 0 × (e ≡ o))
unfolding point_places
point_by (on M) g b f l o n e t =
    let k = point_fine b (sheet M sps93 f) l in
    let r = point_refused b (sheet M sps93 f) l in
    let w = point_line_listed M (g M refl) f l b in
    let s = state_few (point_at (sheet M sps93 f) (l - 1)).state in
    let u = read_point_order b (sheet M sps93 f) l in
    (tells _ _ s _ refl o e n t u k r w, stands _ _ s _ refl o e n t u k r w)
point_by none g b f l o n e t = neither o e n t

relation_by : (d : Choice) → ((M : Medium) → d ≡ on M → Lawful M) → (f : List ℕ) (l : ℕ) (o : List ℕ) (n : ℕ) (e : List ℕ) → RelationTold d f l o n e
    → Chosen d
    (λ M. TellsRead n (read_relation_order (sheet M sps93 f) l) 0 × ValuesTold n (relation_places (relation_at (sheet M sps93 f) (l - 1))) o e)
    (RefusedAs n 20 0 0 0 × (e ≡ o))
unfolding relation_places
relation_by (on M) g f l o n e t =
    let k = relation_fine (sheet M sps93 f) l in
    let r = relation_refused (sheet M sps93 f) l in
    let w = relation_line_listed M (g M refl) f l in
    let u = read_relation_order (sheet M sps93 f) l in
    (tells _ _ (omega arith) _ refl o e n t u k r w, stands _ _ (omega arith) _ refl o e n t u k r w)
relation_by none g f l o n e t = neither o e n t

-- "Reading a line's values": of R or S by its letter, and of X
pub read_point_told : (κs : Lfts 2) (a : ArgsD sps_read_point.signature κs) (n : ResD sps_read_point.signature κs) (w : AtExit sps_read_point.ended κs)
    → sps_read_point_reads.Post κs a n w
    → Chosen (choice a.0)
    (λ M. let p = point_at (sheet M sps93 a.1.1.0.now) (a.1.1.1.0 - 1) in
    TellsRead n (read_point_order a.1.0 (sheet M sps93 a.1.1.0.now) a.1.1.1.0) (state_place p.state)
    × ValuesTold n (point_places p) a.1.1.1.1.0.now w.1.1.1.1.0.now)
    (RefusedAs n 20 0 0 0 × (w.1.1.1.1.0.now ≡ a.1.1.1.1.0.now))
read_point_told κs a n w p =
    point_by (choice a.0) (chosen_lawful a.0) a.1.0 a.1.1.0.now a.1.1.1.0 a.1.1.1.1.0.now n w.1.1.1.1.0.now p

pub read_relation_told : (κs : Lfts 2) (a : ArgsD sps_read_relation.signature κs) (n : ResD sps_read_relation.signature κs)
    (w : AtExit sps_read_relation.ended κs) → sps_read_relation_reads.Post κs a n w
    → Chosen (choice a.0)
    (λ M. TellsRead n (read_relation_order (sheet M sps93 a.1.0.now) a.1.1.0) 0
    × ValuesTold n (relation_places (relation_at (sheet M sps93 a.1.0.now) (a.1.1.0 - 1))) a.1.1.1.0.now w.1.1.1.0.now)
    (RefusedAs n 20 0 0 0 × (w.1.1.1.0.now ≡ a.1.1.1.0.now))
read_relation_told κs a n w p =
    relation_by (choice a.0) (chosen_lawful a.0) a.1.0.now a.1.1.0 a.1.1.1.0.now n w.1.1.1.0.now p
