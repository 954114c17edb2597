-- The counts on acceptance are those of the set: of its receivers, shots and relation lines, the sum of T - F + 1 over these, and the traces whose
-- receiver is killed.
--   accepted_is   = the cross-check accepts with five numbers exactly when Meets holds and they are those
use Prim.Native.Nat.{ℕ}
use native.Mathlib.Omega.{arith}
use mathlib.Core.Path.{◌≡◌}
use mathlib.Core.Logic.{◌↔◌}
use Rattle.rules.specs.Sheet.{Sheet}
use Rattle.rules.specs.Lines.{is_data, is_point}
use Rattle.rules.specs.Relations.{reach_at}
use Rattle.rules.specs.Cover.{traces}
use Rattle.rules.specs.Check.{accepted, verdict, points, relations, all_traces, dead_traces, cross}
use Rattle.rules.specs.MeetsForm.{Data, Point}
use Rattle.rules.specs.Meets.{Meets, Totals}
use Rattle.rules.proofs.Form.{data_is, point_is}
use Rattle.rules.proofs.Meets.{verdict_meets}
use Rattle.rules.proofs.Demand3.{Answered, answered}
use Rattle.rules.proofs.Which.{how_many, how_much}
use Rattle.rules.proofs.Dead.{dead_is}

accepted_answered : (a b c d e : ℕ) → Answered (accepted a b c d e)
accepted_answered a b c d e w p = let z : ◌≡◌ {A = ℕ} 0 1 = cc in omega arith

pub accepted_is : (r s x : Sheet) (a b c d e : ℕ) → (cross r s x ≡ accepted a b c d e) ↔ (Meets r s x × Totals r s x a b c d e)
unfolding cross points relations all_traces dead_traces
accepted_is r s x a b c d e =
    let w = answered (verdict r s x) (accepted (points r) (points s) (relations x) (all_traces x) (dead_traces r x)) _ (accepted_answered a b c d e) in
    let m = verdict_meets r s x in
    let lr = how_many r (is_point r) (Point r) (point_is r) a in
    let ls = how_many s (is_point s) (Point s) (point_is s) b in
    let lx = how_much x (is_data x) (Data x) (data_is x) (λ k. traces (reach_at x k)) c d in (
      λ y.
          let v = w.0 y in
          let f = v.1 in
          let ok = m.0 v.0 in
          (ok, record { receivers = lr.1 (cc); shots = ls.1 (cc); relations = lx.1 ((cc), (cc)); dead = (dead_is r s x ok e).0 (cc) }),
      λ y.
          let n = y.1 in
          let p = lr.0 n.receivers in
          let q = ls.0 n.shots in
          let u = lx.0 n.relations in
          let u0 = u.0 in
          let u1 = u.1 in
          let o = (dead_is r s x y.0 e).1 n.dead in
          w.1 (m.1 y.0, cc),
    )
