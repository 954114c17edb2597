-- A plan is an order in words, and their parts.
--   Same p o     = the plan is met where each rule of the order holds, and its first breach is the same
use Prim.Native.Nat.{ℕ, zero, suc, ◌≤◌, ◌<◌}
use native.Mathlib.Nat.{not-suc-le-zero, lt-suc_self}
use native.Mathlib.Omega.{arith}
use mathlib.Core.Logic.{◌↔◌, inl, inr, ⊎_elim}
use mathlib.Core.Bool.{Bool}
use lib.Dec.{ltb}
use borrow.Author.Tests.{ltb-true, lt-ltb}
use Rattle.rules.specs.Plan.{Refusal, Plan, ◌before◌, up_to, when}
use Rattle.rules.specs.Refuses.{Order, look, ◌then◌, line_by_line, Kept, First}
use Rattle.rules.proofs.Tests.{more, yes_no}
use Rattle.rules.proofs.Breach.{Met, Broken}

pub record Same (p : Plan) (o : Order) : Type 0 where
  pub met : Met p ↔ Kept o
  pub broken : (w : Refusal) → Broken w p ↔ First o w

pub same_look : {p : Plan} {R : Type 0} {B : Refusal → Type 0} → Met p ↔ R → ((w : Refusal) → Broken w p ↔ B w) → Same p (look R B)
same_look m b = record { met = m; broken = b }

-- one after the other: the second is looked for where the first is met
pub same_then : {p q : Plan} {o u : Order} → Same p o → (Met p → Same q u) → Same (p before q) (o then u)
unfolding Broken
same_then s f =
    record {
      met = (
        λ m. (s.met.0 m.0, (f m.0).met.0 m.1),
        λ k. let m = s.met.1 k.0 in (m, (f m).met.1 k.1),
      );
      broken = λ w. (
        λ b. ⊎_elim (λ h. inl ((s.broken w).0 h)) (λ h. inr (s.met.0 h.0, ((f h.0).broken w).0 h.1)) b,
        λ b. ⊎_elim (λ h. inl ((s.broken w).1 h)) (λ h. let m = s.met.1 h.0 in inr (m, ((f m).broken w).1 h.1)) b,
      );
    }

-- line by line: of a line where those before it are met
module _ (n : ℕ) (p : ℕ → Plan) (o : ℕ → Order) (f : (k : ℕ) → k < n → ((j : ℕ) → j < k → Met (p j)) → Same (p k) (o k)) where
  earlier_met : (k : ℕ) → k ≤ n → ((j : ℕ) → j < k → Kept (o j)) → (j : ℕ) → j < k → Met (p j)
  earlier_met zero h g j l = absurd (not-suc-le-zero l)
  earlier_met (suc k) h g j l =
      let ih = earlier_met k (omega arith) (λ j l. g j (omega arith)) in
      more l (ih j) (λ e. let m = (f k (omega arith) ih).met.1 (g k (lt-suc_self k)) in rw e m)

  pub same_lines_lem : Same (up_to n p) (line_by_line n o)
  unfolding Broken
  same_lines_lem =
      record {
        met = (
          λ m k h. (f k h (λ j l. m j (omega arith))).met.0 (m k h),
          λ g. earlier_met n (omega arith) g,
        );
        broken = λ w. (
          λ b. (
            b.0,
            b.1,
            (λ j l. let h = b.1 in (f j (omega arith) (λ i e. b.2 i (omega arith))).met.0 (b.2 j l)),
            ((f b.0 b.1 b.2).broken w).0 b.3,
          ),
          λ b.
              let h = b.1 in
              let m = earlier_met b.0 (omega arith) b.2 in
              (b.0, b.1, m, ((f b.0 b.1 m).broken w).1 b.3),
        );
      }

-- the same of fewer lines, where the others have nothing to break
pub same_fewer : (m n : ℕ) (p : ℕ → Plan) (o : ℕ → Order) → m ≤ n → ((k : ℕ) → k < m → Same (p k) (o k))
    → ((k : ℕ) → m ≤ k → Kept (o k)) → ((k : ℕ) (w : Refusal) → First (o k) w → k < m) → Same (up_to m p) (line_by_line n o)
unfolding Broken
same_fewer m n p o l f g h =
    record {
      met = (
        λ y k b. below k (λ q. (f k q).met.0 (y k q)),
        λ y k b. (f k b).met.1 (y k (omega arith)),
      );
      broken = λ w. (
        λ b.
            let q = b.1 in
            (b.0, omega arith, (λ j e. below j (λ z. (f j z).met.0 (b.2 j e))), ((f b.0 q).broken w).0 b.3),
        λ b.
            let q = h b.0 w b.3 in
            (b.0, q, (λ j e. (f j (omega arith)).met.1 (b.2 j e)), ((f b.0 q).broken w).1 b.3),
      );
    }
  where
    below : (k : ℕ) → (k < m → Kept (o k)) → Kept (o k)
    below k y = yes_no (ltb k m) (λ t. y (ltb-true k m t)) (λ t. g k (let n : k < m → ⊥ = λ l. t (lt-ltb k m l) in omega arith))

-- where a test passes: each of two
pub same_when : (t : Bool) {p q : Plan} {o : Order} → Same (when t p before when t q) o → Same (when t (p before q)) o
unfolding Broken
same_when t s =
    record {
      met = (
        λ m. s.met.0 ((λ e. (m e).0), λ e. (m e).1),
        λ k e. let m = s.met.1 k in (m.0 e, m.1 e),
      );
      broken = λ w. (
        λ b. (s.broken w).0 (⊎_elim (λ h. inl (b.0, h)) (λ h. inr ((λ _. h.0), (b.0, h.1))) b.1),
        λ b.
            ⊎_elim (λ h. (h.0, inl h.1)) (λ h. let e = h.1.0 in (e, inr (h.0 e, h.1.1))) ((s.broken w).1 b),
      );
    }
