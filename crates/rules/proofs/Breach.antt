-- The first breach: what it is to meet a plan, and to break it first by a refusal. Both are proved of every plan at once.
--   Met p        = every rule of the plan that is looked for is met
--   Broken w p   = the rule of refusal w is broken, at its place, and all that is looked for before it is met
--   run_met      = a plan is fine exactly when it is met
--   run_broken   = it refuses by w exactly when it is broken first by w
use Prim.Native.Nat.{ℕ, zero, suc, ◌<◌}
use native.Mathlib.Nat.{not-suc-le-zero, lt-suc_self}
use native.Mathlib.Omega.{arith}
use mathlib.Core.Path.{◌≡◌, refl, sym, ap, ◌∙◌}
use mathlib.Core.Logic.{◌↔◌, ◌⊎◌, inl, inr, ⊎_elim}
use mathlib.Core.Bool.{Bool, true, false}
use Rattle.rules.specs.Places.{pick}
use Rattle.rules.specs.Plan.{Refusal, Verdict, fine, refused, ◌or_else◌, first_of, Plan, pass, need, ◌before◌, up_to, when, run}
use Rattle.rules.proofs.Tests.{clash, more}

abbrev pub Met : Plan → Type 0
Met pass = Unit {0}
Met (need t w) = t ≡ true
Met (p before q) = Met p × Met q
Met (up_to n p) = (k : ℕ) → k < n → Met (p k)
Met (when t p) = t ≡ true → Met p

unfoldable pub Broken : Refusal → Plan → Type 0
Broken w pass = ⊥
Broken w (need t v) = (t ≡ true → ⊥) × (v ≡ w)
Broken w (p before q) = Broken w p ⊎ (Met p × Broken w q)
Broken w (up_to n p) = (k : ℕ) × (k < n) × ((j : ℕ) → j < k → Met (p j)) × Broken w (p k)
Broken w (when t p) = (t ≡ true) × Broken w p

pub no_fine {ℓ} : {A : Type ℓ} {w : Refusal} → refused w ≡ fine → A
no_fine e = absurd (let z : ◌≡◌ {A = ℕ} 0 1 = cc in omega arith)

-- two verdicts
pub or_else_fine : (v u : Verdict) → (v or_else u ≡ fine) ↔ ((v ≡ fine) × (u ≡ fine))
unfolding ◌or_else◌
or_else_fine fine u = (λ e. (refl, e), λ h. h.1)
or_else_fine (refused w) u = (λ e. no_fine e, λ h. h.0)

pub or_else_refused : (v u : Verdict) (w : Refusal)
    → (v or_else u ≡ refused w) ↔ ((v ≡ refused w) ⊎ ((v ≡ fine) × (u ≡ refused w)))
unfolding ◌or_else◌
or_else_refused fine u w = (λ e. inr (refl, e), λ h. ⊎_elim (λ e. no_fine (sym e)) (λ e. e.1) h)
or_else_refused (refused a) u w = (λ e. inl e, λ h. ⊎_elim (λ e. e) (λ e. no_fine e.0) h)

-- the first n
pub first_fine : (n : ℕ) (f : ℕ → Verdict) → (first_of n f ≡ fine) ↔ ((k : ℕ) → k < n → f k ≡ fine)
unfolding first_of
first_fine zero f = (λ e k h. absurd (not-suc-le-zero h), λ h. refl)
first_fine (suc n) f = (
  λ e k h.
      let both = (or_else_fine (first_of n f) (f n)).0 e in
      more h ((first_fine n f).0 both.0 k) (λ q. ap f q ∙ both.1),
  λ h. (or_else_fine (first_of n f) (f n)).1 ((first_fine n f).1 (λ k q. h k (omega arith)), h n (lt-suc_self n)),
)

abbrev pub Stops : ℕ → (ℕ → Verdict) → Refusal → Type 0
Stops n f w = (k : ℕ) × (k < n) × ((j : ℕ) → j < k → f j ≡ fine) × (f k ≡ refused w)

pub first_refused : (n : ℕ) (f : ℕ → Verdict) (w : Refusal) → (first_of n f ≡ refused w) ↔ Stops n f w
unfolding first_of
first_refused zero f w = (λ e. no_fine (sym e), λ s. absurd (not-suc-le-zero s.1))
first_refused (suc n) f w =
    let b = or_else_refused (first_of n f) (f n) w in
    let ih = first_refused n f w in (
      λ e.
          ⊎_elim (λ g. let s = ih.0 g in (s.0, omega arith, s.2, s.3)) (λ g. (n, lt-suc_self n, (first_fine n f).0 g.0, g.1))
          (b.0 e),
      λ s.
          b.1
          (more s.1 (λ q. inl (ih.1 (s.0, q, s.2, s.3)))
          (λ q. inr ((first_fine n f).1 (λ j h. s.2 j (omega arith)), ap f (sym q) ∙ s.3))),
    )

-- a test
pub test_fine : (t : Bool) (w : Refusal) → (pick t fine (refused w) ≡ fine) ↔ (t ≡ true)
unfolding pick
test_fine true w = (λ e. refl, λ e. refl)
test_fine false w = (λ e. no_fine e, λ e. clash e)

test_refused : (t : Bool) (v w : Refusal) → (pick t fine (refused v) ≡ refused w) ↔ ((t ≡ true → ⊥) × (v ≡ w))
unfolding pick
test_refused true v w = (λ e. no_fine (sym e), λ h. absurd (h.0 refl))
test_refused false v w = (λ e. ((λ g. clash g), (cc)), λ h. ap refused h.1)

when_fine : (t : Bool) (v : Verdict) → (pick t v fine ≡ fine) ↔ (t ≡ true → v ≡ fine)
unfolding pick
when_fine true v = (λ e h. e, λ h. h refl)
when_fine false v = (λ e h. clash h, λ h. refl)

when_refused : (t : Bool) (v : Verdict) (w : Refusal) → (pick t v fine ≡ refused w) ↔ ((t ≡ true) × (v ≡ refused w))
unfolding pick
when_refused true v w = (λ e. (refl, e), λ h. h.1)
when_refused false v w = (λ e. no_fine (sym e), λ h. clash h.0)

-- every plan
pub run_met : (p : Plan) → (run p ≡ fine) ↔ Met p
unfolding run
run_met pass = (λ e. tt, λ m. refl)
run_met (need t w) = test_fine t w
run_met (p before q) =
    let b = or_else_fine (run p) (run q) in
    (λ e. let w = b.0 e in ((run_met p).0 w.0, (run_met q).0 w.1), λ m. b.1 ((run_met p).1 m.0, (run_met q).1 m.1))
run_met (up_to n p) =
    let b = first_fine n (λ k. run (p k)) in
    (λ e k h. (run_met (p k)).0 (b.0 e k h), λ m. b.1 (λ k h. (run_met (p k)).1 (m k h)))
run_met (when t p) =
    let b = when_fine t (run p) in
    (λ e h. (run_met p).0 (b.0 e h), λ m. b.1 (λ h. (run_met p).1 (m h)))

pub run_broken : (p : Plan) (w : Refusal) → (run p ≡ refused w) ↔ Broken w p
unfolding run Broken
run_broken pass w = (λ e. no_fine (sym e), λ h. absurd h)
run_broken (need t v) w = test_refused t v w
run_broken (p before q) w =
    let u = or_else_refused (run p) (run q) w in (
      λ e. ⊎_elim (λ g. inl ((run_broken p w).0 g)) (λ g. inr ((run_met p).0 g.0, (run_broken q w).0 g.1)) (u.0 e),
      λ h. u.1 (⊎_elim (λ g. inl ((run_broken p w).1 g)) (λ g. inr ((run_met p).1 g.0, (run_broken q w).1 g.1)) h),
    )
run_broken (up_to n p) w =
    let u = first_refused n (λ k. run (p k)) w in (
      λ e. let s = u.0 e in (s.0, s.1, (λ j h. (run_met (p j)).0 (s.2 j h)), (run_broken (p s.0) w).0 s.3),
      λ h. u.1 (h.0, h.1, (λ j l. (run_met (p j)).1 (h.2 j l)), (run_broken (p h.0) w).1 h.3),
    )
run_broken (when t p) w =
    let u = when_refused t (run p) w in
    (λ e. let s = u.0 e in (s.0, (run_broken p w).0 s.1), λ h. u.1 (h.0, (run_broken p w).1 h.1))
