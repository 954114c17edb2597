-- The lookup's search: the relation line of a tape and record that passes a test, or none.
--   Found p k        = it passes the test p too
--   Absent p         = no line does
use Prim.Native.Nat.{ℕ, ◌<◌}
use mathlib.Core.Path.{◌≡◌}
use mathlib.Core.Logic.{◌↔◌, ◌⊎◌, inl, inr, ⊎_elim}
use mathlib.Core.Bool.{Bool, true, ◌&&◌}
use mathlib.Core.List.{List}
use Rattle.rules.specs.Sheet.{Sheet}
use Rattle.rules.specs.Lines.{is_data}
use Rattle.rules.specs.Relations.{Reach, reach_at}
use Rattle.rules.specs.Reaches.{reaches_of, of_record, search}
use Rattle.rules.specs.MeetsQuestions.{Of}
use Rattle.rules.proofs.Tests.{and_is}
use Rattle.rules.proofs.Least.{least_is, least_first}
use Rattle.rules.proofs.Form.{data_is}
use Rattle.rules.proofs.Order.{of_record_is}

module _ (x : Sheet) (t : List ℕ) (n : ℕ) where
  abbrev pub Found : (Reach → Bool) → ℕ → Type 0
  Found p k = (k < x.count) × (Of x t n k × (p (reach_at x k) ≡ true))

  abbrev pub Absent : (Reach → Bool) → Type 0
  Absent p = (k : ℕ) → k < x.count → Of x t n k → p (reach_at x k) ≡ true → ⊥

  passes : (p : Reach → Bool) (k : ℕ)
      → (is_data x k && (of_record t n (reach_at x k) && p (reach_at x k)) ≡ true) ↔ (Of x t n k × (p (reach_at x k) ≡ true))
  passes p k =
      let b = and_is (is_data x k) (of_record t n (reach_at x k) && p (reach_at x k)) in
      let c = and_is (of_record t n (reach_at x k)) (p (reach_at x k)) in
      let o = of_record_is t n (reach_at x k) in (
        λ e. let w = b.0 e in let v = c.0 w.1 in (((data_is x k).0 w.0, o.0 v.0), v.1),
        λ w. b.1 ((data_is x k).1 w.0.0, c.1 (o.1 w.0.1, w.1)),
      )

  pub search_is : (p : Reach → Bool)
      → Found p (search (reaches_of x) t n p) ⊎ ((search (reaches_of x) t n p ≡ x.count) × Absent p)
  unfolding search reaches_of
  search_is p =
      ⊎_elim (λ w. inl (w.0, (passes p _).0 w.1)) (λ w. inr (w.0, λ k h o e. w.1 k h ((passes p k).1 (o, e))))
      (least_is x.count (λ k. is_data x k && (of_record t n (reach_at x k) && p (reach_at x k))))

  pub search_first : (p : Reach → Bool) (k : ℕ) → Found p k → ((j : ℕ) → j < k → Of x t n j → p (reach_at x j) ≡ true → ⊥)
      → search (reaches_of x) t n p ≡ k
  unfolding search reaches_of
  search_first p k w f =
      least_first x.count k _ (w.0, (passes p k).1 w.1, λ j l u. let v = (passes p j).0 u in f j l v.0 v.1)
